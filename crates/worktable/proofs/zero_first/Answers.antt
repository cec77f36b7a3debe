-- `zero_first` meets its contract: the first n numbers are filled with 0.
use borrow.Author.Rules.{rules}
use lib.Seq.{length-take-le}
use Rattle.worktable.specs.Work.{zeroed}
use Rattle.worktable.proofs.zero_first.Goals as goal

pub returns : goal.returns
unfolding zeroed
returns c = search (rules, length-take-le)
