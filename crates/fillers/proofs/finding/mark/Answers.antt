-- `finding::mark` meets its contract: one digit is set.
use borrow.Author.Rules.{rules}
use Rattle.fillers.proofs.Marking.{one_marked}
use Rattle.fillers.proofs.finding.mark.Goals as goal

pub returns : goal.returns
returns c = search (rules, one_marked)
