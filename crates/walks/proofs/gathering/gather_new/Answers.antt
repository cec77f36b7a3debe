-- `gathering::gather_new` meets its contract: what either has.
use borrow.Author.Rules.{rules}
use Rattle.std.specs.Prelude.{bit_or}
use Rattle.walks.proofs.Gatherings.{all_new}
use Rattle.walks.proofs.gathering.gather_new.Goals as goal

pub returns : goal.returns
returns c = search (rules, all_new, c.gather.ensures bit_or (λ a b r p. search rules))
