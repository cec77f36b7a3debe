-- `gathering::gather_old` meets its contract: what both have.
use borrow.Author.Rules.{rules}
use Rattle.std.specs.Prelude.{bit_and}
use Rattle.walks.proofs.Gatherings.{all_old}
use Rattle.walks.proofs.gathering.gather_old.Goals as goal

pub returns : goal.returns
returns c = search (rules, all_old, c.gather.ensures bit_and (λ a b r p. search rules))
