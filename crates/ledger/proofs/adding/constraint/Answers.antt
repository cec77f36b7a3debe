-- `adding::constraint` meets its contract: a law of Effects for each return.
use borrow.Author.Rules.{rules}
use Rattle.ledger.proofs.Effects.{constraint_past, constraint_kept}
use Rattle.ledger.proofs.adding.constraint.Goals as goal

pub returns-then-most-count : goal.returns-then-most-count
returns-then-most-count c = search (rules, constraint_past)

pub returns : goal.returns
returns c = search (rules, constraint_kept)
