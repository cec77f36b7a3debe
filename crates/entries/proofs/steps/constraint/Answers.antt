-- `steps::constraint` meets its contract: a law of Effects for each return.
use borrow.Author.Rules.{rules}
use Rattle.entries.proofs.Effects.{constraint_bad, constraint_past, constraint_open, constraint_auth}
use Rattle.entries.proofs.steps.constraint.Goals as goal

pub returns-then-not-is_constraint_kind : goal.returns-then-not-is_constraint_kind
returns-then-not-is_constraint_kind c = search (rules, constraint_bad)

pub returns-then-most-n : goal.returns-then-most-n
returns-then-most-n c = search (rules, constraint_past)

pub returns-then-are_same : goal.returns-then-are_same
returns-then-are_same c = search (rules, constraint_open)

pub returns : goal.returns
returns c = search (rules, constraint_auth)
