-- `steps::role` meets its contract: a law of Effects for each return.
use borrow.Author.Rules.{rules}
use Rattle.entries.proofs.Effects.{role_bad, role_twice_lem, role_past, role_next}
use Rattle.entries.proofs.steps.role.Goals as goal

pub returns-then-not-is_role_name : goal.returns-then-not-is_role_name
returns-then-not-is_role_name c = search (rules, role_bad)

pub returns-then-is_some : goal.returns-then-is_some
returns-then-is_some c = search (rules, role_twice_lem)

pub returns-then-most-n : goal.returns-then-most-n
returns-then-most-n c = search (rules, role_past)

pub returns : goal.returns
returns c = search (rules, role_next)
