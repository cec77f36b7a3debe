-- `adding::role` meets its contract: a law of Effects for each return.
use borrow.Author.Rules.{rules}
use Rattle.ledger.proofs.Effects.{role_name_sought, role_bad, role_twice_lem, role_past, role_kept}
use Rattle.ledger.proofs.adding.role.Goals as goal

pub returns-then-not-is_role_name : goal.returns-then-not-is_role_name
returns-then-not-is_role_name c = search (rules, role_bad)

pub find-d-requires : goal.find-d-requires
find-d-requires c = search (rules, role_name_sought)

pub returns-then-d-count : goal.returns-then-d-count
returns-then-d-count c = search (rules, role_twice_lem)

pub find-i-requires : goal.find-i-requires
find-i-requires c = search (rules, role_name_sought)

pub returns-then-most-d : goal.returns-then-most-d
returns-then-most-d c = search (rules, role_past)

pub returns : goal.returns
returns c = search (rules, role_kept)
