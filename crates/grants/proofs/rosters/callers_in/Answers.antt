-- `rosters::callers_in` meets its contract: one law for each return.
use borrow.Author.Rules.{rules}
use Rattle.grants.proofs.Granting.{grantees_none, grantees_closed, grantees_free, grantees_roles}
use Rattle.grants.proofs.rosters.callers_in.Goals as goal

pub returns-then-x-ne1 : goal.returns-then-x-ne1
returns-then-x-ne1 c = search (rules, grantees_none)

pub returns-then-x-eq1 : goal.returns-then-x-eq1
returns-then-x-eq1 c = search (rules, grantees_closed)

pub returns-then-x-eq1-2 : goal.returns-then-x-eq1-2
returns-then-x-eq1-2 c = search (rules, grantees_free)

pub returns : goal.returns
returns c = search (rules, grantees_roles)
