-- `callers::with_role` meets its contract: a name that is a role is put in.
use borrow.Author.Rules.{rules}
use Rattle.callers.proofs.Callings.{role_in, role_out}
use Rattle.callers.proofs.with_role.Goals as goal

pub returns-then-i-role_count : goal.returns-then-i-role_count
returns-then-i-role_count c = search (rules, role_in)

pub returns : goal.returns
returns c = search (rules, role_out)
