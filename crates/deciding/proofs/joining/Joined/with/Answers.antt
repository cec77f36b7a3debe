-- `joining::Joined::with` meets its contract: one law for each kind of constraint.
use borrow.Author.Rules.{rules}
use Rattle.deciding.proofs.Turns.{join_open, join_closed, join_by_role}
use Rattle.deciding.proofs.joining.Joined.with.Goals as goal

pub returns-in-Open : goal.returns-in-Open
returns-in-Open c = search (rules, join_open)

pub returns-in-Closed : goal.returns-in-Closed
returns-in-Closed c = search (rules, join_closed)

pub returns-in-ByRole : goal.returns-in-ByRole
returns-in-ByRole c = search (rules, join_by_role)
