-- `View::role_count` meets its contract: the counts give the number of roles.
use borrow.Author.Rules.{rules}
use Rattle.reading.proofs.Holdings.{role_number}
use Rattle.reading.proofs.held.View.role_count.Goals as goal

pub returns-clause-count : goal.returns-clause-count
returns-clause-count c = search (rules, role_number)
