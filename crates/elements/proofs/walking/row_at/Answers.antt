-- `walking::row_at` meets its contract: the sort of the name, and its row.
use borrow.Author.Rules.{rules}
use Rattle.elements.proofs.Walks.{row_there}
use Rattle.elements.proofs.walking.row_at.Goals as goal

pub returns-clause-is : goal.returns-clause-is
returns-clause-is c = search (rules, row_there)
