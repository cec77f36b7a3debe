-- `keeping::put_name` meets its contract: two writes, or none.
use borrow.Author.Rules.{rules}
use Rattle.ledger.proofs.Writes.{name_put, name_there}
use Rattle.ledger.proofs.keeping.put_name.Goals as goal

pub returns-then-i-count : goal.returns-then-i-count
returns-then-i-count c = search (rules, name_put)

pub returns-else-i-count : goal.returns-else-i-count
returns-else-i-count c = search (rules, name_there)
