-- `keeping::put_record` meets its contract: a law of Writes for each return.
use borrow.Author.Rules.{rules}
use Rattle.ledger.proofs.Writes.{size_there, record_room, record_over, record_past}
use Rattle.ledger.proofs.keeping.put_record.Goals as goal

pub bounds-w-3700 : goal.bounds-w-3700
bounds-w-3700 c = search (rules, size_there)

pub returns-then-n-lt-MOST : goal.returns-then-n-lt-MOST
returns-then-n-lt-MOST c = search (rules, record_room)

pub returns-then-n-eq-MOST : goal.returns-then-n-eq-MOST
returns-then-n-eq-MOST c = search (rules, record_over)

pub returns-else-n-eq-MOST : goal.returns-else-n-eq-MOST
returns-else-n-eq-MOST c = search (rules, record_past)
