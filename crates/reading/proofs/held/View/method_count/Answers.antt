-- `View::method_count` meets its contract: the counts give the number of methods.
use borrow.Author.Rules.{rules}
use Rattle.reading.proofs.Holdings.{method_number}
use Rattle.reading.proofs.held.View.method_count.Goals as goal

pub returns-clause-count : goal.returns-clause-count
returns-clause-count c = search (rules, method_number)
