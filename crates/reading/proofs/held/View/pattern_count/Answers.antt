-- `View::pattern_count` meets its contract: the counts give the number of patterns.
use borrow.Author.Rules.{rules}
use Rattle.reading.proofs.Holdings.{pattern_number}
use Rattle.reading.proofs.held.View.pattern_count.Goals as goal

pub returns-clause-count : goal.returns-clause-count
returns-clause-count c = search (rules, pattern_number)
