-- `hits::line_count` meets its contract.
use borrow.Author.Rules.{rules}
use Rattle.showing.proofs.Pieces.{line_total, lines_fit}
use Rattle.showing.proofs.hits.line_count.Goals as goal

pub overflow_add-result : goal.overflow_add-result
overflow_add-result c = search (rules, lines_fit)

pub returns-clause-count : goal.returns-clause-count
returns-clause-count c = search (rules, line_total)
