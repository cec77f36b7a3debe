-- `line_of` meets its contract.
use borrow.Author.Rules.{rules}
use Rattle.markup.proofs.Counts.{lines_counted}
use Rattle.markup.proofs.lines.line_of.Goals as goal

pub returns : goal.returns
returns c = search (rules, lines_counted)
