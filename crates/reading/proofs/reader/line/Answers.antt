-- `reader::line` meets its contract: a law of Linecuts for each return.
use borrow.Author.Rules.{rules}
use borrow.Author.Tests.{not-true, not-false}
use Rattle.reading.proofs.Linecuts.{cut_field, cut_behind, cut_clean, cut_here, cut_within, cut_unended, cut_whole}
use Rattle.reading.proofs.reader.line.Goals as goal

pub returns-then-not-cut : goal.returns-then-not-cut
returns-then-not-cut c = search (rules, cut_unended, not-true)

pub line_named-requires : goal.line_named-requires
line_named-requires c = (
  record { fits = search rules; from = search (rules, cut_field); to = search (rules, cut_within, not-false) },
  (search (rules, cut_clean), record { here = search (rules, cut_here, not-false); from = search (rules, cut_behind); few = search rules }),
)

pub returns : goal.returns
returns c = search (rules, cut_whole, not-false)
