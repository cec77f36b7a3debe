-- `tables::text_at` meets its contract: what the offset and the length say, if it has the stamp.
use borrow.Author.Rules.{rules}
use Rattle.entries.proofs.Regions.{text_in, text_other}
use Rattle.entries.proofs.tables.text_at.Goals as goal

pub returns-then-stamp-x : goal.returns-then-stamp-x
returns-then-stamp-x c = search (rules, text_in)

pub returns-else-stamp-x : goal.returns-else-stamp-x
returns-else-stamp-x c = search (rules, text_other)
