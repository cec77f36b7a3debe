-- `tables::span_at` meets its contract: what the offset and the length say.
use borrow.Author.Rules.{rules}
use Rattle.entries.proofs.Regions.{span_in, span_out}
use Rattle.entries.proofs.tables.span_at.Goals as goal

pub returns-then-s-to : goal.returns-then-s-to
returns-then-s-to c = search (rules, span_out)

pub returns : goal.returns
returns c = search (rules, span_in)
