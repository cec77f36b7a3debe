-- `texts::ends_with` meets its contract: the ending is compared with as many last bytes.
use borrow.Author.Rules.{rules}
use Rattle.text.proofs.Spans.{ends_short, ends_is}
use Rattle.text.proofs.texts.ends_with.Goals as goal

pub returns-then-e-t : goal.returns-then-e-t
returns-then-e-t c = search (rules, ends_is)

pub returns-else-e-t : goal.returns-else-e-t
returns-else-e-t c = search (rules, ends_short)
