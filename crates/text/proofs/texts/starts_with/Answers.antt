-- `texts::starts_with` meets its contract: the prefix is compared with as many first bytes.
use borrow.Author.Rules.{rules}
use Rattle.text.proofs.Spans.{starts_short, starts_is}
use Rattle.text.proofs.texts.starts_with.Goals as goal

pub returns-then-p-t : goal.returns-then-p-t
returns-then-p-t c = search (rules, starts_is)

pub returns-else-p-t : goal.returns-else-p-t
returns-else-p-t c = search (rules, starts_short)
