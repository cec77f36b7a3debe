-- `texts::has_byte` meets its contract: the library looks for the element.
use borrow.Author.Rules.{rules}
use Rattle.text.proofs.Spans.{has_is}
use Rattle.text.proofs.texts.has_byte.Goals as goal

pub returns : goal.returns
returns c = search (rules, has_is)
