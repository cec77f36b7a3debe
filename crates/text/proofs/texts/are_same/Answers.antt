-- `texts::are_same` meets its contract: the library compares the elements.
use borrow.Author.Rules.{rules}
use Rattle.text.proofs.Spans.{same_is}
use Rattle.text.proofs.texts.are_same.Goals as goal

pub returns : goal.returns
returns c = search (rules, same_is)
