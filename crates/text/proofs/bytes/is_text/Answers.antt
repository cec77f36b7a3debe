-- `bytes::is_text` meets its contract: an odd class is a text byte's.
use borrow.Author.Rules.{rules}
use Rattle.text.proofs.Classes.{class_text}
use Rattle.text.proofs.bytes.is_text.Goals as goal

pub returns : goal.returns
returns c = search (rules, class_text)
