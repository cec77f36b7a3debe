-- `bytes::is_token` meets its contract: a class of 2 or more is a token byte's.
use borrow.Author.Rules.{rules}
use Rattle.text.proofs.Classes.{class_token}
use Rattle.text.proofs.bytes.is_token.Goals as goal

pub returns : goal.returns
returns c = search (rules, class_token)
