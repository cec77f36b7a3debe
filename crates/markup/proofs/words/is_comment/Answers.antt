-- `is_comment` meets its contract: the word was tried.
use borrow.Author.Rules.{rules}
use Rattle.markup.proofs.Steps.{started_is}
use Rattle.markup.proofs.words.is_comment.Goals as goal

pub returns : goal.returns
returns c = search (rules, started_is)
