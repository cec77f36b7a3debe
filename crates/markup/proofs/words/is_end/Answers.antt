-- `is_end` meets its contract.
use borrow.Author.Rules.{rules}
use Rattle.markup.proofs.Places.{ends_none}
use Rattle.markup.proofs.Steps.{ends_word}
use Rattle.markup.proofs.words.is_end.Goals as goal

pub returns-then-at-s : goal.returns-then-at-s
returns-then-at-s c = search (rules, ends_none)

pub returns-else-at-s : goal.returns-else-at-s
returns-else-at-s c = search (rules, ends_word)
