-- `goes_on` meets its contract.
use borrow.Author.Rules.{rules}
use Rattle.markup.proofs.Places.{goes_none, goes_letter, goes_comment}
use Rattle.markup.proofs.words.goes_on.Goals as goal

pub returns-then-s-at-ne60 : goal.returns-then-s-at-ne60
returns-then-s-at-ne60 c = search (rules, goes_letter)

pub returns-else-s-at-ne60 : goal.returns-else-s-at-ne60
returns-else-s-at-ne60 c = search (rules, goes_comment)

pub returns-else-at-s : goal.returns-else-at-s
returns-else-at-s c = search (rules, goes_none)
