-- `giving::text` meets its contract: with content, and without.
use borrow.Author.Rules.{rules}
use Rattle.elements.proofs.Givings.{empty_saying, empty_said}
use Rattle.elements.proofs.giving.text.Goals as goal

pub text_in-requires : goal.text_in-requires
text_in-requires c = (search rules, search rules, search rules)

pub returns-then-t : goal.returns-then-t
returns-then-t c = c.text_in.ensures

pub say-requires : goal.say-requires
say-requires c = search (rules, empty_saying)

pub returns : goal.returns
returns c = search (rules, empty_said)
