-- `letter` meets its contract.
use borrow.Author.Rules.{rules}
use Rattle.markup.proofs.Values.{letter_none, letter_plain, letter_entity}
use Rattle.markup.proofs.letters.letter.Goals as goal

pub returns-then-at-s-clause-exact : goal.returns-then-at-s-clause-exact
returns-then-at-s-clause-exact c = search (rules, letter_none)

pub returns-then-is_plain-clause-exact : goal.returns-then-is_plain-clause-exact
returns-then-is_plain-clause-exact c = search (rules, letter_plain)

pub returns-clause-exact : goal.returns-clause-exact
returns-clause-exact c = search (rules, letter_entity)
