-- `entity` meets its contract: a choice for each word that is tried.
use borrow.Author.Rules.{rules}
use Rattle.documents.specs.Parts as list
use Rattle.markup.proofs.Values.{hit_letter, miss_blamed}
use Rattle.markup.proofs.letters.entity.Goals as goal

pub returns-in-Ok-clause-exact : goal.returns-in-Ok-clause-exact
unfolding list.entity
returns-in-Ok-clause-exact c = search (rules, hit_letter)

pub returns-in-Ok-word-clause-exact : goal.returns-in-Ok-word-clause-exact
unfolding list.entity
returns-in-Ok-word-clause-exact c = search (rules, miss_blamed, hit_letter, c.in_default.ensures.exact, c.in-Ok-word.ensures.exact)

pub returns-in-Ok-word-2-clause-exact : goal.returns-in-Ok-word-2-clause-exact
unfolding list.entity
returns-in-Ok-word-2-clause-exact c = search (rules, miss_blamed, hit_letter, c.in_default.ensures.exact, c.in_default-word.ensures.exact, c.in-Ok-word-2.ensures.exact) depth 7

pub returns-clause-exact : goal.returns-clause-exact
unfolding list.entity
returns-clause-exact c = search (rules, miss_blamed) depth 9
