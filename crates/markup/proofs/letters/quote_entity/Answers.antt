-- `quote_entity` meets its contract: a choice for each word that is tried.
use borrow.Author.Rules.{rules}
use Rattle.documents.specs.Parts as list
use Rattle.markup.proofs.Values.{hit_letter, miss_blamed, wrong_blamed}
use Rattle.markup.proofs.letters.quote_entity.Goals as goal

pub returns-in-Ok-clause-exact : goal.returns-in-Ok-clause-exact
unfolding list.quote_entity
returns-in-Ok-clause-exact c = search (rules, hit_letter)

pub returns-in-Ok-word-clause-exact : goal.returns-in-Ok-word-clause-exact
unfolding list.quote_entity
returns-in-Ok-word-clause-exact c = search (rules, miss_blamed, hit_letter, c.in_default.ensures.exact, c.in-Ok-word.ensures.exact)

pub returns-clause-exact : goal.returns-clause-exact
unfolding list.quote_entity
returns-clause-exact c = search (rules, miss_blamed, wrong_blamed) depth 7
