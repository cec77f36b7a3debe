-- `second_tag` meets its contract.
use borrow.Author.Rules.{rules}
use Rattle.markup.proofs.Blames.{blamed_within, second_tag_at}
use Rattle.markup.proofs.tags.second_tag.Goals as goal

pub returns-clause-within : goal.returns-clause-within
returns-clause-within c = search (rules, blamed_within)

pub returns-clause-exact : goal.returns-clause-exact
returns-clause-exact c = search (rules, second_tag_at)
