-- `start_tag` meets its contract.
use borrow.Author.Rules.{rules}
use Rattle.markup.proofs.Openings.{start_tag_at}
use Rattle.markup.proofs.tags.start_tag.Goals as goal

pub returns-clause-exact : goal.returns-clause-exact
returns-clause-exact c = search (rules, start_tag_at)
