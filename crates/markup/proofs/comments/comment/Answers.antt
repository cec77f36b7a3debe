-- `comment` meets its contract.
use borrow.Author.Rules.{rules}
use Rattle.markup.proofs.Blames.{blamed_within, comment_at}
use Rattle.markup.proofs.comments.comment.Goals as goal

pub returns-clause-within : goal.returns-clause-within
returns-clause-within c = search (rules, blamed_within)

pub returns-clause-exact : goal.returns-clause-exact
returns-clause-exact c = search (rules, comment_at)
