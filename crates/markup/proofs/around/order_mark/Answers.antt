-- `order_mark` meets its contract: the word was tried.
use borrow.Author.Rules.{rules}
use Rattle.markup.proofs.Surroundings.{order_mark_at}
use Rattle.markup.proofs.around.order_mark.Goals as goal

pub returns-clause-exact : goal.returns-clause-exact
returns-clause-exact c = search (rules, order_mark_at)
