-- `is_aside` meets its contract: there is nothing at the end.
use borrow.Author.Rules.{rules}
use Rattle.markup.proofs.Surroundings.{no_aside}
use Rattle.markup.proofs.around.is_aside.Goals as goal

pub returns-else-at-s : goal.returns-else-at-s
returns-else-at-s c = search (rules, no_aside)
