-- `entering::is_same` meets its contract: equal texts share all of both.
use borrow.Author.Rules.{rules}
use Rattle.firsts.proofs.Sharings.{same_far, same_near}
use Rattle.firsts.proofs.entering.is_same.Goals as goal

pub returns-then-x-text : goal.returns-then-x-text
returns-then-x-text c = search (rules, same_near)

pub returns-else-x-text : goal.returns-else-x-text
returns-else-x-text c = search (rules, same_far)
