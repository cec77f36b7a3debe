-- `walking::ended` meets its contract.
use borrow.Author.Rules.{rules}
use Rattle.elements.proofs.Walks.{ends_whole, ends_missing}
use Rattle.elements.proofs.walking.ended.Goals as goal

pub returns-then-is_whole-clause-exact : goal.returns-then-is_whole-clause-exact
returns-then-is_whole-clause-exact c = λ x. search (rules, ends_whole)

pub returns-clause-exact : goal.returns-clause-exact
returns-clause-exact c = λ x. search (rules, ends_missing)
