-- `walking::close` meets its contract.
use borrow.Author.Rules.{rules}
use Rattle.elements.proofs.Goings.{shown_passed}
use Rattle.elements.proofs.Walks.{close_stops, close_ends}
use Rattle.elements.proofs.walking.close.Goals as goal

pub returns-in_err-next-clause-exact : goal.returns-in_err-next-clause-exact
returns-in_err-next-clause-exact c = λ x. shown_passed _ _ c.from_residual.ensures.1 (search (rules, close_stops))

pub returns-clause-exact : goal.returns-clause-exact
returns-clause-exact c = λ x. search (rules, close_ends)
