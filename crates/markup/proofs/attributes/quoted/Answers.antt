-- `quoted` meets its contract: a law for each step.
use borrow.Author.Rules.{rules}
use Rattle.documents.specs.Parts as list
use Rattle.markup.proofs.Steps.{stops, passed}
use Rattle.markup.proofs.Loops.{quote_inside, quote_goes, value_goes}
use Rattle.markup.proofs.attributes.quoted.Goals as goal

pub returns-in_err-a-clause-exact : goal.returns-in_err-a-clause-exact
unfolding list.quoted
returns-in_err-a-clause-exact c = passed c.from_residual.ensures.1 (search (rules, stops, c.in_err-a.ensures.exact))

pub bounds-s-at : goal.bounds-s-at
bounds-s-at c = search (rules, quote_inside)

pub returns-in_err-e-clause-exact : goal.returns-in_err-e-clause-exact
unfolding list.quoted
returns-in_err-e-clause-exact c = passed c.from_residual-in_err-e.ensures.1 (search (rules, quote_goes, stops, c.in_ok-a.ensures.exact, c.in_err-e.ensures.exact) depth 7)

pub returns-clause-exact : goal.returns-clause-exact
unfolding list.quoted
returns-clause-exact c = search (rules, quote_goes, value_goes, c.in_ok-a.ensures.exact, c.in_ok-e.ensures.exact) depth 7
