-- `attribute` meets its contract: a law for each step.
use borrow.Author.Rules.{rules}
use Rattle.documents.specs.Parts as list
use Rattle.markup.proofs.Steps.{stops, passed, white_goes}
use Rattle.markup.proofs.Loops.{name_goes, word_goes}
use Rattle.markup.proofs.attributes.attribute.Goals as goal

pub returns-in_err-n-clause-exact : goal.returns-in_err-n-clause-exact
unfolding list.attribute
returns-in_err-n-clause-exact c = passed c.from_residual.ensures.1 (search (rules, white_goes, stops, c.in_err-n.ensures.exact) depth 9)

pub returns-in_err-e-clause-exact : goal.returns-in_err-e-clause-exact
unfolding list.attribute
returns-in_err-e-clause-exact c = passed c.from_residual-in_err-e.ensures.1 (search (rules, white_goes, name_goes, stops, c.in_ok-n.ensures.exact, c.in_err-e.ensures.exact) depth 9)

pub returns-clause-exact : goal.returns-clause-exact
unfolding list.attribute
returns-clause-exact c = search (rules, white_goes, name_goes, word_goes, c.in_ok-n.ensures.exact, c.in_ok-e.ensures.exact) depth 9
