-- `declared` meets its contract: a law for each step.
use borrow.Author.Rules.{rules}
use Rattle.markup.proofs.Steps.{stops, passed, white_goes}
use Rattle.markup.proofs.Loops.{attributes_goes}
use Rattle.markup.proofs.around.declared.Goals as goal

pub returns-in_err-a-clause-exact : goal.returns-in_err-a-clause-exact
returns-in_err-a-clause-exact c = passed c.from_residual.ensures.1 (search (rules, stops, c.in_err-a.ensures.exact))

pub returns-clause-exact : goal.returns-clause-exact
returns-clause-exact c = search (rules, attributes_goes, white_goes, c.in_ok-a.ensures.exact) depth 7
