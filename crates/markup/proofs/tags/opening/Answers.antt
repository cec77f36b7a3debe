-- `opening` meets its contract: a law for each step.
use borrow.Author.Rules.{rules}
use Rattle.markup.proofs.Steps.{stops, passed}
use Rattle.markup.proofs.Loops.{word_goes}
use Rattle.markup.proofs.tags.opening.Goals as goal

pub returns-in_err-n-clause-exact : goal.returns-in_err-n-clause-exact
returns-in_err-n-clause-exact c = passed c.from_residual.ensures.1 (search (rules, stops, c.in_err-n.ensures.exact))

pub returns-clause-exact : goal.returns-clause-exact
returns-clause-exact c = search (rules, word_goes, c.in_ok-n.ensures.exact)
