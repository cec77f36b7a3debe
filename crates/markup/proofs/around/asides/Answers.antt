use borrow.Author.Rules.{rules}
use Rattle.markup.proofs.Steps.{passed}
use Rattle.markup.proofs.Surroundings.{asides_over, asides_stops, asides_turns, asides_less}
use Rattle.markup.proofs.around.asides.Goals as goal

pub returns-in_err-n-clause-exact : goal.returns-in_err-n-clause-exact
returns-in_err-n-clause-exact c = passed c.from_residual.ensures.1 (search (rules, asides_stops, c.in_err-n.ensures.exact))

pub loop-n-smaller : goal.loop-n-smaller
loop-n-smaller c = search (rules, asides_less, c.in_ok-n.ensures.exact)

pub loop-n-preserved : goal.loop-n-preserved
loop-n-preserved c = (search rules, search rules, search (rules, asides_turns, c.in_ok-n.ensures.exact))

pub returns-clause-exact : goal.returns-clause-exact
returns-clause-exact c = search (rules, asides_over)
