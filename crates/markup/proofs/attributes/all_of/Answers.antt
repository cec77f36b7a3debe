use borrow.Author.Rules.{rules}
use Rattle.markup.proofs.Steps.{passed}
use Rattle.markup.proofs.Loops.{attributes_over, attributes_stops, attributes_turns, attributes_less}
use Rattle.markup.proofs.attributes.all_of.Goals as goal

pub returns-in_err-n-clause-exact : goal.returns-in_err-n-clause-exact
returns-in_err-n-clause-exact c = passed c.from_residual.ensures.1 (search (rules, attributes_stops, c.in_err-n.ensures.exact))

pub loop-n-smaller : goal.loop-n-smaller
loop-n-smaller c = search (rules, attributes_less, c.in_ok-n.ensures.exact)

pub loop-n-preserved : goal.loop-n-preserved
loop-n-preserved c = (search rules, search rules, search (rules, attributes_turns, c.in_ok-n.ensures.exact))

pub returns-clause-exact : goal.returns-clause-exact
returns-clause-exact c = search (rules, attributes_over)
