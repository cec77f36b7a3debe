use borrow.Author.Rules.{rules}
use Rattle.markup.proofs.Steps.{passed}
use Rattle.markup.proofs.Loops.{value_closes, value_ends, value_stops, value_turns, value_plain, value_less}
use Rattle.markup.proofs.attributes.value.Goals as goal

pub loop-n-preserved-then-is_plain : goal.loop-n-preserved-then-is_plain
loop-n-preserved-then-is_plain c = (search rules, search rules, search (rules, value_plain))

pub returns-in_err-n-clause-exact : goal.returns-in_err-n-clause-exact
returns-in_err-n-clause-exact c = passed c.from_residual.ensures.1 (search (rules, value_stops, c.in_err-n.ensures.exact))

pub loop-n-smaller : goal.loop-n-smaller
loop-n-smaller c = search (rules, value_less, c.in_ok-n.ensures.exact)

pub loop-n-preserved : goal.loop-n-preserved
loop-n-preserved c = (search rules, search rules, search (rules, value_turns, c.in_ok-n.ensures.exact))

pub returns-else-s-n-clause-exact : goal.returns-else-s-n-clause-exact
returns-else-s-n-clause-exact c = search (rules, value_closes)

pub returns-after-loop-n-clause-exact : goal.returns-after-loop-n-clause-exact
returns-after-loop-n-clause-exact c = search (rules, value_ends)
