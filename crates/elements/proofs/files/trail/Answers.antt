-- `files::trail` meets its contract.
use borrow.Author.Rules.{rules}
use Rattle.markup.proofs.Steps.{passed}
use Rattle.elements.proofs.Wholes.{trail_stops, trail_more, trail_done}
use Rattle.elements.proofs.files.trail.Goals as goal

pub returns-in_err-n-clause-exact : goal.returns-in_err-n-clause-exact
returns-in_err-n-clause-exact c = passed c.from_residual.ensures.1 (search (rules, trail_stops))

pub returns-then-n-s-clause-exact : goal.returns-then-n-s-clause-exact
returns-then-n-s-clause-exact c = trail_more _ _ _ c.in_ok-n.ensures.exact c.if-n-s.true _ c.malformed.ensures

pub returns-clause-exact : goal.returns-clause-exact
returns-clause-exact c = search (rules, trail_done)
