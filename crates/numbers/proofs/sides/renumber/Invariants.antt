-- `sides::renumber` meets its contract: the loop keeps the set of those roles of the map that are passed.
use Rattle.numbers.proofs.SideLines.{Renumbering}
use Rattle.numbers.proofs.sides.renumber.Given as goal

abbrev pub invariant-loop-i : goal.invariant-loop-i
invariant-loop-i l = Renumbering l.map l.own l.set l.n l.i l.out
