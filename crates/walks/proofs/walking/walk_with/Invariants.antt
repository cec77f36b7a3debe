-- `walking::walk_with` meets its contract: what is to come of the stems is the same at each turn.
use Rattle.walks.proofs.Walkings.{Ahead}
use Rattle.walks.proofs.walking.walk_with.Given as goal

abbrev pub invariant-loop-j : goal.invariant-loop-j
invariant-loop-j l = Ahead l.x l.c l.ro l.rn l.lo l.ln l.j
