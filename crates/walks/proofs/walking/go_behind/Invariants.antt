-- `walking::go_behind` meets its contract: what is to come of the extensions is the same at each turn.
use Rattle.walks.proofs.Walkings.{Going}
use Rattle.walks.proofs.walking.go_behind.Given as goal

abbrev pub invariant-loop-i : goal.invariant-loop-i
invariant-loop-i l = Going l.x l.c l.j l.i
