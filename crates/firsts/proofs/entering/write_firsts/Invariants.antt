-- `entering::write_firsts` meets its contract: one line more at each turn.
use Rattle.firsts.proofs.Enterings.{EnteringTo}
use Rattle.firsts.proofs.entering.write_firsts.Given as goal

abbrev pub invariant-loop-j : goal.invariant-loop-j
invariant-loop-j l = EnteringTo l.old l.new l.count l.j l.initial.w l.w
