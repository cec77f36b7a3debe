-- `stems::fill_stems` meets its contract: one stem more at each turn.
use Rattle.numbers.proofs.StemsPut.{StemmingTo}
use Rattle.numbers.proofs.stems.fill_stems.Given as goal

abbrev pub invariant-loop-j : goal.invariant-loop-j
invariant-loop-j l = StemmingTo l.old l.new l.count l.last l.j l.initial.w l.w
