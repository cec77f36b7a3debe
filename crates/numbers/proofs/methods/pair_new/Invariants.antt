-- `methods::pair_new` meets its contract: one method of new more at each turn.
use Rattle.numbers.proofs.PairsPut.{PairingNew}
use Rattle.numbers.proofs.methods.pair_new.Given as goal

abbrev pub invariant-loop-i : goal.invariant-loop-i
invariant-loop-i l = PairingNew l.old l.new l.at l.i-end l.i l.initial.w l.w
