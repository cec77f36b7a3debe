-- `methods::pair_old` meets its contract: the methods of old passed so far are joined to those of new.
use Rattle.numbers.proofs.PairsPut.{PairingOld}
use Rattle.numbers.proofs.methods.pair_old.Given as goal

abbrev pub invariant-loop-j : goal.invariant-loop-j
invariant-loop-j l = PairingOld l.old l.new l.at l.own l.j-end l.count l.j l.initial.w l.w
