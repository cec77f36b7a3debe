-- `gather` meets its contract: what is kept so far, and what is left, decide.
use Prim.Native.Nat.{◌-◌}
use lib.ListN.{length}
use Rattle.markup.proofs.Keepings.{Gathers}
use Rattle.markup.proofs.gathering.gather.Given as goal

abbrev pub invariant-loop-b : goal.invariant-loop-b
invariant-loop-b l = Gathers l.s l.at l.here l.initial.out l.out l.n l.k

abbrev pub decreases-loop-b : goal.decreases-loop-b
decreases-loop-b l = length l.s - l.n
