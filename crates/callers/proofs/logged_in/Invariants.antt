-- `callers::logged_in` meets its contract: what is to come of the names is the same at each turn.
use Prim.Native.Nat.{◌-◌}
use lib.ListN.{length}
use Rattle.callers.proofs.Callings.{Naming}
use Rattle.callers.proofs.logged_in.Given as goal

abbrev pub invariant-loop-at : goal.invariant-loop-at
invariant-loop-at l = Naming l.view l.names l.count l.set l.at

abbrev pub decreases-loop-at : goal.decreases-loop-at
decreases-loop-at l = length l.names - l.at
