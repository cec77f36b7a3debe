-- `rosters::join_along` meets its contract: what is to come of the lines is the same at each turn, for each method.
use Prim.Native.Nat.{◌-◌}
use Rattle.grants.proofs.Granting.{Joining}
use Rattle.grants.proofs.rosters.join_along.Given as goal

abbrev pub invariant-loop-k : goal.invariant-loop-k
invariant-loop-k l = Joining l.side l.n l.first l.k l.roster

abbrev pub decreases-loop-k : goal.decreases-loop-k
decreases-loop-k l = l.n - l.k
