-- `sharing::shared_from` meets its contract: the bytes passed are shared.
use mathlib.Core.Path.{◌≡◌}
use Prim.Native.Nat.{◌+◌, ◌≤◌, max}
use lib.ListN.{drop}
use Rattle.firsts.specs.Shares.{common}
use Rattle.firsts.proofs.sharing.shared_from.Given as goal

abbrev pub invariant-loop-i : goal.invariant-loop-i
invariant-loop-i l = (l.from + common (drop l.from l.t) (drop l.from l.u) ≡ l.i + common (drop l.i l.t) (drop l.i l.u)) × (l.i ≤ max l.end l.from)
