-- `entering::nearest` meets its contract: the line chosen is one of those passed.
use Prim.Native.Nat.{◌≤◌}
use Rattle.firsts.proofs.entering.nearest.Given as goal

abbrev pub invariant-loop-i : goal.invariant-loop-i
invariant-loop-i l = l.best ≤ l.j
