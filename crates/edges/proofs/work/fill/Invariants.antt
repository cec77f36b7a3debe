-- After i turns the first i indices are filled.
use Rattle.std.proofs.Common.{◌≡◌, take}
use Rattle.edges.specs.Garbage.{garbage}
use Rattle.edges.proofs.work.fill.Given as goal

abbrev pub invariant-loop-i : goal.invariant-loop-i
invariant-loop-i l = take l.i l.w ≡ garbage 0 l.i
