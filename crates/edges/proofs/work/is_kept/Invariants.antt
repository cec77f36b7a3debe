-- What is left of the table decides.
use Rattle.std.proofs.Common.{◌≡◌}
use Rattle.edges.specs.Garbage.{is_kept}
use Rattle.edges.proofs.work.is_kept.Given as goal

abbrev pub invariant-loop-i : goal.invariant-loop-i
invariant-loop-i l = is_kept l.a l.w ≡ is_kept l.i l.w
