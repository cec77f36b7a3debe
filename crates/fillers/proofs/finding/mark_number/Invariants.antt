-- `finding::mark_number` meets its contract: after i turns the numbers of at most i digits are marked, and v is the one of i digits.
use Prim.Native.Nat.{◌≤◌}
use mathlib.Core.Path.{◌≡◌}
use lib.ListN.{length, drop}
use Rattle.fillers.specs.Marks.{Passed, leads}
use Rattle.fillers.proofs.LeadingNumbers.{starts_from}
use Rattle.fillers.proofs.Marking.{Remaining}
use Rattle.fillers.proofs.finding.mark_number.Given as goal

abbrev pub invariant-loop-i : goal.invariant-loop-i
invariant-loop-i l = Passed l.t l.i × (l.v ≤ 65535) × (length l.marks ≡ length l.initial.marks) × Remaining (leads l.t) (starts_from l.v (drop l.i l.t)) l.initial.marks l.marks
