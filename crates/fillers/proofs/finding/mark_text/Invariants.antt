-- `finding::mark_text` meets its contract: the numbers behind a `q` before the rest are marked.
use mathlib.Core.Path.{◌≡◌}
use lib.ListN.{length}
use Rattle.fillers.specs.Marks.{within}
use Rattle.fillers.proofs.Marking.{Remaining}
use Rattle.fillers.proofs.finding.mark_text.Given as goal

abbrev pub invariant-loop-b : goal.invariant-loop-b
invariant-loop-b l = (length l.marks ≡ length l.initial.marks) × Remaining (within l.t) (within l.rest) l.initial.marks l.marks

abbrev pub decreases-loop-b : goal.decreases-loop-b
decreases-loop-b l = length l.rest
