-- `finding::mark_lines` meets its contract: after k turns the numbers of the first k pattern texts are marked.
use mathlib.Core.Path.{◌≡◌}
use lib.ListN.{length, drop}
use Rattle.reading.specs.Views.{texts}
use Rattle.fillers.specs.Marks.{within_any}
use Rattle.fillers.proofs.Marking.{Remaining}
use Rattle.fillers.proofs.finding.mark_lines.Given as goal

abbrev pub invariant-loop-k : goal.invariant-loop-k
invariant-loop-k l =
    (length l.marks ≡ length l.initial.marks) × Remaining (within_any (texts l.view)) (within_any (drop l.k (texts l.view))) l.initial.marks l.marks
