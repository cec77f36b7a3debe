-- `finding::first_unmarked` meets its contract: every number passed is marked.
use Prim.Native.Nat.{ℕ, ◌<◌}
use mathlib.Core.Path.{◌≡◌}
use mathlib.Core.Bool.{true}
use Rattle.fillers.specs.Marks.{is_marked}
use Rattle.fillers.proofs.finding.first_unmarked.Given as goal

abbrev pub invariant-loop-n : goal.invariant-loop-n
invariant-loop-n l = (i : ℕ) → i < l.n → is_marked l.marks i ≡ true
