-- `asides` meets its contract: each is a turn.
use mathlib.Core.Path.{◌≡◌}
use Prim.Native.Nat.{◌≤◌, ◌-◌}
use lib.ListN.{length}
use Rattle.documents.specs.Parts as list
use Rattle.markup.specs.Places.{read_at}
use Rattle.markup.proofs.around.asides.Given as goal

abbrev pub invariant-loop-n : goal.invariant-loop-n
invariant-loop-n l = (l.at ≤ l.n) × (l.n ≤ length l.s) × (read_at list.asides l.s l.at ≡ read_at list.asides l.s l.n)

abbrev pub decreases-loop-n : goal.decreases-loop-n
decreases-loop-n l = length l.s - l.n
