-- `remark` meets its contract: what is left, and whether a hyphen was read last, decide.
use mathlib.Core.Path.{◌≡◌}
use mathlib.Core.Bool.{false}
use Prim.Native.Nat.{◌≤◌}
use lib.ListN.{length}
use Rattle.documents.specs.Parts as list
use Rattle.markup.specs.Places.{read_at}
use Rattle.markup.proofs.comments.remark.Given as goal

abbrev pub invariant-loop-n : goal.invariant-loop-n
invariant-loop-n l = (l.at ≤ l.n) × (l.n ≤ length l.s) × (read_at (list.remark false) l.s l.at ≡ read_at (list.remark l.dash) l.s l.n)
