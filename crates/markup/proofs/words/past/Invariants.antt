-- `past` meets its contract: what is left decides, whatever kind it is.
use mathlib.Core.Path.{◌≡◌}
use mathlib.Core.Bool.{Bool}
use Prim.Native.Nat.{ℕ, ◌<◌}
use lib.ListN.{drop}
use Rattle.documents.specs.Chars.{after}
use Rattle.markup.proofs.words.past.Given as goal

abbrev pub invariant-loop-n : goal.invariant-loop-n
invariant-loop-n g l = (p : ℕ → Bool) → ((b : ℕ) (r : Bool) → b < 256 → goal.F-post g l.kind b r → r ≡ p b) → after p (drop l.at l.s) ≡ after p (drop l.n l.s)
