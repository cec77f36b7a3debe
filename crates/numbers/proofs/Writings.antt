-- Numbers that are written into the scratch one after the other.
use mathlib.Core.Path.{◌≡◌, ◌∙◌}
use mathlib.Core.List.{List}
use Prim.Native.Nat.{ℕ, ◌+◌, ◌<◌}
use native.Mathlib.Decide.{dec_lt}
use native.Mathlib.Omega.{arith}
use lib.ListN.{length, get_or, set}
use lib.Seq.{get_or-set_same, get_or-set_other}
use Rattle.reading.specs.Views.{View, texts}
use Rattle.firsts.proofs.Keepings.{kept_all, kept_set}
use Rattle.numbers.specs.Writes.{Wrote, LinesWritten}

-- none yet
pub wrote_none : (at : ℕ) (f : ℕ → ℕ) (w : List ℕ) → Wrote at 0 f w w
wrote_none at f w = record { kept = kept_all at (at + 0) w; values = λ k h. absurd (omega arith) }

-- one more
pub wrote_more : (at k v : ℕ) (f : ℕ → ℕ) (w₀ w : List ℕ) → Wrote at k f w₀ w → at + k < length w → v ≡ f k → Wrote at (k + 1) f w₀ (set w (at + k) v)
wrote_more at k v f w₀ w W h e = record {
  kept = kept_set at (at + (k + 1)) w₀ w (at + k) v (record { size = W.kept.size; before = W.kept.before; behind = λ i m. W.kept.behind i (omega arith) }) (omega arith) (omega arith);
  values = λ j l. go j l (dec_lt j k);
}
  where
    go : (j : ℕ) → j < k + 1 → Dec (j < k) → get_or (set w (at + k) v) (at + j) 0 ≡ f j
    go j l (yes q) = get_or-set_other w (at + k) (at + j) v 0 (λ i. omega arith) ∙ W.values j q
    go j l (no q) = let i : j ≡ k = omega arith in rw i (get_or-set_same w (at + k) v 0 h ∙ e)

-- as many as the view has lines
pub lines_all : (v : View) (g : View → ℕ → ℕ) (at n : ℕ) (w₀ w : List ℕ) → n ≡ length (texts v) → Wrote at n (g v) w₀ w → LinesWritten v g at w₀ w
lines_all v g at n w₀ w e W = rw e at W
