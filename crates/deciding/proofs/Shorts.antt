-- The patterns of a view are few and short.
use mathlib.Core.Path.{◌≡◌}
use mathlib.Core.List.{List, []}
use Prim.Native.Nat.{ℕ, ◌≤◌, ◌<◌}
use native.Mathlib.Decide.{dec_lt}
use native.Mathlib.Omega.{arith}
use lib.ListN.{length, get_or, get_or-eq_default}
use Rattle.text.specs.Texts.{Text}
use Rattle.reading.specs.Views.{View, texts, ProperView}
use Rattle.matching.specs.declared.Leading.{Leading}
use Rattle.matching.proofs.Strengths.{at_listed}

module _ (v : View) (P : ProperView v) where
  pub pattern_few : length (texts v) ≤ 128
  pattern_few = P.few_patterns

  pub pattern_short : (k : ℕ) → length (get_or (texts v) k []) ≤ 255
  pattern_short k = go (dec_lt k (length (texts v)))
    where
      go : Dec (k < length (texts v)) → length (get_or (texts v) k []) ≤ 255
      go (yes h) = P.short_patterns (get_or (texts v) k []) (at_listed (texts v) k h)
      go (no n) = let h : length (texts v) ≤ k = omega arith in rw (get_or-eq_default (texts v) [] h) (omega arith)

-- the same, as the code that goes through them meets it
module _ (v : View) (P : ProperView v) (k : ℕ) where
  pub lead_few : (x : Leading) (n : ℕ) → x.seen ≡ k → n ≡ length (texts v) → k < n → x.seen < 1000
  lead_few x n i e h = omega (arith, pattern_few v P)

  pub lead_short : (p : Text) → p ≡ get_or (texts v) k [] → length p ≤ 255
  lead_short p e = rw e (pattern_short v P k)
