-- The first trial method and caller of two rosters, as the loop over the methods meets them; then of two best lines.
use mathlib.Core.Path.{◌≡◌, sym, ap, ◌∙◌}
use mathlib.Core.Bool.{cond}
use mathlib.Core.List.{List}
use Prim.Native.Nat.{ℕ, suc, ◌+◌, ◌-◌, ◌≤◌, ◌<◌}
use native.Mathlib.Omega.{arith}
use lib.ListN.{get_or}
use lib.Dec.{eqb}
use lib.Count.{count_trailing_zeros}
use borrow.Author.Tests.{ne_eqb}
use Rattle.grants.specs.Sides.{roster_in}
use Rattle.std.specs.Prelude.{Option, Some, None}
use Rattle.grants.specs.Catches.{fresh_in, some_catch, caught_from, caught_in}
use Rattle.grants.specs.declared.judging.Catch.{Catch}

-- the methods from i on are still to be looked at
pub record Looking (ro rn pairs : List ℕ) (count i : ℕ) : Type 0 where
  pub within : i ≤ count
  pub due : caught_from ro rn pairs count 0 ≡ caught_from ro rn pairs (count - i) i

module _ (ro rn pairs : List ℕ) (count : ℕ) where
  module _ (i : ℕ) (L : Looking ro rn pairs count i) where
    -- one method more
    look_step : i < count
        → caught_from ro rn pairs count 0
        ≡ cond (eqb (fresh_in ro rn pairs i) 0) (caught_from ro rn pairs (count - (i + 1)) (i + 1)) (some_catch i (count_trailing_zeros 64 (fresh_in ro rn pairs i)))
    unfolding caught_from
    look_step h =
        let e : count - i ≡ suc (count - (i + 1)) = omega arith in
        L.due ∙ ap (λ (k : ℕ). caught_from ro rn pairs k i) e

    module _ (h : i < count) where
      -- it has a caller whom the one roster grants and the other does not
      pub look_found : (fresh_in ro rn pairs i ≡ 0 → ⊥) → some_catch i (count_trailing_zeros 64 (fresh_in ro rn pairs i)) ≡ caught_from ro rn pairs count 0
      look_found n = sym (look_step h ∙ rw (ne_eqb (fresh_in ro rn pairs i) 0 n))

      -- it has none
      pub look_on : fresh_in ro rn pairs i ≡ 0 → Looking ro rn pairs count (i + 1)
      look_on n = record { within = omega arith; due = look_step h ∙ rw n }

    -- none of them has one
    pub look_end : count ≤ i → None ≡ caught_from ro rn pairs count 0
    unfolding caught_from
    look_end h = let e : count - i ≡ 0 = omega arith in sym (L.due ∙ ap (λ (k : ℕ). caught_from ro rn pairs k i) e)

-- ---- of two best lines: their rosters are judged
pub lines_judged : (so sn pairs ro rn : List ℕ) (o n count u v : ℕ) (r : Option Catch) → ro ≡ roster_in so o u → rn ≡ roster_in sn n v → r ≡ caught_from ro rn pairs count 0
    → r ≡ caught_in so o sn n pairs count u v
unfolding caught_in
lines_judged so sn pairs ro rn o n count u v r p q e = rw (← p, ← q) e
