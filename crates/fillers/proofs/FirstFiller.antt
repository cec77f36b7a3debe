-- The filler's number is the first without a mark, where the marks are those of two views.
use mathlib.Core.Path.{◌≡◌, refl, sym, ap, ◌∙◌}
use mathlib.Core.Bool.{Bool, true, false, not, ◌&&◌, ◌||◌, and_assoc}
use mathlib.Core.List.{List, [], ◌∷◌, ◌++◌}
use Prim.Native.Nat.{ℕ, zero, suc, ◌-◌, ◌*◌, ◌/◌, ◌%◌, ◌^◌, ◌≤◌, ◌<◌}
use native.Mathlib.Nat.{zero-div}
use native.Mathlib.Decide.{dec_lt}
use native.Mathlib.Omega.{arith}
use lib.ListN.{length, take, drop, get_or, replicate}
use borrow.Author.Tests.{not-true, not-false}
use Rattle.text.specs.Texts.{Text}
use Rattle.reading.specs.Views.{View, texts, ProperView}
use Rattle.text.proofs.Truths.{never}
use Rattle.trials.specs.Fillers.{numbered, first_number, occurs, absent, fills, First}
use Rattle.fillers.specs.Marks.{MarkedToo, is_marked, within_any}
use Rattle.trials.proofs.Pigeons.{first_one}
use Rattle.trials.proofs.FillersExist.{total, filler_is_first}
use Rattle.trials.proofs.Bounds.{total_append, total_most}

-- ---- no marks
zeros : (k j : ℕ) → ◌≡◌ {A = ℕ} (get_or (replicate k 0) j 0) 0
zeros zero j = refl
zeros (suc k) zero = refl
zeros (suc k) (suc j) = zeros k j

-- where all numbers are 0 nothing is marked
zeros_unmarked : (k i : ℕ) → is_marked (replicate k 0) i ≡ false
unfolding is_marked
zeros_unmarked k i = let z : 0 / 2 ^ (i % 32) ≡ 0 = zero-div (2 ^ (i % 32)) in rw (zeros k (i / 32), z)

-- ---- the marks of two views
-- a text that is absent from both is absent from them together
absent_append : (s : Text) (ts us : List Text) → absent s (ts ++ us) ≡ absent s ts && absent s us
unfolding absent
absent_append s [] us = refl
absent_append s (t ∷ ts) us = ap (λ (b : Bool). not (occurs s t) && b) (absent_append s ts us) ∙ sym (and_assoc (not (occurs s t)) (absent s ts) (absent s us))

-- n is inside one of them where it is inside one of the first or of the second
within_append : (ts us : List Text) (n : ℕ) → within_any us n || (within_any ts n || false) ≡ not (fills (ts ++ us) n)
unfolding within_any fills
within_append ts us n = rw (absent_append (numbered (113 ∷ []) n) ts us) (go (absent (numbered (113 ∷ []) n) ts) (absent (numbered (113 ∷ []) n) us))
  where
    go : (a b : Bool) → not b || (not a || false) ≡ not (a && b)
    go true true = refl
    go true false = refl
    go false true = refl
    go false false = refl

-- ---- the first without a mark
module _ (ts us : List Text) (small : total (ts ++ us) < 65536) (ws : List ℕ) (right : (i : ℕ) → i < 65536 → is_marked ws i ≡ not (fills (ts ++ us) i)) (r : ℕ)
    (below : (i : ℕ) → i < r → is_marked ws i ≡ true) (here : (r < 65536 → is_marked ws r ≡ false) × (r ≤ 65536)) where
  -- the filler's number will do, and is below
  first : First (fills (ts ++ us)) 0 (first_number (fills (ts ++ us))) × (first_number (fills (ts ++ us)) ≤ total (ts ++ us))
  first = filler_is_first (ts ++ us) (omega (arith, small))

  -- one is found
  found_small : r < 65536
  found_small = go (dec_lt r 65536)
    where
      go : Dec (r < 65536) → r < 65536
      go (yes h) = h
      go (no h) = absurd (never _ first.0.passes (not-true _ (sym (right _ (omega (arith, small, first.1))) ∙ below _ (omega (arith, small, first.1)))))

  -- it is the filler's
  found_number : r ≡ first_number (fills (ts ++ us))
  found_number =
      let h = found_small in
      first_one (fills (ts ++ us)) r _ first.0 (not-false _ (sym (right r h) ∙ here.0 h)) (λ i l. not-true _ (sym (right i (omega arith)) ∙ below i l))

-- ---- the marks of two views, where first there were none
module _ (old new : View) (O : ProperView old) (N : ProperView new) where
  -- their pattern texts have not too many bytes
  few : total (texts new ++ texts old) < 65536
  few =
      let a = total_most (texts new) N.short_patterns in
      let b = total_most (texts old) O.short_patterns in
      let c = N.few_patterns in
      let d = O.few_patterns in
      rw (total_append (texts new) (texts old)) (omega arith)

  module _ (k : ℕ) (z m v : List ℕ) (cleared : z ≡ replicate k 0) (news : MarkedToo (within_any (texts new)) z m) (olds : MarkedToo (within_any (texts old)) m v) where
    -- marked are the numbers that will not do
    both_marked : (i : ℕ) → i < 65536 → is_marked v i ≡ not (fills (texts new ++ texts old) i)
    both_marked i l = rw (olds.marks i l, news.marks i l, cleared, zeros_unmarked k i) (within_append (texts new) (texts old) i)

    module _ (r : ℕ) (below : (i : ℕ) → i < r → is_marked v i ≡ true) (here : (r < 65536 → is_marked v r ≡ false) × (r ≤ 65536)) where
      -- the first without a mark is the filler's number
      pub filler_found : r ≡ first_number (fills (texts new ++ texts old))
      filler_found = found_number (texts new) (texts old) few v both_marked r below here

      pub filler_small : r < 65536
      filler_small = found_small (texts new) (texts old) few v both_marked r below here
