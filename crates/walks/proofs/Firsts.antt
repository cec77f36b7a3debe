-- The first answer of indices gone through one by one; and that of a list of texts where a text that stands before is passed over.
use mathlib.Core.Path.{◌≡◌, refl, sym, ap, ap₂, ◌∙◌}
use mathlib.Core.Bool.{Bool, true, false, cond, ◌||◌}
use mathlib.Core.List.{List, [], ◌∷◌}
use mathlib.Core.Option.{Option, none, some}
use Prim.Native.Nat.{ℕ, zero, suc, ◌+◌, ◌<◌}
use native.Mathlib.Numerals.{add-one}
use native.Mathlib.Omega.{arith}
use lib.ListN.{length, take, drop, get_or}
use lib.Seq.{take-suc}
use Rattle.text.specs.Texts.{Text, same, member}
use Rattle.text.proofs.Truths.{never}
use Rattle.text.proofs.Spans.{same_equal}
use Rattle.names.proofs.Plainly.{member_append}
use Rattle.trials.specs.Loops.{or_else, first_some}
use Rattle.trials.proofs.Turns.{turn_found, turn_on, turn_ends}

-- ---- the first answer of the indices from j on; k indices are left
pub first_from : {B : Type 0} → (ℕ → Option B) → ℕ → ℕ → Option B
first_from h zero j = none
first_from h (suc k) j = or_else (h j) (first_from h k (j + 1))

module _ {B : Type 0} where
  -- of no index
  pub from_none : (h : ℕ → Option B) (j : ℕ) → first_from h 0 j ≡ none
  unfolding first_from
  from_none h j = refl

  -- of one index more
  pub from_more : (h : ℕ → Option B) (k j : ℕ) → first_from h (suc k) j ≡ or_else (h j) (first_from h k (j + 1))
  unfolding first_from
  from_more h k j = refl

  -- indices with the same answers
  pub from_alike : (h g : ℕ → Option B) (k j : ℕ) → ((i : ℕ) → i < j + k → h i ≡ g i) → first_from h k j ≡ first_from g k j
  unfolding first_from
  from_alike h g zero j e = refl
  from_alike h g (suc k) j e = ap₂ or_else (e j (omega arith)) (from_alike h g k (j + 1) (λ i l. e i (omega arith)))

  -- the last index by itself
  pub from_last : (h : ℕ → Option B) (k j : ℕ) → first_from h (suc k) j ≡ or_else (first_from h k j) (h (j + k))
  unfolding first_from
  from_last h zero j = let z : j + 0 ≡ j = omega arith in rw z (go (h j))
    where
      go : (o : Option B) → or_else o none ≡ o
      go none = refl
      go (some b) = refl
  from_last h (suc k) j = go (h j) (from_last h k (j + 1))
    where
      go : (o : Option B) → first_from h (suc k) (j + 1) ≡ or_else (first_from h k (j + 1)) (h (j + 1 + k))
          → or_else o (first_from h (suc k) (j + 1)) ≡ or_else (or_else o (first_from h k (j + 1))) (h (j + suc k))
      go none ih = let z : j + 1 + k ≡ j + suc k = omega arith in ih ∙ ap (λ (i : ℕ). or_else (first_from h k (j + 1)) (h i)) z
      go (some b) ih = refl

-- ---- a text that stands before is passed over
pub anew : {B : Type 0} → (Text → Option B) → List Text → ℕ → Option B
anew f ts j = cond (member (get_or ts j []) (take j ts)) none (f (get_or ts j []))

module _ {B : Type 0} (f : Text → Option B) (ts : List Text) where
  -- it stands before
  pub anew_again : (j : ℕ) → member (get_or ts j []) (take j ts) ≡ true → anew f ts j ≡ none
  unfolding anew
  anew_again j e = rw e

  -- it does not
  pub anew_here : (j : ℕ) → member (get_or ts j []) (take j ts) ≡ false → anew f ts j ≡ f (get_or ts j [])
  unfolding anew
  anew_here j e = rw e

  -- the texts before j have no answer
  abbrev Without : ℕ → Type 0
  Without j = (t : Text) → member t (take j ts) ≡ true → f t ≡ none

  without_more : (j : ℕ) → j < length ts → Without j → f (get_or ts j []) ≡ none → Without (j + 1)
  unfolding member
  without_more j h w e t m = go (member t (take j ts)) (same (get_or ts j []) t) refl refl (sym (split t) ∙ m)
    where
      split : (t : Text) → member t (take (j + 1) ts) ≡ member t (take j ts) || (same (get_or ts j []) t || false)
      split t = rw (add-one j, take-suc ts j [] h) (member_append t (take j ts) (get_or ts j [] ∷ []))

      go : (a b : Bool) → member t (take j ts) ≡ a → same (get_or ts j []) t ≡ b → a || (b || false) ≡ true → f t ≡ none
      go true b i k q = w t i
      go false true i k q = ap f (sym (same_equal (get_or ts j []) t k)) ∙ e
      go false false i k q = absurd (never false q refl)

  first_anew : (k j : ℕ) → j + k ≡ length ts → Without j → first_from (anew f ts) k j ≡ first_some f (drop j ts)
  unfolding first_from anew
  first_anew zero j e w = sym (turn_ends f ts j (omega arith))
  first_anew (suc k) j e w = go (member (get_or ts j []) (take j ts)) (f (get_or ts j [])) refl refl (first_anew k (j + 1) (omega arith))
    where
      here : j < length ts
      here = omega arith

      on : (Without (j + 1) → first_from (anew f ts) k (j + 1) ≡ first_some f (drop (j + 1) ts)) → f (get_or ts j []) ≡ none → first_from (anew f ts) k (j + 1) ≡ first_some f (drop j ts)
      on ih q = ih (without_more j here w q) ∙ sym (turn_on f ts j [] here q)

      go : (a : Bool) (o : Option B) → member (get_or ts j []) (take j ts) ≡ a → f (get_or ts j []) ≡ o
          → (Without (j + 1) → first_from (anew f ts) k (j + 1) ≡ first_some f (drop (j + 1) ts)) → or_else (cond a none o) (first_from (anew f ts) k (j + 1)) ≡ first_some f (drop j ts)
      go true o m q ih = on ih (w (get_or ts j []) m)
      go false none m q ih = on ih q
      go false (some b) m q ih = sym (turn_found f ts j [] b here q)

  -- so the answer is that of all
  pub anew_first : first_from (anew f ts) (length ts) 0 ≡ first_some f ts
  unfolding member
  anew_first = first_anew (length ts) 0 (omega arith) (λ t m. absurd (never false m refl))
