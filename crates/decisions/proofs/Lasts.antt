-- What follows the last of a byte in a text, and a byte in a text's middle.
use mathlib.Core.Path.{◌≡◌, refl, ap, ◌∙◌}
use mathlib.Core.Bool.{Bool, cond, ◌||◌, false, true, or-true}
use mathlib.Core.List.{[], ◌∷◌, ◌++◌}
use Prim.Native.Nat.{ℕ}
use lib.Dec.{eqb}
use borrow.Author.Tests.{eq-eqb}
use Rattle.text.specs.Texts.{Text, has}
use Rattle.text.proofs.Truths.{or_left, or_right}
use Rattle.decisions.specs.Matching.{after_last_or}

-- ---- what follows the last b
-- where a text has none, nothing does
pub last_none : (b : ℕ) (keep t : Text) → has b t ≡ false → after_last_or b keep t ≡ keep
unfolding has after_last_or
last_none b keep [] h = refl
last_none b keep (x ∷ xs) h =
    ap (λ (c : Bool). after_last_or b (cond c xs keep) xs) (or_left (eqb b x) (has b xs) h) ∙ last_none b keep xs (or_right (eqb b x) (has b xs) h)

-- a text without one does that stands behind one
pub last_behind : (b : ℕ) (keep s t : Text) → has b t ≡ false → after_last_or b keep (s ++ b ∷ t) ≡ t
unfolding after_last_or
last_behind b keep [] t h = ap (λ (c : Bool). after_last_or b (cond c t keep) t) (eq-eqb b b refl) ∙ last_none b t t h
last_behind b keep (x ∷ xs) t h = last_behind b (cond (eqb b x) (xs ++ b ∷ t) keep) xs t h

-- ---- a byte in a text
-- in its middle
pub has_middle : (b : ℕ) (s t : Text) → has b (s ++ b ∷ t) ≡ true
unfolding has
has_middle b [] t = ap (λ (c : Bool). c || has b t) (eq-eqb b b refl)
has_middle b (x ∷ xs) t = ap (λ (c : Bool). eqb b x || c) (has_middle b xs t) ∙ or-true (eqb b x)
