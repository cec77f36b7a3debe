-- A path's parameters dropped: what is left, segment by segment, and that deciding sees nothing else of the path.
use mathlib.Core.Path.{◌≡◌, refl, sym, ap, ◌∙◌}
use mathlib.Core.Bool.{Bool, true, false, not, cond, ◌&&◌, ◌||◌, and-false}
use mathlib.Core.List.{[], ◌∷◌, ◌++◌, append-nil}
use Prim.Native.Nat.{ℕ}
use native.Mathlib.Omega.{arith}
use lib.Dec.{eqb}
use borrow.Author.Tests.{eqb-true}
use Rattle.text.specs.Texts.{Text, slash, semicolon, has, starts_with}
use Rattle.text.proofs.Truths.{and_left, or_left, or_right}
use Rattle.listings.specs.Listings.{Listing}
use Rattle.decisions.specs.Paths.{is_dropped, left_of, dropped}
use Rattle.decisions.specs.Decisions.{combined_for, answer_to, decide}
use Rattle.decisions.specs.Demands.{DropsParameters, AnsweredAsDropped}

-- a byte more, dropped or kept
pub left_step : (b : Bool) (x : ℕ) (xs : Text) (d : Bool) → is_dropped b x ≡ d → left_of b (x ∷ xs) ≡ cond d [] (x ∷ []) ++ left_of d xs
unfolding left_of
left_step b x xs d e = ap (λ (c : Bool). cond c [] (x ∷ []) ++ left_of c xs) e

-- ---- what is left of each part of a segment
-- before a `;` everything
left_before : (s t : Text) → has semicolon s ≡ false → left_of false (s ++ t) ≡ s ++ left_of false t
unfolding has
left_before [] t h = refl
left_before (x ∷ xs) t h =
    left_step false x (xs ++ t) false (ap (λ (b : Bool). not (eqb slash x) && b) (or_left (eqb semicolon x) (has semicolon xs) h) ∙ and-false (not (eqb slash x)))
    ∙ ap (λ (u : Text). x ∷ u) (left_before xs t (or_right (eqb semicolon x) (has semicolon xs) h))

-- behind it nothing, up to the next `/`
left_behind : (s t : Text) → has slash s ≡ false → left_of true (s ++ t) ≡ left_of true t
unfolding has
left_behind [] t h = refl
left_behind (x ∷ xs) t h =
    left_step true x (xs ++ t) true (ap (λ (b : Bool). not b && true) (or_left (eqb slash x) (has slash xs) h))
    ∙ left_behind xs t (or_right (eqb slash x) (has slash xs) h)

-- ---- the path
-- one without a `;` stays as it is
pub dropped_none : (t : Text) → has semicolon t ≡ false → dropped t ≡ t
unfolding dropped left_of
dropped_none t h = ap (λ (u : Text). left_of false u) (sym (append-nil t)) ∙ left_before t [] h ∙ append-nil t

pub drops_parameters : DropsParameters
unfolding dropped left_of
drops_parameters = record {
  untouched = dropped_none;
  segment = λ s p t h k. left_before s (semicolon ∷ (p ++ slash ∷ t)) h ∙ ap (λ (u : Text). s ++ u) (left_behind p (slash ∷ t) k);
  last = λ s p h k.
      left_before s (semicolon ∷ p) h
      ∙ ap (λ (u : Text). s ++ u) (ap (λ (u : Text). left_of true u) (sym (append-nil p)) ∙ left_behind p [] k)
      ∙ append-nil s;
}

-- it still starts with `/`
pub dropped_rooted : (t : Text) → starts_with (slash ∷ []) t ≡ true → starts_with (slash ∷ []) (dropped t) ≡ true
unfolding dropped left_of starts_with
dropped_rooted [] h = h
dropped_rooted (x ∷ xs) h =
    let q : slash ≡ x = eqb-true slash x (and_left (eqb slash x) true h) in
    rw (← q)

-- ---- what is left has no `;`, so that dropping twice is dropping once
kept_other : (b : Bool) (x : ℕ) → is_dropped b x ≡ false → eqb semicolon x ≡ false
kept_other b x h = go (eqb slash x) (eqb semicolon x) refl refl h
  where
    clash : slash ≡ x → semicolon ≡ x → ⊥
    clash p q = let z : ◌≡◌ {A = ℕ} slash semicolon = p ∙ sym q in omega arith

    go : (a s : Bool) → eqb slash x ≡ a → eqb semicolon x ≡ s → not a && (b || s) ≡ false → s ≡ false
    go true true p q e = absurd (clash (eqb-true slash x p) (eqb-true semicolon x q))
    go true false p q e = refl
    go false s p q e = or_right b s e

left_without : (b : Bool) (t : Text) → has semicolon (left_of b t) ≡ false
unfolding has left_of
left_without b [] = refl
left_without b (x ∷ xs) = go (is_dropped b x) refl (left_without (is_dropped b x) xs)
  where
    go : (d : Bool) → is_dropped b x ≡ d → has semicolon (left_of d xs) ≡ false → has semicolon (cond d [] (x ∷ []) ++ left_of d xs) ≡ false
    go true e h = h
    go false e h = rw (kept_other b x e) h

pub dropped_without : (path : Text) → has semicolon (dropped path) ≡ false
unfolding dropped
dropped_without path = left_without false path

-- ---- deciding
pub answered_as_dropped : (l : Listing) → AnsweredAsDropped l
unfolding decide
answered_as_dropped l path method c =
    ap (λ (p : Text). answer_to (combined_for l p method) c) (sym (dropped_none (dropped path) (dropped_without path)))
