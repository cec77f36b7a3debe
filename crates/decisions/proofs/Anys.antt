-- One of a list passes: in plain words, and where two lists have the same members.
use mathlib.Core.Path.{◌≡◌, refl}
use mathlib.Core.Bool.{Bool, true, false, ◌||◌, or-true}
use mathlib.Core.List.Memᴰ
use mathlib.Core.List.{List, [], ◌∷◌, Memᴰ}
use mathlib.Core.Logic.{◌↔◌, ⊎_elim}
use Rattle.text.proofs.Truths.{never}
use Rattle.decisions.specs.Combining.{any_of}

-- every member of the one list is one of the other
abbrev pub Within : {A : Type 0} → List A → List A → Type 0
Within {A} xs ys = (x : A) → Memᴰ x xs → Memᴰ x ys

module _ {A : Type 0} (f : A → Bool) where
  any_of_lem : (xs : List A) → any_of f xs ≡ true → (x : A) × Memᴰ x xs × (f x ≡ true)
  unfolding any_of
  any_of_lem [] h = absurd (never false h refl)
  any_of_lem (x ∷ xs) h = go (f x) refl h (any_of_lem xs)
    where
      go : (b : Bool) → f x ≡ b → b || any_of f xs ≡ true → (any_of f xs ≡ true → (y : A) × Memᴰ y xs × (f y ≡ true)) → (y : A) × Memᴰ y (x ∷ xs) × (f y ≡ true)
      go true e i ih = (x, Memᴰ.head refl, e)
      go false e i ih = let r = ih i in (r.0, Memᴰ.tail r.1, r.2)

  of_any : (xs : List A) (x : A) → Memᴰ x xs → f x ≡ true → any_of f xs ≡ true
  unfolding any_of
  of_any [] x m e = absurd (Memᴰ.not-nil m)
  of_any (y ∷ ys) x m e =
      ⊎_elim (λ (q : x ≡ y). rw (← q, e)) (λ (k : Memᴰ x ys). rw (of_any ys x k e) (or-true (f y))) (Memᴰ.cases_cons m)

  pub any_plain : (xs : List A) → (any_of f xs ≡ true) ↔ ((x : A) × Memᴰ x xs × (f x ≡ true))
  any_plain xs = (any_of_lem xs, λ r. of_any xs r.0 r.1 r.2)

  -- further ones lose nothing
  pub any_more : (xs ys : List A) → Within xs ys → any_of f xs ≡ true → any_of f ys ≡ true
  any_more xs ys h e = let r = any_of_lem xs e in of_any ys r.0 (h r.0 r.1) r.2

  -- the same members pass alike: order and repeats are no matter
  pub any_same : (xs ys : List A) → Within xs ys → Within ys xs → any_of f xs ≡ any_of f ys
  any_same xs ys h k = go (any_of f xs) (any_of f ys) refl refl
    where
      go : (a b : Bool) → any_of f xs ≡ a → any_of f ys ≡ b → a ≡ b
      go true true d e = refl
      go true false d e = absurd (never (any_of f ys) (any_more xs ys h d) e)
      go false true d e = absurd (never (any_of f xs) (any_more ys xs k e) d)
      go false false d e = refl
