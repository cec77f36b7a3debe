-- What texts share from their start.
use mathlib.Core.Path.{◌≡◌, refl, sym, ap, ◌∙◌}
use mathlib.Core.Bool.{Bool, true, false, cond, ◌&&◌}
use mathlib.Core.List.{[], ◌∷◌}
use Prim.Native.Nat.{ℕ, zero, suc, ◌+◌, ◌≤◌, ◌<◌}
use native.Mathlib.Omega.{arith}
use lib.ListN.{length, get_or, take, drop, drop_of_length-le}
use lib.Seq.{drop-cons}
use lib.Dec.{eqb, leb, leb-suc-suc, eqb-suc-suc}
use borrow.Author.Tests.{eqb-true, eq-eqb, ne_eqb, le-leb, lt-leb}
use Rattle.text.specs.Texts.{Text, same, starts_with}
use Rattle.text.proofs.Truths.{never}
use Rattle.firsts.specs.Shares.{common}

-- a text shares all of itself with itself at most
pub common_bound : (a b : Text) → common a b ≤ length a
unfolding common
common_bound [] b = omega arith
common_bound (x ∷ xs) [] = omega arith
common_bound (x ∷ xs) (y ∷ ys) = go (eqb x y) (common_bound xs ys)
  where
    go : (e : Bool) → common xs ys ≤ length xs → cond e (suc (common xs ys)) 0 ≤ suc (length xs)
    go true h = omega arith
    go false h = omega arith

-- either way round
pub common_sym : (a b : Text) → common a b ≡ common b a
unfolding common
common_sym [] [] = refl
common_sym [] (y ∷ ys) = refl
common_sym (x ∷ xs) [] = refl
common_sym (x ∷ xs) (y ∷ ys) = go (eqb y x) refl (common_sym xs ys)
  where
    go : (e : Bool) → eqb y x ≡ e → common xs ys ≡ common ys xs → cond (eqb x y) (suc (common xs ys)) 0 ≡ cond e (suc (common ys xs)) 0
    go true e again = let q : eqb x y ≡ true = rw (eqb-true y x e) (eq-eqb x x refl) in rw q (ap suc again)
    go false e again = let q : eqb x y ≡ false = ne_eqb x y (λ i. never (eqb y x) (eq-eqb y x (sym i)) e) in rw q

-- ---- what two texts share with a third
-- what is less is shared by all three, and no more
pub common_less : (a b c : Text) → common a b < common b c → common a c ≡ common a b
unfolding common
common_less [] b c h = refl
common_less (x ∷ xs) [] c h = absurd (omega arith)
common_less (x ∷ xs) (y ∷ ys) [] h = absurd (omega arith)
common_less (x ∷ xs) (y ∷ ys) (z ∷ zs) h = go (eqb y z) refl (eqb x y) refl h (common_less xs ys zs)
  where
    go : (e : Bool) → eqb y z ≡ e → (f : Bool) → eqb x y ≡ f → cond f (suc (common xs ys)) 0 < cond e (suc (common ys zs)) 0
        → (common xs ys < common ys zs → common xs zs ≡ common xs ys) → cond (eqb x z) (suc (common xs zs)) 0 ≡ cond f (suc (common xs ys)) 0
    go false e f i l again = absurd (omega arith)
    go true e true i l again = let q : eqb x z ≡ true = rw (← eqb-true y z e) i in rw q (ap suc (again (omega arith)))
    go true e false i l again = let q : eqb x z ≡ false = rw (← eqb-true y z e) i in rw q

pub common_more : (a b c : Text) → common b c < common a b → common a c ≡ common b c
unfolding common
common_more [] b c h = absurd (omega arith)
common_more (x ∷ xs) [] c h = absurd (omega arith)
common_more (x ∷ xs) (y ∷ ys) [] h = refl
common_more (x ∷ xs) (y ∷ ys) (z ∷ zs) h = go (eqb x y) refl (eqb y z) refl h (common_more xs ys zs)
  where
    go : (e : Bool) → eqb x y ≡ e → (f : Bool) → eqb y z ≡ f → cond f (suc (common ys zs)) 0 < cond e (suc (common xs ys)) 0
        → (common ys zs < common xs ys → common xs zs ≡ common ys zs) → cond (eqb x z) (suc (common xs zs)) 0 ≡ cond f (suc (common ys zs)) 0
    go false e f i l again = absurd (omega arith)
    go true e true i l again = let q : eqb x z ≡ true = rw (eqb-true x y e) i in rw q (ap suc (again (omega arith)))
    go true e false i l again = let q : eqb x z ≡ false = rw (eqb-true x y e) i in rw q

-- where both share as much, they share that, and perhaps more
pub common_alike : (a b c : Text) (n : ℕ) → common a b ≡ n → common b c ≡ n → n + common (drop n a) (drop n c) ≡ common a c
unfolding common
common_alike a b c zero p q = omega arith
common_alike [] b c (suc n) p q = absurd (omega arith)
common_alike (x ∷ xs) [] c (suc n) p q = absurd (omega arith)
common_alike (x ∷ xs) (y ∷ ys) [] (suc n) p q = absurd (omega arith)
common_alike (x ∷ xs) (y ∷ ys) (z ∷ zs) (suc n) p q = go (eqb x y) refl (eqb y z) refl p q (common_alike xs ys zs n)
  where
    go : (e : Bool) → eqb x y ≡ e → (f : Bool) → eqb y z ≡ f → cond e (suc (common xs ys)) 0 ≡ suc n → cond f (suc (common ys zs)) 0 ≡ suc n
        → (common xs ys ≡ n → common ys zs ≡ n → n + common (drop n xs) (drop n zs) ≡ common xs zs) → suc n + common (drop n xs) (drop n zs) ≡ cond (eqb x z) (suc (common xs zs)) 0
    go false e f i p q again = absurd (omega arith)
    go true e false i p q again = absurd (omega arith)
    go true e true i p q again =
        let r : eqb x z ≡ true = rw (eqb-true x y e) i in
        let s = again (omega arith) (omega arith) in
        rw r (omega arith)

-- ---- byte by byte
module _ (t u : Text) (i : ℕ) where
  -- one text ends
  pub common_end : length t ≤ i → common (drop i t) (drop i u) ≡ 0
  unfolding common
  common_end h = rw (drop_of_length-le t {i = i} h)

  pub common_short : length u ≤ i → common (drop i t) (drop i u) ≡ 0
  unfolding common
  common_short h = rw (drop_of_length-le u {i = i} h) (none (drop i t))
    where
      none : (a : Text) → common a [] ≡ 0
      none [] = refl
      none (x ∷ xs) = refl

  module _ (h : i < length t) (l : i < length u) where
    here : common (drop i t) (drop i u) ≡ cond (eqb (get_or t i 0) (get_or u i 0)) (suc (common (drop (suc i) t) (drop (suc i) u))) 0
    unfolding common
    here = rw (drop-cons t i 0 h, drop-cons u i 0 l)

    -- another byte
    pub common_differ : (get_or t i 0 ≡ get_or u i 0 → ⊥) → common (drop i t) (drop i u) ≡ 0
    common_differ n = here ∙ rw (ne_eqb (get_or t i 0) (get_or u i 0) n)

    -- the same byte
    pub common_step : get_or t i 0 ≡ get_or u i 0 → common (drop i t) (drop i u) ≡ suc (common (drop (suc i) t) (drop (suc i) u))
    common_step e = here ∙ rw (eq-eqb (get_or t i 0) (get_or u i 0) e)

-- ---- what the number tells
-- equal texts share all of both
pub common_same : (a b : Text) → same b a ≡ (eqb (common a b) (length a) && eqb (length b) (length a))
unfolding common same
common_same [] [] = refl
common_same [] (y ∷ ys) = sym (ne_eqb (suc (length ys)) 0 (λ e. omega arith))
common_same (x ∷ xs) [] = rw (ne_eqb 0 (suc (length xs)) (λ e. omega arith))
common_same (x ∷ xs) (y ∷ ys) = go (eqb y x) refl (common_same xs ys)
  where
    go : (e : Bool) → eqb y x ≡ e → same ys xs ≡ (eqb (common xs ys) (length xs) && eqb (length ys) (length xs)) → (e && same ys xs) ≡ (eqb (cond (eqb x y) (suc (common xs ys)) 0) (suc (length xs)) && eqb (suc (length ys)) (suc (length xs)))
    go true e again = let q : eqb x y ≡ true = rw (eqb-true y x e) (eq-eqb x x refl) in rw (q, eqb-suc-suc (common xs ys) (length xs), eqb-suc-suc (length ys) (length xs)) again
    go false e again = let q : eqb x y ≡ false = ne_eqb x y (λ i. never (eqb y x) (eq-eqb y x (sym i)) e) in rw (q, ne_eqb 0 (suc (length xs)) (λ i. omega arith))

-- the start of one text starts the other where they share as much
pub common_starts : (t u : Text) (n : ℕ) → n ≤ length u → starts_with (take n u) t ≡ leb n (common t u)
unfolding common starts_with
common_starts t u zero h = sym (le-leb 0 (common t u) (omega arith))
common_starts t [] (suc n) h = absurd (omega arith)
common_starts [] (y ∷ ys) (suc n) h = sym (lt-leb (suc n) 0 (omega arith))
common_starts (x ∷ xs) (y ∷ ys) (suc n) h = go (eqb y x) refl (common_starts xs ys n (omega arith))
  where
    go : (e : Bool) → eqb y x ≡ e → starts_with (take n ys) xs ≡ leb n (common xs ys) → (e && starts_with (take n ys) xs) ≡ leb (suc n) (cond (eqb x y) (suc (common xs ys)) 0)
    go true e again = let q : eqb x y ≡ true = rw (eqb-true y x e) (eq-eqb x x refl) in rw q (again ∙ sym (leb-suc-suc n (common xs ys)))
    go false e again = let q : eqb x y ≡ false = ne_eqb x y (λ i. never (eqb y x) (eq-eqb y x (sym i)) e) in rw q (sym (lt-leb (suc n) 0 (omega arith)))
