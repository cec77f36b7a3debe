-- Laws about the numbers of the work table, number by number: each has the shape of a step of a loop.
use mathlib.Core.Path.{◌≡◌, refl, sym, ap, ◌∙◌}
use mathlib.Core.Bool.{Bool, true, false, ◌&&◌}
use mathlib.Core.List.{List, [], ◌∷◌, ◌++◌}
use Prim.Native.Nat.{ℕ, zero, suc, ◌+◌, ◌≤◌, ◌<◌}
use native.Mathlib.Nat.{add-zero, zero-add, add-suc, suc-add}
use native.Mathlib.Numerals.{add-one}
use lib.ListN.{length, take, drop, get_or, set, drop_of_length-le}
use lib.Seq.{drop-cons, take-suc-set}
use lib.Dec.{eqb}
use borrow.Author.Tests.{eq-eqb, ne_eqb}
use Rattle.edges.specs.Garbage.{garbage_at, garbage, agrees}

-- ---- tests: what is left of w from index i on decides
module _ (f : ℕ → ℕ) (b : Bool) (w : List ℕ) (i : ℕ) (v : b ≡ agrees f i (drop i w)) where
  -- the number at index i is another
  pub agrees_differs : (x : ℕ) → i < length w → (get_or w i 0 ≡ x → ⊥) → x ≡ f i → false ≡ b
  unfolding agrees
  agrees_differs x h n e = sym (v ∙ rw (drop-cons w i 0 h, ← e, ne_eqb _ _ n))

  -- the number at index i is the right one: on to the next
  pub agrees_step : (x : ℕ) → i < length w → get_or w i 0 ≡ x → x ≡ f i → b ≡ agrees f (i + 1) (drop (i + 1) w)
  unfolding agrees
  agrees_step x h s e = v ∙ rw (add-one i, drop-cons w i 0 h, ← e, eq-eqb _ _ s)

  -- no number is left
  pub agrees_end : length w ≤ i → true ≡ b
  unfolding agrees
  agrees_end h = sym (v ∙ rw (drop_of_length-le w h))

-- where all are to be the same number, it does not matter at which index they stand
agrees_anywhere : (c i k : ℕ) (w : List ℕ) → agrees (λ (j : ℕ). c) i w ≡ agrees (λ (j : ℕ). c) k w
unfolding agrees
agrees_anywhere c i k [] = refl
agrees_anywhere c i k (x ∷ xs) = ap (λ (b : Bool). eqb x c && b) (agrees_anywhere c (suc i) (suc k) xs)

-- as the library asks of each number
pub agrees_none : (c : ℕ) → agrees (λ (j : ℕ). c) 0 [] ≡ true
unfolding agrees
agrees_none c = refl

pub agrees_first : (c x : ℕ) (xs : List ℕ) → agrees (λ (j : ℕ). c) 0 (x ∷ xs) ≡ (eqb x c && agrees (λ (j : ℕ). c) 0 xs)
unfolding agrees
agrees_first c x xs = ap (λ (b : Bool). eqb x c && b) (agrees_anywhere c 1 0 xs)

-- ---- filling
-- one more number behind n of them
garbage_more : (i n : ℕ) → garbage i n ++ (garbage_at (i + n) ∷ []) ≡ garbage i (suc n)
unfolding garbage
garbage_more i zero = rw (add-zero i)
garbage_more i (suc n) =
    ap (λ (k : ℕ). garbage_at i ∷ (garbage (suc i) n ++ (garbage_at k ∷ []))) (add-suc i n ∙ sym (suc-add i n))
    ∙ ap (λ (l : List ℕ). garbage_at i ∷ l) (garbage_more (suc i) n)

-- the number is stored at index i
pub fill_step : (w : List ℕ) (i x : ℕ) → take i w ≡ garbage 0 i → i < length w → x ≡ garbage_at i → take (i + 1) (set w i x) ≡ garbage 0 (i + 1)
fill_step w i x v h e =
    rw (add-one i, take-suc-set w i x h, v, e)
    (ap (λ (k : ℕ). garbage 0 i ++ (garbage_at k ∷ [])) (sym (zero-add i)) ∙ garbage_more 0 i)
