-- Numbers in decimal digits: how many there are, and that different numbers have different digits.
use mathlib.Core.Path.{◌≡◌, refl, sym, ap, ◌∙◌}
use mathlib.Core.Bool.{Bool, true, false, cond}
use mathlib.Core.List.{[], ◌∷◌, ◌++◌}
use Prim.Native.Nat.{ℕ, zero, suc, ◌+◌, ◌-◌, ◌*◌, ◌/◌, ◌%◌, ◌^◌, ◌≤◌, ◌<◌}
use native.Mathlib.Omega.{arith}
use lib.ListN.{length, length-append}
use lib.Dec.{ltb}
use borrow.Author.Tests.{lt-ltb, le-ltb}
use Rattle.text.specs.Texts.{Text}
use Rattle.writing.specs.Decimals.{digits}

-- a digit alone
pub one_digit : (k n : ℕ) → (k ≡ 0 → ⊥) → n < 10 → digits k n ≡ (48 + n) ∷ []
unfolding digits
one_digit zero n some h = absurd (some refl)
one_digit (suc k) n some h = rw (lt-ltb n 10 h)

-- the last behind the others
pub more_digits : (k n : ℕ) → (k ≡ 0 → ⊥) → 10 ≤ n → digits k n ≡ digits (k - 1) (n / 10) ++ (48 + n % 10) ∷ []
unfolding digits
more_digits zero n some h = absurd (some refl)
more_digits (suc k) n some h = let e : suc k - 1 ≡ k = omega arith in rw (le-ltb n 10 h, e)

-- what digits come to, after a
unfoldable pub value : ℕ → Text → ℕ
value a [] = a
value a (x ∷ xs) = value (a * 10 + (x - 48)) xs

-- a digit more
value_last : (a : ℕ) (t : Text) (x : ℕ) → value a (t ++ x ∷ []) ≡ value a t * 10 + (x - 48)
unfolding value
value_last a [] x = refl
value_last a (y ∷ ys) x = value_last (a * 10 + (y - 48)) ys x

-- the digits of n come to n
pub value_digits : (k n : ℕ) → n < 10 ^ k → value 0 (digits k n) ≡ n
unfolding value digits
value_digits zero n h = omega arith
value_digits (suc k) n h = go (ltb n 10) refl (value_digits k (n / 10) (omega arith))
  where
    go : (b : Bool) → ltb n 10 ≡ b → value 0 (digits k (n / 10)) ≡ n / 10
        → value 0 (cond b ((48 + n) ∷ []) (digits k (n / 10) ++ (48 + n % 10) ∷ [])) ≡ n
    go true e ih = omega arith
    go false e ih = value_last 0 (digits k (n / 10)) (48 + n % 10) ∙ rw ih (omega arith)

-- different numbers have different digits
pub digits_apart : (k m n : ℕ) → m < 10 ^ k → n < 10 ^ k → digits k m ≡ digits k n → m ≡ n
digits_apart k m n h i e = sym (value_digits k m h) ∙ ap (value 0) e ∙ value_digits k n i

-- there is one
pub digits_some : (k n : ℕ) → 1 ≤ length (digits (suc k) n)
unfolding digits
digits_some k n = go (ltb n 10)
  where
    go : (c : Bool) → 1 ≤ length (cond c ((48 + n) ∷ []) (digits k (n / 10) ++ (48 + n % 10) ∷ []))
    go true = omega arith
    go false = simp length-append (omega arith)

-- they are k at most
pub digits_most : (k n : ℕ) → length (digits k n) ≤ k
unfolding digits
digits_most zero n = omega arith
digits_most (suc k) n = go (ltb n 10) (digits_most k (n / 10))
  where
    go : (c : Bool) → length (digits k (n / 10)) ≤ k → length (cond c ((48 + n) ∷ []) (digits k (n / 10) ++ (48 + n % 10) ∷ [])) ≤ suc k
    go true ih = omega arith
    go false ih = simp length-append (omega arith)
