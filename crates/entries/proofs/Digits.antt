-- Sets as the digits of a number: what joining sets, putting one in and taking one out make of their members.
use mathlib.Core.Path.{◌≡◌, refl, sym, ap, ◌∙◌}
use mathlib.Core.Bool.{Bool, true, false, not, cond, ◌&&◌, ◌||◌}
use Prim.Native.Nat.{ℕ, zero, suc, ◌+◌, ◌-◌, ◌*◌, ◌/◌, ◌%◌, ◌^◌, ◌≤◌, ◌<◌, min, max}
use native.Mathlib.Nat.{pow-suc, div-one}
use native.Mathlib.Numerals.{one-add}
use native.Mathlib.Omega.{arith}
use lib.Dec.{eqb, ltb, leb-suc-suc, leb-suc-zero, eqb-suc-suc, eqb-zero-suc, eqb-suc-zero}
use borrow.Author.Tests.{lt-ltb}
use lib.Pow.{pow_pos, shr-shr}
use lib.Bits.{bit_and, bit_or, and_step, or_step}
use Rattle.entries.specs.Sets.{set_of, digit, with_member, without_member, everything, lowest}

-- the same members make the same number
pub set_same : (k : ℕ) (f g : ℕ → Bool) → ((i : ℕ) → i < k → f i ≡ g i) → set_of k f ≡ set_of k g
unfolding set_of
set_same zero f g h = refl
set_same (suc k) f g h =
    rw (h 0 (omega arith), set_same k (λ i. f (suc i)) (λ i. g (suc i)) (λ i l. h (suc i) (omega arith)))

-- ---- a number by its lowest digit and its half
half : (b : Bool) (x : ℕ) → (cond b 1 0 + 2 * x) / 2 ≡ x
half true x = omega arith
half false x = omega arith

odd : (b : Bool) (x : ℕ) → (cond b 1 0 + 2 * x) % 2 ≡ cond b 1 0
odd true x = omega arith
odd false x = omega arith

-- digit i of a set is its member i
pub digit_set : (k : ℕ) (f : ℕ → Bool) (i : ℕ) → i < k → digit i (set_of k f) ≡ cond (f i) 1 0
unfolding set_of
digit_set zero f i h = absurd (omega arith)
digit_set (suc k) f zero h = rw div-one (odd (f 0) (set_of k (λ i. f (suc i))))
digit_set (suc k) f (suc i) h =
    ap (λ (n : ℕ). set_of (suc k) f / 2 ^ n % 2) (sym (one-add i))
    ∙ ap (λ (y : ℕ). y % 2) (sym (shr-shr (set_of (suc k) f) 1 i))
    ∙ ap (λ (y : ℕ). y / 2 ^ i % 2) (half (f 0) (set_of k (λ i. f (suc i))))
    ∙ digit_set k (λ i. f (suc i)) i (omega arith)

-- ---- two sets
-- both together
pub set_or : (k : ℕ) (f g : ℕ → Bool) → bit_or (set_of k f) (set_of k g) ≡ set_of k (λ i. f i || g i)
unfolding set_of
set_or zero f g = refl
set_or (suc k) f g =
    or_step (set_of (suc k) f) (set_of (suc k) g)
    ∙ rw (half (f 0), half (g 0), odd (f 0), odd (g 0), set_or k (λ i. f (suc i)) (λ i. g (suc i))) (go (f 0) (g 0) _)
  where
    go : (a b : Bool) (x : ℕ) → x * 2 + max (cond a 1 0) (cond b 1 0) ≡ cond (a || b) 1 0 + 2 * x
    go true true x = omega arith
    go true false x = omega arith
    go false true x = omega arith
    go false false x = omega arith

-- what they share
pub set_and : (k : ℕ) (f g : ℕ → Bool) → bit_and (set_of k f) (set_of k g) ≡ set_of k (λ i. f i && g i)
unfolding set_of
set_and zero f g = refl
set_and (suc k) f g =
    and_step (set_of (suc k) f) (set_of (suc k) g)
    ∙ rw (half (f 0), half (g 0), odd (f 0), odd (g 0), set_and k (λ i. f (suc i)) (λ i. g (suc i))) (go (f 0) (g 0) _)
  where
    go : (a b : Bool) (x : ℕ) → x * 2 + min (cond a 1 0) (cond b 1 0) ≡ cond (a && b) 1 0 + 2 * x
    go true true x = omega arith
    go true false x = omega arith
    go false true x = omega arith
    go false false x = omega arith

-- a set and the others make all
set_halves : (k : ℕ) (f : ℕ → Bool) → suc (set_of k f + set_of k (λ i. not (f i))) ≡ 2 ^ k
unfolding set_of
set_halves zero f = refl
set_halves (suc k) f = go (f 0) (set_of k (λ i. f (suc i))) (set_of k (λ i. not (f (suc i)))) (set_halves k (λ i. f (suc i)))
  where
    go : (b : Bool) (x y : ℕ) → suc (x + y) ≡ 2 ^ k → suc (cond b 1 0 + 2 * x + (cond (not b) 1 0 + 2 * y)) ≡ 2 ^ suc k
    go true x y e = omega (arith, pow-suc 2 k)
    go false x y e = omega (arith, pow-suc 2 k)

-- the others
pub set_not : (k : ℕ) (f : ℕ → Bool) → 2 ^ k - 1 - set_of k f ≡ set_of k (λ i. not (f i))
set_not k f = omega (arith, set_halves k f)

-- ---- sets by name
-- none
pub set_none : (k : ℕ) (f : ℕ → Bool) → ((i : ℕ) → f i ≡ false) → set_of k f ≡ 0
unfolding set_of
set_none zero f h = refl
set_none (suc k) f h = rw (h 0, set_none k (λ i. f (suc i)) (λ i. h (suc i)))

-- i alone
pub set_one : (k i : ℕ) → i < k → set_of k (λ j. eqb j i) ≡ 2 ^ i
unfolding set_of
set_one zero i h = absurd (omega arith)
set_one (suc k) zero h = rw (set_none k (λ j. eqb (suc j) 0) eqb-suc-zero)
set_one (suc k) (suc i) h =
    rw (eqb-zero-suc i, set_same k (λ j. eqb (suc j) (suc i)) (λ j. eqb j i) (λ j l. eqb-suc-suc j i), set_one k i (omega arith))
    (omega (arith, pow-suc 2 i))

-- the n lowest
pub set_low : (k n : ℕ) → n ≤ k → set_of k (λ i. ltb i n) ≡ lowest n
unfolding set_of
set_low k zero h = set_none k (λ i. ltb i 0) leb-suc-zero
set_low zero (suc n) h = absurd (omega arith)
set_low (suc k) (suc n) h =
    rw (lt-ltb 0 (suc n) (omega arith), set_same k (λ i. ltb (suc i) (suc n)) (λ i. ltb i n) (λ i l. leb-suc-suc (suc i) n), set_low k n (omega arith))
    (omega (arith, pow-suc 2 n, pow_pos n))

-- all of 0 to 31
pub set_all : set_of 32 (λ i. true) ≡ everything
unfolding set_of
set_all = refl

-- ---- one put in, one taken out
module _ (f : ℕ → Bool) (i : ℕ) (h : i < 32) where
  pub set_with : with_member (set_of 32 f) i ≡ set_of 32 (λ j. f j || eqb j i)
  set_with = rw (← set_one 32 i h) (set_or 32 f (λ j. eqb j i))

  pub set_without : without_member (set_of 32 f) i ≡ set_of 32 (λ j. f j && not (eqb j i))
  set_without = rw (← set_one 32 i h, set_not 32 (λ j. eqb j i)) (set_and 32 f (λ j. not (eqb j i)))
