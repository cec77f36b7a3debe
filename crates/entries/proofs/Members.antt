-- Sets of numbers below 32 as the code makes them: by shifts of a u32.
use mathlib.Core.Path.{◌≡◌, sym, ap}
use mathlib.Core.Bool.{Bool, true, false, cond}
use mathlib.Core.List.{List}
use Prim.Native.Nat.{ℕ, ◌-◌, ◌*◌, ◌%◌, ◌^◌, ◌≤◌, ◌<◌}
use native.Mathlib.Nat.{mod-eq_of_lt, one-mul}
use native.Mathlib.Omega.{arith}
use lib.Pow.{pow-lt, pow_pos}
use lib.ListN.{set}
use lib.Bits.{bit_and, bit_or}
use Rattle.entries.specs.Sets.{with_member, without_member, lowest}

-- the code's shift is the power
pub shifted : (i : ℕ) → i < 32 → 1 * 2 ^ (i % 32) % 4294967296 ≡ 2 ^ i
shifted i h = rw (mod-eq_of_lt h, one-mul (2 ^ i)) (mod-eq_of_lt (pow-lt h))

-- i put in, and taken out
pub member_in : (x i : ℕ) → i < 32 → bit_or x (1 * 2 ^ (i % 32) % 4294967296) ≡ with_member x i
member_in x i h = ap (bit_or x) (shifted i h)

pub member_out : (x i : ℕ) → i < 32 → bit_and x (4294967295 - 1 * 2 ^ (i % 32) % 4294967296) ≡ without_member x i
member_out x i h = ap (λ (y : ℕ). bit_and x (4294967295 - y)) (shifted i h)

-- the n lowest: all of them, or the shift less 1
pub lowest_all : (n : ℕ) → n ≡ 32 → 4294967295 ≡ lowest n
lowest_all n e = sym (ap (λ (k : ℕ). 2 ^ k - 1) e)

module _ (n : ℕ) (h : n ≤ 32) (d : n ≡ 32 → ⊥) where
  pub lowest_takes : 1 ≤ 1 * 2 ^ (n % 32) % 4294967296
  lowest_takes = let l : n < 32 = omega arith in rw (shifted n l) (pow_pos n)

  pub lowest_some : 1 * 2 ^ (n % 32) % 4294967296 - 1 ≡ lowest n
  lowest_some = let l : n < 32 = omega arith in ap (λ (x : ℕ). x - 1) (shifted n l)

-- what a collection covers after one more method: that alone, where it is its first
module _ (w : List ℕ) (j x i r : ℕ) (fresh : Bool) where
  pub cover_first : fresh ≡ true → r ≡ with_member 0 i → set w j r ≡ set w j (with_member (cond fresh 0 x) i)
  cover_first f e = rw (f, e)

  pub cover_more : fresh ≡ false → r ≡ with_member x i → set w j r ≡ set w j (with_member (cond fresh 0 x) i)
  cover_more f e = rw (f, e)
