-- The first n numbers of a work table, lent to a call within and zero afterwards.
use mathlib.Core.Path.{◌≡◌, sym, ap, ◌∙◌}
use mathlib.Core.List.{List, ◌++◌}
use Prim.Native.Nat.{ℕ, ◌≤◌}
use native.Mathlib.Omega.{arith}
use lib.ListN.{length, take, drop, replicate}
use lib.Seq.{length-take-le, length_front, take_at, drop_at}
use Rattle.worktable.specs.Work.{zeroed}

-- they are n
pub lent_length : (n : ℕ) (w : List ℕ) → n ≤ length w → n ≡ length (take n w)
lent_length n w h = sym (length-take-le n w h)

-- and have room for as many as n is
pub lent_room : (n k : ℕ) (w : List ℕ) → n ≤ length w → k ≤ n → k ≤ length (take n w)
lent_room n k w h l = omega (arith, length-take-le n w h)

-- a is what they become
module _ (n : ℕ) (w a : List ℕ) (within : n ≤ length w) (kept : length a ≡ length (take n w)) where
  -- still n
  as_long : length a ≡ n
  as_long = kept ∙ length-take-le n w within

  -- it stands first in w then
  pub back_first : take n (a ++ drop n w) ≡ a
  back_first = take_at a (drop n w) n as_long

  -- so lent again they are n
  pub back_length : n ≡ length (take n (a ++ drop n w))
  back_length = sym (ap length back_first ∙ as_long)

  -- w is as long as before
  pub back_same : (w' : List ℕ) → length w' ≡ length (a ++ drop n w) → length w' ≡ length w
  back_same w' e = e ∙ length_front w a n kept

  -- they are zero, whatever they became
  pub back_zeroed : (w' : List ℕ) → w' ≡ zeroed n (a ++ drop n w) → w' ≡ zeroed n w
  unfolding zeroed
  back_zeroed w' e = e ∙ ap (λ (l : List ℕ). replicate n 0 ++ l) (drop_at a (drop n w) n as_long)
