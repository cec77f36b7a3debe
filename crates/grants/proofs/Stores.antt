-- A table that a loop fills number by number.
use mathlib.Core.Path.{◌≡◌, refl, sym, ap, ap₂, ◌∙◌}
use mathlib.Core.List.{List, ◌∷◌}
use Prim.Native.Nat.{ℕ, zero, suc, ◌+◌, ◌≤◌, ◌<◌}
use native.Mathlib.Decide.{dec_lt}
use native.Mathlib.Omega.{arith}
use lib.ListN.{length, get_or, set, length-set}
use lib.Seq.{get_or-set_same, get_or-set_other, ext_get_or}
use Rattle.grants.specs.Sides.{listed}

-- a table of z numbers, of which n are to be f 0, f 1, .., and the first k are
pub record Filled (z n k : ℕ) (f : ℕ → ℕ) (out : List ℕ) : Type 0 where
  pub size : length out ≡ z
  pub fits : n ≤ z
  pub below : (j : ℕ) → j < k → get_or out j 0 ≡ f j

module _ (z n : ℕ) (f : ℕ → ℕ) (out : List ℕ) where
  -- nothing is stored yet
  pub fill_start : length out ≡ z → n ≤ z → Filled z n 0 f out
  fill_start e h = record { size = e; fits = h; below = λ j l. absurd (omega arith) }

  -- one more
  pub fill_more : (k v : ℕ) → Filled z n k f out → k < n → v ≡ f k → Filled z n (k + 1) f (set out k v)
  fill_more k v F h e = record { size = length-set out k v ∙ F.size; fits = F.fits; below = λ j l. go j l (dec_lt j k) }
    where
      go : (j : ℕ) → j < k + 1 → Dec (j < k) → get_or (set out k v) j 0 ≡ f j
      go j l (yes q) = get_or-set_other out k j v 0 (λ i. omega arith) ∙ F.below j q
      go j l (no q) = let i : j ≡ k = omega arith in rw i (get_or-set_same out k v 0 (omega (arith, F.size, F.fits)) ∙ e)

-- ---- a table that is changed where it stands: the first m numbers are done, the others as they were
pub record Mixing (z : ℕ) (f : ℕ → ℕ) (before : List ℕ) (m : ℕ) (out : List ℕ) : Type 0 where
  pub done : Filled z z m f out
  pub left : (k : ℕ) → m ≤ k → get_or out k 0 ≡ get_or before k 0

module _ (z : ℕ) (f : ℕ → ℕ) (before : List ℕ) where
  -- none is done yet
  pub mix_start : length before ≡ z → Mixing z f before 0 before
  mix_start e = record { done = fill_start z z f before e (omega arith); left = λ k h. refl }

  -- one more
  pub mix_more : (m v : ℕ) (out : List ℕ) → Mixing z f before m out → m < z → v ≡ f m → Mixing z f before (m + 1) (set out m v)
  mix_more m v out M h e =
      record {
        done = fill_more z z f out m v M.done h e;
        left = λ k l. get_or-set_other out m k v 0 (λ i. omega arith) ∙ M.left k (omega arith);
      }

-- ---- the list of the numbers f 0, f 1, ..
pub listed_length : (k : ℕ) (f : ℕ → ℕ) → length (listed k f) ≡ k
unfolding listed
listed_length zero f = refl
listed_length (suc k) f = ap suc (listed_length k (λ i. f (suc i)))

-- f i stands at index i
pub listed_at : (k : ℕ) (f : ℕ → ℕ) (i : ℕ) → i < k → get_or (listed k f) i 0 ≡ f i
unfolding listed
listed_at zero f i h = absurd (omega arith)
listed_at (suc k) f zero h = refl
listed_at (suc k) f (suc i) h = listed_at k (λ i. f (suc i)) i (omega arith)

-- where the numbers are the same
pub listed_same : (k : ℕ) (f g : ℕ → ℕ) → ((i : ℕ) → i < k → f i ≡ g i) → listed k f ≡ listed k g
unfolding listed
listed_same zero f g h = refl
listed_same (suc k) f g h = ap₂ (λ (x : ℕ) (xs : List ℕ). x ∷ xs) (h 0 (omega arith)) (listed_same k (λ i. f (suc i)) (λ i. g (suc i)) (λ i l. h (suc i) (omega arith)))

-- a table that is filled to its end is that list
pub filled_listed : (z k : ℕ) (f : ℕ → ℕ) (out : List ℕ) → Filled z z k f out → z ≤ k → out ≡ listed z f
filled_listed z k f out F l =
    ext_get_or 0 out (listed z f) (F.size ∙ sym (listed_length z f)) (λ i h. let q : i < z = omega (arith, F.size) in F.below i (omega arith) ∙ sym (listed_at z f i q))

-- and so is one that was changed where it stands
pub mixed_listed : (z m : ℕ) (f : ℕ → ℕ) (before out : List ℕ) → Mixing z f before m out → z ≤ m → out ≡ listed z f
mixed_listed z m f before out M h = filled_listed z m f out M.done h
