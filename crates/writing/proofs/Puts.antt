-- Texts put into a buffer, one after the other.
use mathlib.Core.Path.{◌≡◌, refl, sym, ap, ◌∙◌}
use mathlib.Core.List.{[], ◌∷◌, ◌++◌}
use Prim.Native.Nat.{ℕ, zero, suc, ◌+◌, ◌-◌, ◌/◌, ◌%◌, ◌≤◌, ◌<◌}
use native.Mathlib.Nat.{add-zero, zero-add}
use native.Mathlib.Numerals.{add-one}
use native.Mathlib.Omega.{arith}
use lib.ListN.{length, take, drop, get_or, set, length-append}
use lib.Seq.{sets, sets-eq, set_out, take-suc, length-take-le}
use Rattle.text.specs.Texts.{Text}
use Rattle.writing.specs.Decimals.{digits}
use Rattle.writing.proofs.Decimals.{one_digit, more_digits}

-- one text after the other
pub sets_append : (f g b : Text) (at : ℕ) → sets (sets b at f) (at + length f) g ≡ sets b at (f ++ g)
sets_append [] g b at = ap (λ (k : ℕ). sets b k g) (add-zero at)
sets_append (x ∷ f) g b at =
    let e : at + suc (length f) ≡ suc at + length f = omega arith in
    ap (λ (k : ℕ). sets (sets (set b at x) (suc at) f) k g) e ∙ sets_append f g (set b at x) (suc at)

-- the same by offsets: f up to offset k, then g
pub sets_then : (b d d' f g : Text) (at k : ℕ) → k ≡ at + length f → d ≡ sets b at f → d' ≡ sets d k g → d' ≡ sets b at (f ++ g)
sets_then b d d' f g at k e p q = q ∙ rw (p, e) (sets_append f g b at)

-- nothing is kept of what is written into nothing
pub sets_nothing : (f : Text) (at : ℕ) → sets [] at f ≡ []
sets_nothing [] at = refl
sets_nothing (x ∷ f) at = ap (λ (l : Text). sets l (suc at) f) (set_out [] at x (omega arith)) ∙ sets_nothing f (suc at)

-- where there is room, a text stands at the start and the rest is as before
pub sets_start : (f b : Text) → length f ≤ length b → sets b 0 f ≡ f ++ drop (length f) b
sets_start f b h = let k : 0 + length f ≤ length b = omega arith in sets-eq f b 0 k ∙ rw (zero-add (length f))

-- the length stays
pub sets_length : (f b : Text) (at : ℕ) → length (sets b at f) ≡ length b
sets_length [] b at = refl
sets_length (x ∷ f) b at = sets_length f (set b at x) (suc at) ∙ set_length b at x
  where
    set_length : (b : Text) (at x : ℕ) → length (set b at x) ≡ length b
    set_length [] at x = refl
    set_length (y ∷ ys) zero x = refl
    set_length (y ∷ ys) (suc at) x = ap suc (set_length ys at x)

-- ---- put: a turn
pub put_step : (b d d₁ t : Text) (at i : ℕ) → d ≡ sets b at (take i t) → i < length t → d₁ ≡ set d (at + i) (get_or t i 0) → d₁ ≡ sets b at (take (i + 1) t)
put_step b d d₁ t at i v h q =
    let l : length (take i t) ≡ i = length-take-le i t (omega arith) in
    q ∙ ap (λ (x : Text). set x (at + i) (get_or t i 0)) v
    ∙ ap (λ (k : ℕ). set (sets b at (take i t)) (at + k) (get_or t i 0)) (sym l)
    ∙ sets_append (take i t) (get_or t i 0 ∷ []) b at
    ∙ ap (sets b at) (sym (take-suc t i 0 h) ∙ ap (λ (k : ℕ). take k t) (sym (add-one i)))

-- ---- the digits of a number
module _ (out : Text) (at n k : ℕ) where
  -- there are none
  pub digits_none : k ≡ 0 → (at ≡ at + length (digits k n)) × (out ≡ sets out at (digits k n))
  unfolding digits
  digits_none e = rw e (omega arith, refl)

  module _ (some : k ≡ 0 → ⊥) where
    -- there is one
    pub digits_one : (d : Text) → n < 10 → d ≡ set out at (48 + n) → (at + 1 ≡ at + length (digits k n)) × (d ≡ sets out at (digits k n))
    digits_one d h e = rw (one_digit k n some h) (refl, e)

    -- there are more: those of n / 10, up to an offset e, and the last
    module _ (more : 10 ≤ n) (d d' : Text) (e : ℕ) (offset : e ≡ at + length (digits (k - 1) (n / 10))) where
      pub digits_more : d ≡ sets out at (digits (k - 1) (n / 10)) → d' ≡ set d e (48 + n % 10) → (e + 1 ≡ at + length (digits k n)) × (d' ≡ sets out at (digits k n))
      digits_more f g =
          rw (more_digits k n some more) (
            rw (length-append (digits (k - 1) (n / 10)) ((48 + n % 10) ∷ [])) (omega arith),
            sets_then out d d' (digits (k - 1) (n / 10)) ((48 + n % 10) ∷ []) at e offset f g,
          )

-- ---- a letter and a number
pub numbered_offset : (at x n r : ℕ) → r ≡ at + 1 + length (digits 5 n) → r ≡ at + length (x ∷ digits 5 n)
numbered_offset at x n r p = omega arith

pub numbered_bytes : (out d d' : Text) (at x n : ℕ) → d ≡ set out at x → d' ≡ sets d (at + 1) (digits 5 n) → d' ≡ sets out at (x ∷ digits 5 n)
numbered_bytes out d d' at x n e q = sets_then out d d' (x ∷ []) (digits 5 n) at (at + 1) refl e q
