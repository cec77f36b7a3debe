-- Marking numbers: one, and several one after the other; and what the first number without a mark is.
use mathlib.Core.Path.{◌≡◌, refl, sym, ap, ◌∙◌}
use mathlib.Core.Bool.{Bool, true, false, cond, ◌||◌}
use mathlib.Core.List.{List}
use Prim.Native.Nat.{ℕ, ◌*◌, ◌/◌, ◌%◌, ◌^◌, ◌<◌, max}
use native.Mathlib.Nat.{mod-eq_of_lt, one-mul}
use native.Mathlib.Omega.{arith}
use native.Mathlib.Decide.{ℕ_discrete}
use lib.Arith.{digits_mod}
use lib.Bits.{bit_or, or_shr, or_step}
use lib.Dec.{eqb}
use lib.Pow.{pow-lt}
use lib.ListN.{length, get_or, set, length-set}
use lib.Seq.{get_or-set_same, get_or-set_other}
use borrow.Author.Tests.{eq-eqb, ne_eqb}
use Rattle.entries.specs.Sets.{digit}
use Rattle.entries.proofs.Digits.{digit_set, set_one}
use Rattle.fillers.specs.Marks.{is_marked, MarkedToo}

-- ---- one number
-- digit j of a set that i is put into
digit_or : (x i j : ℕ) → i < 32 → j < 32 → digit j (bit_or x (2 ^ i)) ≡ max (digit j x) (cond (eqb j i) 1 0)
digit_or x i j h k =
    let one : digit j (2 ^ i) ≡ cond (eqb j i) 1 0 = ap (digit j) (sym (set_one 32 i h)) ∙ digit_set 32 (λ m. eqb m i) j k in
    let small : max (digit j x) (digit j (2 ^ i)) < 2 = omega arith in
    ap (λ (y : ℕ). y % 2) (or_shr x (2 ^ i) j ∙ or_step (x / 2 ^ j) (2 ^ i / 2 ^ j)) ∙ digits_mod _ small ∙ ap (max (digit j x)) one

-- it is 1 where j is i, or where it was
is_one : (d : ℕ) (b : Bool) → d < 2 → eqb (max d (cond b 1 0)) 1 ≡ b || eqb d 1
is_one d true h = eq-eqb (max d 1) 1 (omega arith)
is_one d false h = let e : max d 0 ≡ d = omega arith in rw e

-- the code's shift is the power
shifted : (n : ℕ) → 1 * 2 ^ (n % 32) % 4294967296 ≡ 2 ^ (n % 32)
shifted n = let h : n % 32 < 32 = omega arith in rw (one-mul (2 ^ (n % 32))) (mod-eq_of_lt (pow-lt h))

-- n marked
pub one_marked : (ws : List ℕ) (n : ℕ) → length ws ≡ 2048 → n < 65536
    → MarkedToo (λ i. eqb i n) ws (set ws (n / 32) (bit_or (get_or ws (n / 32) 0) (1 * 2 ^ (n % 32) % 4294967296)))
unfolding is_marked
one_marked ws n long small = record { size = length-set ws _ _; marks = λ m h. go m (ℕ_discrete (m / 32) (n / 32)) }
  where
    x : ℕ
    x = bit_or (get_or ws (n / 32) 0) (1 * 2 ^ (n % 32) % 4294967296)

    same : (m : ℕ) → m / 32 ≡ n / 32 → eqb (m % 32) (n % 32) ≡ eqb m n
    same m e = at (ℕ_discrete m n)
      where
        at : Dec (m ≡ n) → eqb (m % 32) (n % 32) ≡ eqb m n
        at (yes q) = rw (q, eq-eqb n n refl) (eq-eqb (n % 32) (n % 32) refl)
        at (no q) = rw (ne_eqb m n q) (ne_eqb (m % 32) (n % 32) (λ f. q (omega arith)))

    go : (m : ℕ) → Dec (m / 32 ≡ n / 32) → eqb (digit (m % 32) (get_or (set ws (n / 32) x) (m / 32) 0)) 1 ≡ eqb m n || eqb (digit (m % 32) (get_or ws (m / 32) 0)) 1
    go m (yes e) =
        let l : n / 32 < length ws = omega arith in
        rw (e, get_or-set_same ws (n / 32) x 0 l, shifted n, digit_or (get_or ws (n / 32) 0) (n % 32) (m % 32) (omega arith) (omega arith), same m e)
        (is_one (digit (m % 32) (get_or ws (n / 32) 0)) (eqb m n) (omega arith))
    go m (no e) = rw (get_or-set_other ws (n / 32) (m / 32) x 0 e, ne_eqb m n (λ f. e (ap (λ (k : ℕ). k / 32) f)))

-- ---- the first without a mark
module _ (ws : List ℕ) (n : ℕ) where
  -- its digit is 0
  pub digit_unmarked : get_or ws (n / 32) 0 / 2 ^ (n % 32) % 2 ≡ 0 → is_marked ws n ≡ false
  unfolding is_marked
  digit_unmarked e = rw e

  -- that of a number with a mark is not
  pub digit_marked : (get_or ws (n / 32) 0 / 2 ^ (n % 32) % 2 ≡ 0 → ⊥) → is_marked ws n ≡ true
  unfolding is_marked
  digit_marked e = eq-eqb (get_or ws (n / 32) 0 / 2 ^ (n % 32) % 2) 1 (omega arith)

-- ---- several numbers: those that pass a test are to be marked, and those that pass the rest are not yet gone through
pub record Remaining (test rest : ℕ → Bool) (before now : List ℕ) : Type 0 where
  pub size : length now ≡ length before
  pub marks : (n : ℕ) → n < 65536 → test n || is_marked before n ≡ rest n || is_marked now n

module _ (test rest : ℕ → Bool) where
  -- at the start nothing is gone through
  pub marking_starts : (ws : List ℕ) → ((n : ℕ) → n < 65536 → test n ≡ rest n) → Remaining test rest ws ws
  marking_starts ws h = record { size = refl; marks = λ n l. ap (λ (b : Bool). b || is_marked ws n) (h n l) }

  module _ (before now : List ℕ) (M : Remaining test rest before now) where
    -- where nothing is left, all are marked
    pub marking_ends : ((n : ℕ) → n < 65536 → rest n ≡ false) → MarkedToo test before now
    marking_ends h = record { size = M.size; marks = λ n l. sym (M.marks n l ∙ ap (λ (b : Bool). b || is_marked now n) (h n l)) }

    -- the next part is marked
    pub marking_turns : (part rest' : ℕ → Bool) (now' : List ℕ) → MarkedToo part now now' → ((n : ℕ) → n < 65536 → rest n ≡ part n || rest' n) → Remaining test rest' before now'
    marking_turns part rest' now' T h = record { size = T.size ∙ M.size; marks = λ n l. M.marks n l ∙ turn n l }
      where
        swap : (a b c : Bool) → (a || b) || c ≡ b || (a || c)
        swap true true c = refl
        swap true false c = refl
        swap false b c = refl

        turn : (n : ℕ) → n < 65536 → rest n || is_marked now n ≡ rest' n || is_marked now' n
        turn n l = rw (h n l, T.marks n l) (swap (part n) (rest' n) (is_marked now n))

    -- or there is nothing in it
    pub marking_skips : (rest' : ℕ → Bool) → ((n : ℕ) → n < 65536 → rest n ≡ rest' n) → Remaining test rest' before now
    marking_skips rest' h = record { size = M.size; marks = λ n l. M.marks n l ∙ ap (λ (b : Bool). b || is_marked now n) (h n l) }
