-- The numbers that a text starts with, found digit by digit.
use mathlib.Core.Path.{◌≡◌, refl, sym, ap, ◌∙◌}
use mathlib.Core.Bool.{Bool, true, false, cond, ◌&&◌, ◌||◌, or-false, or_assoc}
use mathlib.Core.List.{[], ◌∷◌, ◌++◌, append_assoc, append-nil, head-eq_of_cons-eq}
use Prim.Native.Nat.{ℕ, zero, suc, ◌+◌, ◌-◌, ◌*◌, ◌/◌, ◌%◌, ◌^◌, ◌≤◌, ◌<◌}
use native.Mathlib.Omega.{arith}
use native.Mathlib.Decide.{dec_lt, ℕ_discrete}
use lib.ListN.{length}
use lib.Dec.{eqb, ltb, leb}
use borrow.Author.Tests.{lt-ltb, le-ltb, ltb-true, ltb-false, le-leb, leb-true, eq-eqb, ne_eqb, eqb-true}
use Rattle.text.specs.Texts.{Text, same, starts_with, all}
use Rattle.text.proofs.Truths.{and_left, and_right, and_both}
use Rattle.text.proofs.Spans.{same_equal, same_self}
use Rattle.writing.specs.Decimals.{digits}
use Rattle.fillers.specs.Marks.{leads}
use Rattle.trials.proofs.Insides.{agree, cons_same}
use Rattle.writing.proofs.Decimals.{one_digit, value, value_digits, digits_apart, digits_some}
use Rattle.trials.proofs.Decimals.{digits_pass}

-- ---- texts that start with s
-- s and a byte behind a text: s is found in the text, or is the text and the byte
starts_last : (s c : Text) (b : ℕ) → starts_with s (c ++ b ∷ []) ≡ starts_with s c || same s (c ++ b ∷ [])
unfolding starts_with same
starts_last [] c b = refl
starts_last (x ∷ xs) [] b = ap (λ (y : Bool). eqb x b && y) (go xs)
  where
    go : (s : Text) → starts_with s [] ≡ same s []
    go [] = refl
    go (y ∷ ys) = refl
starts_last (x ∷ xs) (y ∷ ys) b = go (eqb x y) (starts_last xs ys b)
  where
    go : (e : Bool) → starts_with xs (ys ++ b ∷ []) ≡ starts_with xs ys || same xs (ys ++ b ∷ [])
        → e && starts_with xs (ys ++ b ∷ []) ≡ (e && starts_with xs ys) || (e && same xs (ys ++ b ∷ []))
    go true ih = ih
    go false ih = refl

-- where s goes on with no such byte, what stands from the byte on does not matter
starts_stop : (s c : Text) (b : ℕ) (bs : Text) → ((x : Text) → s ≡ c ++ b ∷ x → ⊥) → starts_with s (c ++ b ∷ bs) ≡ starts_with s c
unfolding starts_with
starts_stop [] c b bs h = refl
starts_stop (x ∷ xs) [] b bs h = ap (λ (y : Bool). y && starts_with xs bs) (ne_eqb x b (λ e. h xs (cons_same e refl)))
starts_stop (x ∷ xs) (y ∷ ys) b bs h = go (eqb x y) refl (starts_stop xs ys b bs)
  where
    go : (e : Bool) → eqb x y ≡ e → (((z : Text) → xs ≡ ys ++ b ∷ z → ⊥) → starts_with xs (ys ++ b ∷ bs) ≡ starts_with xs ys)
        → e && starts_with xs (ys ++ b ∷ bs) ≡ e && starts_with xs ys
    go true e ih = ih (λ z q. h z (cons_same (eqb-true x y e) q))
    go false e ih = refl

-- ---- digits
-- room for one digit more than there are changes nothing
digits_room : (k n : ℕ) → n < 10 ^ suc k → digits (suc k) n ≡ digits (suc (suc k)) n
unfolding digits
digits_room zero n h = rw (lt-ltb n 10 h)
digits_room (suc k) n h = ap (λ (u : Text). cond (ltb n 10) ((48 + n) ∷ []) (u ++ (48 + n % 10) ∷ [])) (digits_room k (n / 10) (omega arith))

-- a digit more
pub digits_snoc : (v d : ℕ) → 1 ≤ v → d < 10 → v * 10 + d < 100000 → digits 5 (v * 10 + d) ≡ digits 5 v ++ (48 + d) ∷ []
unfolding digits
digits_snoc v d h k l =
    let p : (v * 10 + d) / 10 ≡ v = omega arith in
    let q : (v * 10 + d) % 10 ≡ d = omega arith in
    rw (le-ltb (v * 10 + d) 10 (omega arith), p, q, digits_room 3 v (omega arith))

-- what digits come to is no less than what comes first
value_from : (a : ℕ) (t : Text) → a ≤ value a t
unfolding value
value_from a [] = omega arith
value_from a (x ∷ xs) = let h = value_from (a * 10 + (x - 48)) xs in omega arith

value_append : (a : ℕ) (s t : Text) → value a (s ++ t) ≡ value (value a s) t
unfolding value
value_append a [] t = refl
value_append a (x ∷ xs) t = value_append (a * 10 + (x - 48)) xs t

-- `0` comes first in 0 alone
digits_zero : (k n : ℕ) (x : Text) → n < 10 ^ k → digits k n ≡ 48 ∷ x → n ≡ 0
unfolding digits value
digits_zero zero n x h e = omega arith
digits_zero (suc k) n x h e = go (ltb n 10) refl (λ y l q. digits_zero k (n / 10) y l q) e
  where
    some : (u : Text) → digits k (n / 10) ≡ u → 10 ≤ n → ((y : Text) → digits k (n / 10) ≡ 48 ∷ y → n / 10 ≡ 0) → u ++ (48 + n % 10) ∷ [] ≡ 48 ∷ x → n ≡ 0
    some [] q l ih e = let v = sym (ap (value 0) q) ∙ value_digits k (n / 10) (omega arith) in absurd (omega arith)
    some (y ∷ ys) q l ih e = let z = ih ys (q ∙ cons_same (head-eq_of_cons-eq e) refl) in absurd (omega arith)

    go : (b : Bool) → ltb n 10 ≡ b → ((y : Text) → n / 10 < 10 ^ k → digits k (n / 10) ≡ 48 ∷ y → n / 10 ≡ 0)
        → cond b ((48 + n) ∷ []) (digits k (n / 10) ++ (48 + n % 10) ∷ []) ≡ 48 ∷ x → n ≡ 0
    go true l ih e = let q = head-eq_of_cons-eq e in omega arith
    go false l ih e = some (digits k (n / 10)) refl (ltb-false n 10 l) (λ y. ih y (omega arith)) e

-- no digits stand in an empty text
digits_absent : (n : ℕ) → starts_with (digits 5 n) [] ≡ false
unfolding starts_with
digits_absent n = go (digits 5 n) (digits_some 4 n)
  where
    go : (s : Text) → 1 ≤ length s → starts_with s [] ≡ false
    go [] h = absurd (omega arith)
    go (x ∷ xs) h = refl

-- the digits are the same for the same number alone
digits_same : (m n : ℕ) → m < 100000 → n < 100000 → same (digits 5 m) (digits 5 n) ≡ eqb m n
digits_same m n h k =
    agree (same (digits 5 m) (digits 5 n)) (eqb m n)
    (λ e. eq-eqb m n (digits_apart 5 m n h k (same_equal (digits 5 m) (digits 5 n) e)))
    (λ e. rw (eqb-true m n e) (same_self (digits 5 n)))

-- ---- the numbers below 65,536 that a text goes on with, where v is read already
unfoldable pub starts_from : ℕ → Text → ℕ → Bool
starts_from v [] m = false
starts_from v (b ∷ bs) m =
    cond (ltb b 48) false
    (cond (ltb 57 b) false
    (cond (ltb 65535 (v * 10 + (b - 48))) false
    (eqb m (v * 10 + (b - 48)) || cond (eqb (v * 10 + (b - 48)) 0) false (starts_from (v * 10 + (b - 48)) bs m))))

-- a byte of a text of which all bytes pass
all_middle : (ok : ℕ → Bool) (c : Text) (b : ℕ) (x : Text) → all ok (c ++ b ∷ x) ≡ true → ok b ≡ true
unfolding all
all_middle ok [] b x e = and_left (ok b) (all ok x) e
all_middle ok (y ∷ ys) b x e = all_middle ok ys b x (and_right (ok y) (all ok (ys ++ b ∷ x)) e)

module _ (m : ℕ) (small : m < 65536) where
  -- a byte of m's digits is a digit
  digit_byte : (c : Text) (b : ℕ) (x : Text) → digits 5 m ≡ c ++ b ∷ x → (48 ≤ b) × (b ≤ 57)
  digit_byte c b x e =
      let h = all_middle (λ y. leb 48 y && leb y 57) c b x (sym (ap (all (λ y. leb 48 y && leb y 57)) e)
      ∙ digits_pass (λ y. leb 48 y && leb y 57) (λ d l. and_both (leb 48 (48 + d)) (leb (48 + d) 57) (le-leb 48 (48 + d) (omega arith)) (le-leb (48 + d) 57 (omega arith))) 5 m) in
      (leb-true 48 b (and_left (leb 48 b) (leb b 57) h), leb-true b 57 (and_right (leb 48 b) (leb b 57) h))

  -- one byte: c are the digits of v, or none
  step : (v : ℕ) (c : Text) → value 0 c ≡ v → ((d : ℕ) → d < 10 → v * 10 + d < 100000 → digits 5 (v * 10 + d) ≡ c ++ (48 + d) ∷ [])
      → (b : ℕ) (bs : Text) → (b ≡ 48 → v ≡ 0 → ⊥)
      → ((w : ℕ) → 1 ≤ w → w < 65536 → starts_with (digits 5 m) (digits 5 w ++ bs) ≡ starts_with (digits 5 m) (digits 5 w) || starts_from w bs m)
      → starts_with (digits 5 m) (c ++ b ∷ bs) ≡ starts_with (digits 5 m) c || starts_from v (b ∷ bs) m
  unfolding starts_from value
  step v c e more b bs some next = go (ltb b 48) refl (ltb 57 b) refl (ltb 65535 w) refl
    where
      w : ℕ
      w = v * 10 + (b - 48)

      s : Text
      s = digits 5 m

      stop : ((x : Text) → s ≡ c ++ b ∷ x → ⊥) → starts_with s (c ++ b ∷ bs) ≡ starts_with s c || false
      stop h = starts_stop s c b bs h ∙ sym (or-false (starts_with s c))

      large : 65535 < w → (x : Text) → s ≡ c ++ b ∷ x → ⊥
      large h x q =
          let l = value_from w x in
          let f : value 0 (c ++ b ∷ x) ≡ value w x = value_append 0 c (b ∷ x) ∙ ap (λ (a : ℕ). value (a * 10 + (b - 48)) x) e in
          let g = sym (value_digits 5 m (omega arith)) ∙ ap (value 0) q in
          omega arith

      positive : 48 ≤ b → Dec (0 < w) → 1 ≤ w
      positive h (yes l) = l
      positive h (no l) = absurd (some (omega arith) (omega arith))

      found : 48 ≤ b → b ≤ 57 → w ≤ 65535 → starts_with s (c ++ b ∷ bs) ≡ starts_with s c || (eqb m w || cond (eqb w 0) false (starts_from w bs m))
      found h k l =
          let byte : 48 + (b - 48) ≡ b = omega arith in
          let D : digits 5 w ≡ c ++ b ∷ [] = more (b - 48) (omega arith) (omega arith) ∙ ap (λ (y : ℕ). c ++ y ∷ []) byte in
          let p : 1 ≤ w = positive h (dec_lt 0 w) in
          let last : starts_with s (digits 5 w) ≡ starts_with s c || eqb m w =
          ap (starts_with s) D ∙ starts_last s c b ∙ ap (λ (u : Text). starts_with s c || same s u) (sym D)
          ∙ ap (λ (y : Bool). starts_with s c || y) (digits_same m w (omega arith) (omega arith)) in
          rw (ne_eqb w 0 (λ z. omega arith))
          (ap (starts_with s) (sym (append_assoc c (b ∷ []) bs) ∙ ap (λ (u : Text). u ++ bs) (sym D)) ∙ next w p (omega arith)
          ∙ ap (λ (y : Bool). y || starts_from w bs m) last ∙ or_assoc (starts_with s c) (eqb m w) (starts_from w bs m))

      go : (x : Bool) → ltb b 48 ≡ x → (y : Bool) → ltb 57 b ≡ y → (z : Bool) → ltb 65535 w ≡ z
          → starts_with s (c ++ b ∷ bs) ≡ starts_with s c || cond x false (cond y false (cond z false (eqb m w || cond (eqb w 0) false (starts_from w bs m))))
      go true p y q z r = stop (λ x f. let h = digit_byte c b x f in let l = ltb-true b 48 p in omega arith)
      go false p true q z r = stop (λ x f. let h = digit_byte c b x f in let l = ltb-true 57 b q in omega arith)
      go false p false q true r = stop (large (ltb-true 65535 w r))
      go false p false q false r = found (ltb-false b 48 p) (ltb-false 57 b q) (ltb-false 65535 w r)

  -- the bytes behind the digits of w
  from : (bs : Text) (w : ℕ) → 1 ≤ w → w < 65536 → starts_with (digits 5 m) (digits 5 w ++ bs) ≡ starts_with (digits 5 m) (digits 5 w) || starts_from w bs m
  unfolding starts_from
  from [] w h k = rw append-nil (sym (or-false (starts_with (digits 5 m) (digits 5 w))))
  from (b ∷ bs) w h k = step w (digits 5 w) (value_digits 5 w (omega arith)) (λ d p q. digits_snoc w d h p q) b bs (λ e f. omega arith) (from bs)

  -- from the start on
  pub leads_from : (t : Text) → leads t m ≡ starts_from 0 t m
  unfolding leads starts_from value digits starts_with
  leads_from [] = digits_absent m
  leads_from (b ∷ bs) = go (ℕ_discrete b 48)
    where
      zero_first : Dec (m ≡ 0) → starts_with (digits 5 m) (48 ∷ bs) ≡ starts_from 0 (48 ∷ bs) m
      zero_first (yes e) = rw e
      zero_first (no e) = starts_stop (digits 5 m) [] 48 bs (λ x q. e (digits_zero 5 m x (omega arith) q)) ∙ digits_absent m ∙ rw (ne_eqb m 0 e)

      go : Dec (b ≡ 48) → starts_with (digits 5 m) (b ∷ bs) ≡ starts_from 0 (b ∷ bs) m
      go (yes e) = rw e (zero_first (ℕ_discrete m 0))
      go (no e) =
          step 0 [] refl (λ d p q. let z : 0 * 10 + d ≡ d = omega arith in rw z (one_digit 5 d (λ f. omega arith) p)) b bs (λ f z. e f) (from bs)
          ∙ ap (λ (y : Bool). y || starts_from 0 (b ∷ bs) m) (digits_absent m)
