-- The names that the table's numbers say, and the search among them.
use mathlib.Core.Path.{◌≡◌, refl, sym, ap, ◌∙◌}
use mathlib.Core.Bool.{Bool, true, false, cond}
use mathlib.Core.List.{List, [], ◌∷◌, ◌++◌, map, map-append}
use Prim.Native.Nat.{ℕ, ◌+◌, ◌-◌, ◌*◌, ◌/◌, ◌%◌, ◌≤◌, ◌<◌}
use native.Mathlib.Nat.{add-zero}
use native.Mathlib.Numerals.{add-one}
use native.Mathlib.Omega.{arith}
use native.Mathlib.Decide.{dec_lt}
use lib.ListN.{length, take, drop, get_or, set, length-take, length-drop, length-map, drop_of_length-le, get_or-map}
use lib.Seq.{take-set-le, drop-set-lt, drop-set-add, take-suc-set, get_or-take, get_or-drop, drop-cons}
use lib.Arith.{digits_div, digits_mod}
use lib.Dec.{eqb}
use borrow.Author.Tests.{eq-eqb, eqb-true, eqb-false}
use Rattle.std.proofs.Common.{Fits, w8}
use Rattle.text.specs.Texts.{Text, same, index_of}
use Rattle.text.proofs.Truths.{not_so}
use Rattle.text.proofs.Spans.{same_equal, same_lengths}
use Rattle.ledger.specs.Places.{text_at, stamp_of, name_at, names_at, name_number, Sought}

-- ---- stamps
-- the empty text's
pub stamp_none : (t : Text) → length t ≡ 0 → 0 ≡ stamp_of t
unfolding stamp_of
stamp_none [] h = refl
stamp_none (x ∷ xs) h = absurd (omega arith)

-- another text's
pub stamp_last : (t : Text) (x : ℕ) → x ≡ get_or t (length t - 1) 0 → ((i : ℕ) → Fits w8 (get_or t i 0)) → x * 64 + length t % 64 ≡ stamp_of t
unfolding stamp_of
stamp_last t x e fits = let b : Fits w8 (get_or t (length t - 1) 0) = fits (length t - 1) in let l : get_or t (length t - 1) 0 < 256 = omega arith in rw e (omega arith)

-- 14 digits
stamp_small : (t : Text) → stamp_of t < 16384
unfolding stamp_of
stamp_small t = omega arith

-- ---- names
-- with another stamp a number says another name
pub stamp_differs : (s : Text) (x : ℕ) (t : Text) (key : ℕ) → key ≡ stamp_of t → Sought s t → (x % 16384 ≡ key → ⊥) → false ≡ same (name_at s x) t
unfolding name_at
stamp_differs s x t key e h n = go (eqb (stamp_of u) (x % 16384)) refl
  where
    u : Text
    u = text_at s (x / 16384)

    go : (b : Bool) → eqb (stamp_of u) (x % 16384) ≡ b → false ≡ same (cond b u []) t
    go true q = sym (not_so (same u t) (λ y. n (sym (eqb-true (stamp_of u) (x % 16384) q) ∙ ap stamp_of (same_equal u t y) ∙ sym e)))
    go false q = same_lengths [] t (λ z. let l = h.full in omega arith)

-- with its stamp it does exactly where the text stands at its place
pub stamp_same : (s : Text) (x : ℕ) (t : Text) (key p : ℕ) (r : Bool) → key ≡ stamp_of t → Sought s t → x % 16384 ≡ key → p ≡ x / 16384 → r ≡ same (text_at s p) t
    → r ≡ same (name_at s x) t
unfolding name_at
stamp_same s x t key p r e h k o q = q ∙ ap (λ (i : ℕ). same (text_at s i) t) o ∙ go (eqb (stamp_of u) (x % 16384)) refl
  where
    u : Text
    u = text_at s (x / 16384)

    go : (b : Bool) → eqb (stamp_of u) (x % 16384) ≡ b → same u t ≡ same (cond b u []) t
    go true b = refl
    go false b =
        not_so (same u t) (λ y. eqb-false (stamp_of u) (x % 16384) b (ap stamp_of (same_equal u t y) ∙ sym e ∙ sym k))
        ∙ same_lengths [] t (λ z. let l = h.full in omega arith)

-- the number of a name says it
pub number_says : (s : Text) (p : ℕ) (t : Text) → text_at s p ≡ t → name_at s (name_number p t) ≡ t
unfolding name_at
number_says s p t e =
    let m : stamp_of t < 16384 = stamp_small t in
    rw (digits_div p m, digits_mod p m, e, eq-eqb (stamp_of t) (stamp_of t) refl)

-- ---- lists of names
pub names_length : (s : Text) (a n : ℕ) (w : List ℕ) → a + n ≤ length w → length (names_at s a n w) ≡ n
unfolding names_at
names_length s a n w h = length-map (take n (drop a w)) (name_at s) ∙ simp (length-take, length-drop) (omega arith)

-- a write outside leaves them
pub names_apart : (s : Text) (a n : ℕ) (w : List ℕ) (j x : ℕ) → (a ≤ j → a + n ≤ j) → names_at s a n (set w j x) ≡ names_at s a n w
unfolding names_at
names_apart s a n w j x h = ap (λ (l : List ℕ). map (name_at s) l) (go (dec_lt j a))
  where
    go : Dec (j < a) → take n (drop a (set w j x)) ≡ take n (drop a w)
    go (yes l) = ap (take n) (drop-set-lt a w j x l)
    go (no l) =
        let m : a + n ≤ j = h (omega arith) in
        let e : j ≡ a + (j - a) = omega arith in
        let k : n ≤ j - a = omega arith in
        ap (λ (i : ℕ). take n (drop a (set w i x))) e
        ∙ ap (take n) (drop-set-add a w (j - a) x)
        ∙ take-set-le n (drop a w) (j - a) x k

-- a write behind the last makes one more
pub names_append : (s : Text) (a n : ℕ) (w : List ℕ) (x : ℕ) → a + n < length w → names_at s a (n + 1) (set w (a + n) x) ≡ names_at s a n w ++ name_at s x ∷ []
unfolding names_at
names_append s a n w x h =
    let k : n < length (drop a w) = rw (length-drop a w) (omega arith) in
    let e : take (n + 1) (drop a (set w (a + n) x)) ≡ take n (drop a w) ++ x ∷ [] = rw (add-one n, drop-set-add a w n x) (take-suc-set (drop a w) n x k) in
    ap (λ (l : List ℕ). map (name_at s) l) e
    ∙ map-append (name_at s) (take n (drop a w)) (x ∷ [])

-- ---- the search
module _ (s : Text) (w : List ℕ) (a n : ℕ) (t : Text) (k : ℕ) (room : a + n ≤ length w) where
  names_next : k < n → drop k (names_at s a n w) ≡ name_at s (get_or w (a + k) 0) ∷ drop (k + 1) (names_at s a n w)
  unfolding names_at
  names_next h =
      let l : k < length (names_at s a n w) = rw (names_length s a n w room) h in
      drop-cons (names_at s a n w) k (name_at s 0) l
      ∙ rw (add-one k, get_or-map (name_at s) (take n (drop a w)) k 0, get_or-take n (drop a w) k 0 h, get_or-drop a w k 0)

  -- m is where it is found, and none of the first k is it
  module _ (m : ℕ) (v : m ≡ k + index_of t (drop k (names_at s a n w))) where
    pub index_hit : (r : Bool) → k < n → r ≡ same (name_at s (get_or w (a + k) 0)) t → r ≡ true → k ≡ m
    unfolding index_of
    index_hit r h q y = sym (v ∙ rw (names_next h, ← q, y) (add-zero k))

    pub index_miss : (r : Bool) → k < n → r ≡ same (name_at s (get_or w (a + k) 0)) t → r ≡ false → m ≡ k + 1 + index_of t (drop (k + 1) (names_at s a n w))
    unfolding index_of
    index_miss r h q y = v ∙ rw (names_next h, ← q, y) (omega arith)

    pub index_none : n ≤ k → k ≡ m
    unfolding index_of
    index_none h =
        let l : length (names_at s a n w) ≤ k = rw (names_length s a n w room) h in
        sym (v ∙ rw (drop_of_length-le (names_at s a n w) l) (add-zero k))

pub index_start : (t : Text) (us : List Text) → index_of t us ≡ 0 + index_of t (drop 0 us)
index_start t us = sym (omega arith)

pub found_by : (s : Text) (w : List ℕ) (a c : ℕ) (t : Text) (n r : ℕ) → n ≡ get_or w c 0 → r ≡ index_of t (names_at s a n w) → r ≡ index_of t (names_at s a (get_or w c 0) w)
found_by s w a c t n r e h = h ∙ ap (λ (i : ℕ). index_of t (names_at s a i w)) e
