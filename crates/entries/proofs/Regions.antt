-- Parts of the work table, the texts that its numbers name, and the search among them.
use mathlib.Core.Path.{◌≡◌, refl, sym, ap, ◌∙◌}
use mathlib.Core.Bool.{Bool, true, false, cond}
use mathlib.Core.List.{List, [], ◌∷◌, ◌++◌, map-append}
use Prim.Native.Nat.{ℕ, zero, suc, ◌+◌, ◌-◌, ◌*◌, ◌/◌, ◌%◌, ◌≤◌, ◌<◌}
use native.Mathlib.Nat.{add-sub_cancel_left, add-zero}
use native.Mathlib.Numerals.{add-one}
use native.Mathlib.Omega.{arith}
use native.Mathlib.Decide.{dec_lt, dec_le}
use lib.ListN.{length, take, drop, get_or, set, length-take, length-drop, length-map, drop_of_length-le, get_or-map}
use lib.Seq.{take-set-le, drop-set-lt, drop-set-add, take-suc, take-suc-set, get_or-take, get_or-drop, drop-cons, take-nil}
use lib.Arith.{digits_div, digits_mod}
use borrow.Author.Tests.{lt-ltb, le-ltb, eq-eqb, ne_eqb, eqb-true, eqb-false, le-leb, lt-leb}
use lib.Dec.{eqb, ltb, leb}
use Rattle.std.specs.Prelude.{Some, None, unwrap_or}
use Rattle.std.specs.Prelude.{Option as Maybe}
use Rattle.text.specs.Texts.{Text, same, starts_with, on_last, part, index_of}
use Rattle.entries.specs.Tables.{region, stamp_of, packed, stamped, text_at, texts_at, found, indexed, spanned, span_at, spans_at}
use Rattle.text.proofs.Truths.{not_so}
use Rattle.text.proofs.Spans.{same_equal, same_lengths, starts_short, starts_same, from_on}
use Rattle.names.proofs.Plainly.{same_swap}
use Rattle.text.proofs.Indices.{index_bound}

-- one is not none
some_none : (i : ℕ) → Some i ≡ None → ⊥
some_none i e = let z : ◌≡◌ {A = ℕ} 0 1 = ap number e in omega arith
  where
    number : Maybe ℕ → ℕ
    number None = 1
    number (Some j) = 0

-- ---- stamps
-- the empty text's
pub stamp_none : (t : Text) → length t ≡ 0 → 0 ≡ stamp_of t
unfolding stamp_of
stamp_none [] h = refl
stamp_none (x ∷ xs) h = absurd (omega arith)

-- that of a single byte
pub stamp_one : (t : Text) (x : ℕ) → 1 ≤ length t → length t < 2 → x ≡ get_or t 0 0 → x * 17 % 256 * 256 + 1 ≡ stamp_of t
unfolding stamp_of
stamp_one [] x l k e = absurd (omega arith)
stamp_one (b ∷ []) x l k e = rw e (omega arith)
stamp_one (b ∷ c ∷ bs) x l k e = absurd (omega arith)

-- another text's
pub stamp_last : (t : Text) (x y : ℕ) → x ≡ get_or t (length t - 1) 0 → y ≡ get_or t (length t - 2) 0
    → (y * 16 + x) % 256 * 256 + length t % 256 ≡ stamp_of t
unfolding stamp_of
stamp_last t x y e f = rw (e, f) (omega arith)

-- 16 digits
stamp_small : (t : Text) → stamp_of t < 65536
unfolding stamp_of
stamp_small t = omega arith

-- the last eight of them are the length's
stamp_length : (t : Text) → stamp_of t % 256 ≡ length t % 256
unfolding stamp_of
stamp_length t = omega arith

-- a text that isn't empty is not what another stamp lets through
stamped_differs : (u t : Text) (k : ℕ) → (k ≡ stamp_of t → ⊥) → (length t ≡ 0 → ⊥) → stamped u k ≡ t → ⊥
unfolding stamped
stamped_differs u t k n m e = go (eqb (stamp_of u) k) refl e
  where
    go : (b : Bool) → eqb (stamp_of u) k ≡ b → cond b u [] ≡ t → ⊥
    go true q z = n (sym (ap stamp_of (sym z) ∙ eqb-true (stamp_of u) k q))
    go false q z = m (sym (ap length z))

-- with another stamp a number names another text
pub stamp_differs : (s : Text) (x : ℕ) (t : Text) (key : ℕ) → key ≡ stamp_of t → (x % 65536 ≡ key → ⊥) → (length t ≡ 0 → ⊥) → false ≡ same (text_at s x) t
unfolding text_at
stamp_differs s x t key e n m =
    let u : Text = take (x % 256) (drop (x / 65536) s) in
    sym (not_so _ (λ q. stamped_differs u t (x % 65536) (λ z. n (z ∙ sym e)) m (same_equal _ _ q)))

-- none is named by what names the empty text
pub empty_named : (t u v : Text) (r : Bool) → length t ≡ 0 → u ≡ v → r ≡ eqb (length u) 0 → r ≡ same v t
unfolding same
empty_named [] u [] r l e q = rw (q, e)
empty_named [] u (x ∷ xs) r l e q = rw (q, e, ne_eqb (length (x ∷ xs)) 0 (λ z. omega arith))
empty_named (b ∷ bs) u v r l e q = absurd (omega arith)

-- what the test for the empty text says
pub no_byte : (t : Text) (b : Bool) → b ≡ eqb (length t) 0 → b ≡ true → length t ≡ 0
no_byte t b e y = eqb-true (length t) 0 (sym e ∙ y)

pub some_byte : (t : Text) (b : Bool) → b ≡ eqb (length t) 0 → b ≡ false → length t ≡ 0 → ⊥
some_byte t b e n = eqb-false (length t) 0 (sym e ∙ n)

-- a number names no text of 256 bytes or more
pub long_unnamed : (s : Text) (x : ℕ) (t : Text) → 255 < length t → false ≡ same (text_at s x) t
unfolding text_at stamped
long_unnamed s x t h = go (eqb (stamp_of u) (x % 65536))
  where
    u : Text
    u = take (x % 256) (drop (x / 65536) s)

    short : length u ≤ 255
    short = simp (length-take) (omega arith)

    go : (b : Bool) → false ≡ same (cond b u []) t
    go true = same_lengths u t (λ e. let l = short in omega arith)
    go false = same_lengths [] t (λ e. omega arith)

-- what starts with t has it as its first bytes
starts_taken : (t d : Text) → starts_with t d ≡ same (take (length t) d) t
starts_taken t d = go (dec_lt (length d) (length t))
  where
    go : Dec (length d < length t) → starts_with t d ≡ same (take (length t) d) t
    go (yes l) =
        let m : length (take (length t) d) < length t = simp (length-take) (omega arith) in
        sym (starts_short t d l) ∙ same_lengths (take (length t) d) t (λ e. omega arith)
    go (no l) = sym (starts_same t d (omega arith)) ∙ same_swap t (take (length t) d)

-- with t's stamp it names t exactly where t stands at its offset
module _ (s : Text) (x : ℕ) (t : Text) (key : ℕ) (q : key ≡ stamp_of t) (e : x % 65536 ≡ key) (few : length t ≤ 255) (full : length t ≡ 0 → ⊥) where
  size : x % 256 ≡ length t
  size =
      let l : stamp_of t % 256 ≡ length t % 256 = stamp_length t in
      let m : x % 65536 ≡ stamp_of t = e ∙ q in
      let o : x % 65536 % 256 ≡ x % 256 = omega arith in
      sym o ∙ ap (λ (y : ℕ). y % 256) m ∙ l ∙ (omega arith)

  there_named : same (take (length t) (drop (x / 65536) s)) t ≡ same (text_at s x) t
  unfolding text_at stamped
  there_named = ap (λ (n : ℕ). same (take n (drop (x / 65536) s)) t) (sym size) ∙ go (eqb (stamp_of u) (x % 65536)) refl
    where
      u : Text
      u = take (x % 256) (drop (x / 65536) s)

      go : (b : Bool) → eqb (stamp_of u) (x % 65536) ≡ b → same u t ≡ same (cond b u []) t
      go true b = refl
      go false b =
          not_so (same u t) (λ y. eqb-false (stamp_of u) (x % 65536) b (ap stamp_of (same_equal u t y) ∙ sym q ∙ sym e))
          ∙ same_lengths [] t (λ z. full (sym z))

  pub stands_named : (r : Bool) → r ≡ starts_with t (part (x / 65536) (length s) s) → r ≡ same (text_at s x) t
  stands_named r h = h ∙ ap (starts_with t) (from_on (x / 65536) s) ∙ starts_taken t (drop (x / 65536) s) ∙ there_named

  pub past_unnamed : length s < x / 65536 → leb (x / 65536) (length s) ≡ same (text_at s x) t
  past_unnamed h =
      let l : length s ≤ x / 65536 = omega arith in
      let d : drop (x / 65536) s ≡ [] = drop_of_length-le s l in
      lt-leb _ _ h
      ∙ same_lengths [] t (λ z. full (sym z)) ∙ ap (λ (l : Text). same l t) (sym (ap (take (length t)) d ∙ take-nil (length t))) ∙ there_named

-- ---- a number's text, as the code takes it out
module _ (s : Text) (x : ℕ) where
  -- what would run past the end is shorter than the number says, or empty
  pub text_out : length s < x / 65536 + x % 256 → [] ≡ text_at s x
  unfolding text_at stamped
  text_out h = go (x % 256) refl
    where
      u : Text
      u = take (x % 256) (drop (x / 65536) s)

      either : (b : Bool) → ◌≡◌ {A = Text} [] (cond b [] [])
      either true = refl
      either false = refl

      go : (m : ℕ) → x % 256 ≡ m → [] ≡ cond (eqb (stamp_of u) (x % 65536)) u []
      go zero z = rw z (either (eqb (stamp_of []) (x % 65536)))
      go (suc m) z =
          let l : length u < x % 256 = simp (length-take, length-drop) (omega arith) in
          let i : length u % 256 ≡ length u = omega arith in
          let o : x % 65536 % 256 ≡ x % 256 = omega arith in
          sym (rw (ne_eqb _ _ (λ k. let j : length u ≡ x % 256 = sym (sym (ap (λ (y : ℕ). y % 256) k ∙ o) ∙ stamp_length u ∙ i) in omega arith)))

  -- the number of its offset and its length alone
  text_span : span_at s (x / 65536 * 65536 + x % 256) ≡ cond (leb (x / 65536 + x % 256) (length s)) (take (x % 256) (drop (x / 65536) s)) []
  unfolding span_at
  text_span =
      let a : (x / 65536 * 65536 + x % 256) / 65536 ≡ x / 65536 = omega arith in
      let b : (x / 65536 * 65536 + x % 256) % 65536 ≡ x % 256 = omega arith in
      rw (a, b)

  stamped_none : (b : Bool) → ◌≡◌ {A = Text} (cond b [] []) []
  stamped_none true = refl
  stamped_none false = refl

  -- the text of that number, if it has the stamp
  module _ (u : Text) (e : u ≡ span_at s (x / 65536 * 65536 + x % 256)) (k : ℕ) (q : k ≡ stamp_of u) where
    text_if : cond (eqb k (x % 65536)) u [] ≡ text_at s x
    unfolding text_at stamped
    text_if = go (dec_le (x / 65536 + x % 256) (length s))
      where
        go : Dec (x / 65536 + x % 256 ≤ length s) → cond (eqb k (x % 65536)) u [] ≡ text_at s x
        go (yes h) = rw (q, e, text_span, le-leb _ _ h)
        go (no h) =
            let l : length s < x / 65536 + x % 256 = omega arith in
            rw (e, text_span, lt-leb _ _ l, stamped_none (eqb k (x % 65536))) (text_out l)

    pub text_in : k ≡ x % 65536 → u ≡ text_at s x
    text_in h = sym (rw (eq-eqb _ _ h)) ∙ text_if

    pub text_other : (k ≡ x % 65536 → ⊥) → [] ≡ text_at s x
    text_other h = sym (rw (ne_eqb _ _ h)) ∙ text_if

-- the number that names the text from a up to e
pub text_part : (s : Text) (a e : ℕ) → a ≤ e → e ≤ length s → e - a < 256 → text_at s (packed s a e) ≡ part a e s
unfolding text_at stamped
text_part s a e h k l =
    let z : ℕ = stamp_of (part a e s) in
    let m : z < 65536 = stamp_small (part a e s) in
    let o : z % 256 ≡ length (part a e s) % 256 = stamp_length (part a e s) in
    let i : length (part a e s) ≡ e - a = simp (length-take, length-drop) (omega arith) in
    let from : (a * 65536 + z) / 65536 ≡ a = digits_div a m in
    let size : (a * 65536 + z) % 256 ≡ e - a = omega arith in
    rw (from, size, digits_mod a m, eq-eqb z z refl)

-- ---- a pattern's text
module _ (s : Text) (x f n : ℕ) (p : f ≡ x / 65536) (q : n ≡ x % 65536) where
  pub span_in : f + n ≤ length s → part f (f + n) s ≡ span_at s x
  unfolding span_at
  span_in h = rw (add-sub_cancel_left, ← p, ← q, le-leb _ _ h)

  pub span_out : length s < f + n → [] ≡ span_at s x
  unfolding span_at
  span_out h = rw (← p, ← q, lt-leb _ _ h)

-- 0 spans no text
pub span_none : (s : Text) → span_at s 0 ≡ []
unfolding span_at
span_none s = rw (le-leb 0 (length s) (omega arith))

-- the number of the text from a up to e
pub span_part : (s : Text) (a e : ℕ) → a ≤ e → e ≤ length s → e - a < 256 → span_at s (spanned a e) ≡ part a e s
unfolding span_at
span_part s a e h k l =
    let m : e - a < 65536 = omega arith in
    let o : a + (e - a) ≤ length s = omega arith in
    rw (digits_div a m, digits_mod a m, le-leb _ _ o)

pub spans_append : (s : Text) (xs : List ℕ) (x : ℕ) → spans_at s (xs ++ x ∷ []) ≡ spans_at s xs ++ span_at s x ∷ []
unfolding spans_at
spans_append s xs x = map-append (span_at s) xs (x ∷ [])

pub spans_length : (s : Text) (xs : List ℕ) → length (spans_at s xs) ≡ length xs
unfolding spans_at
spans_length s xs = length-map xs (span_at s)

-- ---- names
pub texts_append : (s : Text) (xs : List ℕ) (x : ℕ) → texts_at s (xs ++ x ∷ []) ≡ texts_at s xs ++ text_at s x ∷ []
unfolding texts_at
texts_append s xs x = map-append (text_at s) xs (x ∷ [])

pub texts_length : (s : Text) (xs : List ℕ) → length (texts_at s xs) ≡ length xs
unfolding texts_at
texts_length s xs = length-map xs (text_at s)

-- ---- the last of a list
pub on_last_snoc {ℓ} : {A : Type ℓ} (f : A → A) (xs : List A) (y : A) → on_last f (xs ++ y ∷ []) ≡ xs ++ f y ∷ []
unfolding on_last
on_last_snoc f [] y = refl
on_last_snoc f (x ∷ []) y = refl
on_last_snoc f (x ∷ z ∷ zs) y = ap (λ l. x ∷ l) (on_last_snoc f (z ∷ zs) y)

pub on_last_same {ℓ} : {A : Type ℓ} (f g : A → A) (xs : List A) → ((x : A) → f x ≡ g x) → on_last f xs ≡ on_last g xs
unfolding on_last
on_last_same f g [] h = refl
on_last_same f g (x ∷ []) h = ap (λ y. y ∷ []) (h x)
on_last_same f g (x ∷ z ∷ zs) h = ap (λ l. x ∷ l) (on_last_same f g (z ∷ zs) h)

-- ---- regions
module _ (w : List ℕ) (a n : ℕ) where
  pub region_length : a + n ≤ length w → length (region w a n) ≡ n
  unfolding region
  region_length h = simp (length-take, length-drop) (omega arith)

  -- a write outside leaves it
  pub region_apart : (j x : ℕ) → (a ≤ j → a + n ≤ j) → region (set w j x) a n ≡ region w a n
  unfolding region
  region_apart j x h = go (dec_lt j a)
    where
      go : Dec (j < a) → take n (drop a (set w j x)) ≡ take n (drop a w)
      go (yes l) = ap (take n) (drop-set-lt a w j x l)
      go (no l) =
          let m : a + n ≤ j = h (omega arith) in
          let e : j ≡ a + (j - a) = omega arith in
          let k : n ≤ j - a = omega arith in
          ap (λ (i : ℕ). take n (drop a (set w i x))) e
          ∙ ap (take n) (drop-set-add a w (j - a) x)
          ∙ take-set-le n (drop a w) (j - a) x k

  -- a write behind its last number makes it longer
  pub region_append : (x : ℕ) → a + n < length w → region (set w (a + n) x) a (n + 1) ≡ region w a n ++ x ∷ []
  unfolding region
  region_append x h =
      let k : n < length (drop a w) = rw (length-drop a w) (omega arith) in
      rw (add-one n, drop-set-add a w n x) (take-suc-set (drop a w) n x k)

  region_snoc : a + n < length w → region w a (suc n) ≡ region w a n ++ get_or w (a + n) 0 ∷ []
  unfolding region
  region_snoc h =
      let k : n < length (drop a w) = rw (length-drop a w) (omega arith) in
      take-suc (drop a w) n 0 k ∙ rw (get_or-drop a w n 0)

  pub region_at : (i : ℕ) → i < n → get_or (region w a n) i 0 ≡ get_or w (a + i) 0
  unfolding region
  region_at i h = rw (get_or-take, get_or-drop)

-- a write at the last number changes it, where there is one
pub region_last : (w : List ℕ) (a n : ℕ) (f : ℕ → ℕ) → a + n < length w → region (set w (a + n) (f (get_or w (a + n) 0))) (a + 1) n ≡ on_last f (region w (a + 1) n)
unfolding region on_last
region_last w a zero f h = refl
region_last w a (suc n) f h =
    let e : a + suc n ≡ a + 1 + n = omega arith in
    let k : a + 1 + n < length w = omega arith in
    let m : suc n ≡ n + 1 = omega arith in
    rw e
    (ap (region (set w (a + 1 + n) (f (get_or w (a + 1 + n) 0))) (a + 1)) m
    ∙ region_append w (a + 1) n (f (get_or w (a + 1 + n) 0)) k
    ∙ sym (ap (on_last f) (region_snoc w (a + 1) n k) ∙ on_last_snoc f (region w (a + 1) n) (get_or w (a + 1 + n) 0)))

-- ---- the search among the texts that a region's numbers name
module _ (s t : Text) (w : List ℕ) (a n k : ℕ) (room : a + n ≤ length w) where
  texts_next : k < n → drop k (texts_at s (region w a n)) ≡ text_at s (get_or w (a + k) 0) ∷ drop (k + 1) (texts_at s (region w a n))
  unfolding texts_at
  texts_next h =
      let l : k < length (region w a n) = rw (region_length w a n room) h in
      let m : k < length (texts_at s (region w a n)) = rw (texts_length s (region w a n)) l in
      drop-cons (texts_at s (region w a n)) k (text_at s 0) m
      ∙ rw (add-one k, get_or-map (text_at s) (region w a n) k 0, region_at w a n k h)

  -- m is where it is found, and none of the first k is it
  module _ (m : ℕ) (v : m ≡ k + index_of t (drop k (texts_at s (region w a n)))) where
    pub index_hit : (r : Bool) → k < n → r ≡ same (text_at s (get_or w (a + k) 0)) t → r ≡ true → k ≡ m
    unfolding index_of
    index_hit r h q y = sym (v ∙ rw (texts_next h, ← q, y) (add-zero k))

    pub index_miss : (r : Bool) → k < n → r ≡ same (text_at s (get_or w (a + k) 0)) t → r ≡ false → m ≡ k + 1 + index_of t (drop (k + 1) (texts_at s (region w a n)))
    unfolding index_of
    index_miss r h q y = v ∙ rw (texts_next h, ← q, y) (omega arith)

    pub index_none : n ≤ k → k ≡ m
    unfolding index_of
    index_none h =
        let l : length (texts_at s (region w a n)) ≤ k = rw (texts_length s (region w a n), region_length w a n room) h in
        sym (v ∙ rw (drop_of_length-le (texts_at s (region w a n)) l) (add-zero k))

-- the search's answer: where the k-th is it, and where none is
module _ (s t : Text) (w : List ℕ) (a n : ℕ) (room : a + n ≤ length w) where
  abbrev named : List Text
  named = texts_at s (region w a n)

  named_length : length named ≡ n
  named_length = texts_length s (region w a n) ∙ region_length w a n room

  pub found_here : (k : ℕ) (r : Bool) → index_of t named ≡ k + index_of t (drop k named) → k < n → r ≡ same (text_at s (get_or w (a + k) 0)) t → r ≡ true → Some k ≡ found t named
  found_here k r v h q y =
      let e : k ≡ index_of t named = index_hit s t w a n k room _ v r h q y in
      rw (← e, named_length, lt-ltb _ _ h)

  pub found_nowhere : index_of t named ≡ n + index_of t (drop n named) → None ≡ found t named
  found_nowhere v =
      let e : n ≡ index_of t named = index_none s t w a n n room _ v (omega arith) in
      rw (← e, named_length, le-ltb n n (omega arith))

  -- and what an answer says
  module _ (o : Maybe ℕ) (q : o ≡ found t named) where
    split : (b : Bool) → ltb (index_of t named) (length named) ≡ b → o ≡ cond b (Some (index_of t named)) None
    split b e = q ∙ ap (λ (x : Bool). cond x (Some (index_of t named)) None) e

    pub found_some : (i : ℕ) → o ≡ Some i → (i ≡ index_of t named) × (i < n)
    found_some i k = go (dec_lt (index_of t named) n)
      where
        go : Dec (index_of t named < n) → (i ≡ index_of t named) × (i < n)
        go (yes h) =
            let z : Some i ≡ Some (index_of t named) = sym k ∙ split true (rw named_length (lt-ltb _ _ h)) in
            let e : i ≡ index_of t named = cc in
            (e, rw e h)
        go (no h) = let z : Some i ≡ None = sym k ∙ split false (rw named_length (le-ltb _ _ (omega arith))) in absurd (some_none i z)

    pub found_none : o ≡ None → n ≤ index_of t named
    found_none k = go (dec_lt (index_of t named) n)
      where
        go : Dec (index_of t named < n) → n ≤ index_of t named
        go (yes h) = let z : Some (index_of t named) ≡ None = sym (split true (rw named_length (lt-ltb _ _ h))) ∙ k in absurd (some_none (index_of t named) z)
        go (no h) = omega arith

  -- or n where there is none
  pub found_or : (o : Maybe ℕ) (r : ℕ) → o ≡ found t named → r ≡ unwrap_or o n → r ≡ index_of t named
  found_or o r q e = go (dec_lt (index_of t named) n)
    where
      go : Dec (index_of t named < n) → r ≡ index_of t named
      go (yes h) = e ∙ ap (λ (x : Maybe ℕ). unwrap_or x n) (split o q true (rw named_length (lt-ltb _ _ h)))
      go (no h) =
          let l : index_of t named ≤ length named = index_bound t named in
          e ∙ ap (λ (x : Maybe ℕ). unwrap_or x n) (split o q false (rw named_length (le-ltb _ _ (omega arith)))) ∙ omega (arith, l, named_length)

pub indexed_known : (t : Text) (us : List Text) → index_of t us < length us → indexed t us ≡ us
unfolding indexed
indexed_known t us h = rw (lt-ltb _ _ h)

pub indexed_new : (t : Text) (us : List Text) → length us ≤ index_of t us → indexed t us ≡ us ++ t ∷ []
unfolding indexed
indexed_new t us h = rw (le-ltb _ _ h)
