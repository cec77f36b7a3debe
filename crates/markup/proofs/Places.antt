-- The laws of reading at places: one for each way out of a loop or of a step.
use mathlib.Core.Path.{◌≡◌, refl, sym, ap, ◌∙◌}
use mathlib.Core.Bool.{Bool, true, false, cond, not}
use mathlib.Core.List.{[], ◌∷◌}
use Prim.Native.Nat.{ℕ, ◌+◌, ◌-◌, ◌≤◌, ◌<◌}
use native.Mathlib.Numerals.{add-one}
use native.Mathlib.Omega.{arith}
use native.Mathlib.Decide.{ℕ_discrete}
use lib.Dec.{eqb, ltb}
use Rattle.std.proofs.lemmas.Bool.{le-ltb}
use lib.ListN.{length, drop, get_or, length-drop, drop_of_length-le}
use lib.Seq.{drop-cons}
use borrow.Author.Tests.{eq-eqb, ne_eqb}
use Rattle.text.specs.Texts.{Text, starts_with}
use Rattle.documents.specs.Chars.{after, next, is_char, is_quote, is_name_start, is_name_byte}
use Rattle.documents.specs.Parts.{Got, got, wrong, Reader, whether, word, name, quote_mark, remark, ends, goes_on}
use Rattle.documents.proofs.Steps.{run_true}
use Rattle.std.specs.Prelude.{Result, Ok, Err}
use Rattle.markup.specs.declared.answers.Cause.TheVariants.{Malformed}
use Rattle.markup.specs.declared.answers.Fault.{Fault as Blame}
use Rattle.markup.specs.Places.{blame, placed_as, read_as, read_at, one_at}

pub eqb_swap : (a b : ℕ) → eqb a b ≡ eqb b a
eqb_swap a b = go (ℕ_discrete a b)
  where
    go : Dec (a ≡ b) → eqb a b ≡ eqb b a
    go (yes e) = eq-eqb a b e ∙ sym (eq-eqb b a (sym e))
    go (no e) = ne_eqb a b e ∙ sym (ne_eqb b a (λ p. e (sym p)))

-- ---- a byte and what follows it
pub here : (s : Text) (n : ℕ) → n < length s → drop n s ≡ get_or s n 0 ∷ drop (n + 1) s
here s n h = rw add-one (drop-cons s n 0 h)

pub nothing_left : (s : Text) (n : ℕ) → length s ≤ n → drop n s ≡ []
nothing_left s n h = drop_of_length-le s h

-- ---- runs
module _ (p : ℕ → Bool) (s : Text) (i n : ℕ) (inv : after p (drop i s) ≡ after p (drop n s)) where
  pub run_stops : n < length s → p (get_or s n 0) ≡ false → drop n s ≡ after p (drop i s)
  unfolding after
  run_stops h e = sym (inv ∙ rw (here s n h, e))

  pub run_goes : n < length s → p (get_or s n 0) ≡ true → after p (drop i s) ≡ after p (drop (n + 1) s)
  unfolding after
  run_goes h e = inv ∙ rw (here s n h, e)

  pub run_ends : length s ≤ n → drop n s ≡ after p (drop i s)
  unfolding after
  run_ends h = sym (inv ∙ rw (nothing_left s n h))

-- a reader for which the bytes of a kind change nothing goes past a run of them
pub run_passes : {A : Type 0} (p : ℕ → Bool) (m : Reader A) → ((b : ℕ) (x : Text) → p b ≡ true → m (b ∷ x) ≡ m x) → (x : Text) → m x ≡ m (after p x)
unfolding after
run_passes p m one [] = refl
run_passes p m one (b ∷ x) = go (p b) refl (run_passes p m one x)
  where
    go : (t : Bool) → p b ≡ t → m x ≡ m (after p x) → m (b ∷ x) ≡ m (cond t (after p x) (b ∷ x))
    go true e h = one b x e ∙ h
    go false e h = refl

-- ---- places
pub place : (s : Text) (n : ℕ) → n ≤ length s → length s - length (drop n s) ≡ n
place s n h = omega (arith, length-drop n s)

-- what is wrong at once is so where it stands
abbrev pub bad : {B : Type 0} → ℕ → Result B Blame
bad n = Err (blame Malformed n)

abbrev pub good : ℕ → Result ℕ Blame
good n = Ok n

abbrev pub refused : {B : Type 0} → Blame → Result B Blame
refused d = Err d

pub said : {B : Type 0} (d : Blame) (n : ℕ) → d ≡ blame Malformed n → Path (Result B Blame) (Err d) (bad n)
said {B} d n q = ap (refused {B = B}) q

-- ---- one byte
module _ (s : Text) (i : ℕ) (d : Blame) (q : d ≡ blame Malformed i) where
  pub name_none : i ≤ length s → length s ≤ i → Err d ≡ read_at name s i
  unfolding read_as name whether
  name_none h l = said d i q ∙ rw (nothing_left s i l) (ap bad (omega arith))

  pub name_other : (t : Bool) → i < length s → t ≡ is_name_start (get_or s i 0) → t ≡ false → Err d ≡ read_at name s i
  unfolding read_as name whether
  name_other t l e h = said d i q ∙ rw (here s i l, sym e, h) (ap bad (omega (arith, length-drop (i + 1) s)))

module _ (s : Text) (i : ℕ) where
  -- a byte of a kind
  pub one_none : (d : Blame) → d ≡ blame Malformed i → (p : ℕ → Bool) → length s ≤ i → Err d ≡ one_at p s i
  one_none d q p l = said d i q ∙ rw (nothing_left s i l)

  pub one_other : (d : Blame) → d ≡ blame Malformed i → (p : ℕ → Bool) → i < length s → p (get_or s i 0) ≡ false → Err d ≡ one_at p s i
  one_other d q p l e = said d i q ∙ rw (here s i l, e)

  pub one_read : (p : ℕ → Bool) → i < length s → p (get_or s i 0) ≡ true → Ok (i + 1) ≡ one_at p s i
  one_read p l e = rw (here s i l, e)

  pub byte_is : (b : ℕ) → i ≤ length s → (r : Result ℕ Blame) → r ≡ one_at (λ x. eqb x b) s i → r ≡ read_at (word (b ∷ [])) s i
  unfolding read_as word whether
  byte_is b h r f = f ∙ go (drop i s) refl
    where
      go : (x : Text) → drop i s ≡ x → one_at (λ x. eqb x b) s i ≡ read_at (word (b ∷ [])) s i
      go [] e = rw e (ap bad (omega (arith, ap length e, length-drop i s)))
      go (y ∷ x) e = rw e (turn (eqb y b) (eqb b y) (eqb_swap y b))
        where
          turn : (t u : Bool) → t ≡ u → cond t (Ok (i + 1)) (bad i) ≡ placed_as {A = Unit {0}} (λ a n. n) (length s) (elim u as (λ z. Got (Unit {0})) [ true ↦ got tt x | false ↦ wrong (y ∷ x) ])
          turn true true h = ap good (omega (arith, ap length e, length-drop i s))
          turn false false h = ap bad (omega (arith, ap length e, length-drop i s))
          turn true false h = cc
          turn false true h = cc

  pub quote_is : i ≤ length s → (r : Result ℕ Blame) → r ≡ one_at is_quote s i → r ≡ read_at quote_mark s i
  unfolding read_as quote_mark whether
  quote_is h r f = f ∙ go (drop i s) refl
    where
      go : (x : Text) → drop i s ≡ x → one_at is_quote s i ≡ read_at quote_mark s i
      go [] e = rw e (ap bad (omega (arith, ap length e, length-drop i s)))
      go (y ∷ x) e = rw e (turn (is_quote y))
        where
          turn : (t : Bool) → cond t (Ok (i + 1)) (bad i) ≡ placed_as {A = ℕ} (λ a n. n) (length s) (elim t as (λ z. Got ℕ) [ true ↦ got y x | false ↦ wrong (y ∷ x) ])
          turn true = ap good (omega (arith, ap length e, length-drop i s))
          turn false = ap bad (omega (arith, ap length e, length-drop i s))

  pub name_read : (t : Bool) (n : ℕ) → i < length s → n ≤ length s → t ≡ is_name_start (get_or s i 0) → t ≡ true → drop n s ≡ after is_name_byte (drop i s) → Ok n ≡ read_at name s i
  unfolding read_as name
  name_read t n l u e h f =
      let starts : next is_name_start (drop i s) ≡ true = rw (here s i l, sym e, h) in
      ap good (sym (place s n u) ∙ ap (λ (z : Text). length s - length z) f) ∙ ap (placed_as (λ a k. k) (length s)) (sym (run_true _ _ _ _ starts refl))

-- ---- comments
module _ (s : Text) (i n : ℕ) (dash : Bool) (inv : read_at (remark false) s i ≡ read_at (remark dash) s n) where
  pub remark_open : (d : Blame) → d ≡ blame Malformed (length s) → n ≤ length s → length s ≤ n → Err d ≡ read_at (remark false) s i
  unfolding read_as remark
  remark_open d q h l = said d (length s) q ∙ sym (inv ∙ rw (nothing_left s n l) (ap bad (omega arith)))

  pub remark_closes : (r : Result ℕ Blame) → n < length s → get_or s n 0 ≡ 45 → dash ≡ true → r ≡ read_at (word (62 ∷ [])) s (n + 1) → r ≡ read_at (remark false) s i
  unfolding read_as remark whether
  remark_closes r h e d f = f ∙ sym (inv ∙ rw (here s n h, eq-eqb (get_or s n 0) 45 e, d))

  pub remark_hyphen : n < length s → get_or s n 0 ≡ 45 → dash ≡ false → read_at (remark false) s i ≡ read_at (remark true) s (n + 1)
  unfolding read_as remark whether
  remark_hyphen h e d = inv ∙ rw (here s n h, eq-eqb (get_or s n 0) 45 e, d)

  module _ (t : Bool) (h : n < length s) (e : get_or s n 0 ≡ 45 → ⊥) (c : t ≡ is_char (get_or s n 0)) where
    pub remark_wrong : (d : Blame) → d ≡ blame Malformed n → t ≡ false → Err d ≡ read_at (remark false) s i
    unfolding read_as remark whether
    remark_wrong d q g = said d n q ∙ sym (inv ∙ rw (here s n h, ne_eqb (get_or s n 0) 45 e, sym c, g) (ap bad (omega (arith, length-drop (n + 1) s))))

    pub remark_other : t ≡ true → read_at (remark false) s i ≡ read_at (remark false) s (n + 1)
    unfolding read_as remark whether
    remark_other g = inv ∙ rw (here s n h, ne_eqb (get_or s n 0) 45 e, sym c, g)

-- ---- what stands there
pub ends_none : (s : Text) (i : ℕ) → i ≡ length s → eqb i (length s) ≡ ends (drop i s)
unfolding ends
ends_none s i l = rw (eq-eqb i (length s) l, nothing_left s i (omega (arith, l)))

module _ (s : Text) (i : ℕ) where
  pub goes_none : length s ≤ i → ltb i (length s) ≡ goes_on (drop i s)
  unfolding goes_on
  goes_none l = le-ltb i (length s) l ∙ rw (nothing_left s i l)

  pub goes_letter : i < length s → (get_or s i 0 ≡ 60 → ⊥) → not (eqb (get_or s i 0) 60) ≡ goes_on (drop i s)
  unfolding goes_on
  goes_letter l e = rw (here s i l, ne_eqb (get_or s i 0) 60 e, ne_eqb 60 (get_or s i 0) (λ p. e (sym p)))

  pub goes_comment : (t : Bool) → i < length s → get_or s i 0 ≡ 60 → t ≡ starts_with (60 ∷ 33 ∷ 45 ∷ 45 ∷ []) (drop i s) → t ≡ goes_on (drop i s)
  unfolding goes_on
  goes_comment t l e h = h ∙ rw (here s i l, eq-eqb 60 (get_or s i 0) (sym e))
