-- The laws of the kinds of bytes, and of runs of one kind.
use mathlib.Core.Path.{◌≡◌, refl, sym, ap, ◌∙◌}
use mathlib.Core.Bool.{Bool, true, false, cond, ◌&&◌, ◌||◌, false≢true}
use mathlib.Core.List.{[], ◌∷◌, ◌++◌}
use Prim.Native.Nat.{ℕ}
use lib.Dec.{eqb}
use borrow.Author.Tests.{ne_eqb, eqb-true}
use Rattle.text.specs.Texts.{Text, all}
use Rattle.text.proofs.Truths.{never, not_so, and_left, and_right, and_both}
use Rattle.documents.specs.Chars.{is_white, is_plain, is_name_start, is_name_byte, is_quote, next, front, after}

-- ---- kinds
-- a test that is v of the literal x is v of b where b is x
of_eq : (p : ℕ → Bool) (b x : ℕ) (v : Bool) → eqb b x ≡ true → p x ≡ v → p b ≡ v
of_eq p b x v e h = ap p (eqb-true b x e) ∙ h

or_else : (c d : Bool) {A : Type 0} → (c ≡ true → A) → (d ≡ true → A) → c || d ≡ true → A
or_else true d f g e = f refl
or_else false d f g e = g e

-- what holds of the four white bytes holds of white space
pub of_white : (p : ℕ → Bool) (v : Bool) → p 32 ≡ v → p 9 ≡ v → p 10 ≡ v → p 13 ≡ v → (b : ℕ) → is_white b ≡ true → p b ≡ v
unfolding is_white
of_white p v h₁ h₂ h₃ h₄ b e =
    or_else (eqb b 32 || eqb b 9 || eqb b 10) (eqb b 13)
    (or_else (eqb b 32 || eqb b 9) (eqb b 10)
    (or_else (eqb b 32) (eqb b 9) (λ x. of_eq p b 32 v x h₁) (λ x. of_eq p b 9 v x h₂))
    (λ x. of_eq p b 10 v x h₃)) (λ x. of_eq p b 13 v x h₄) e

-- white space stands in no name
pub white_no_name : (b : ℕ) → is_white b ≡ true → is_name_byte b ≡ false
unfolding is_name_byte is_name_start
white_no_name = of_white is_name_byte false refl refl refl refl

-- the byte x is no start of a name
pub name_start_not : (x : ℕ) → is_name_start x ≡ false → (b : ℕ) → is_name_start b ≡ true → eqb x b ≡ false
name_start_not x h b e = ne_eqb x b (λ p. never (is_name_start b) e (ap is_name_start (sym p) ∙ h))

-- the start of a name is a byte of it
pub start_is_name : (b : ℕ) → is_name_start b ≡ true → is_name_byte b ≡ true
unfolding is_name_byte
start_is_name b e = rw e

pub start_not_white : (b : ℕ) → is_name_start b ≡ true → is_white b ≡ false
start_not_white b e = not_so (is_white b) (λ w. never (is_name_byte b) (start_is_name b e) (white_no_name b w))

pub quote_not_white : (q : ℕ) → is_quote q ≡ true → is_white q ≡ false
unfolding is_quote is_white
quote_not_white q e = or_else (eqb q 34) (eqb q 39) (λ x. of_eq is_white q 34 false x refl) (λ x. of_eq is_white q 39 false x refl) e

-- the byte x is not plain
pub plain_not : (x : ℕ) → is_plain x ≡ false → (b : ℕ) → is_plain b ≡ true → eqb x b ≡ false
plain_not x h b e = ne_eqb x b (λ p. never (is_plain b) e (ap is_plain (sym p) ∙ h))

-- ---- runs
module _ (p : ℕ → Bool) where
  -- a text is its run and what follows it
  pub front_after : (s : Text) → s ≡ front p s ++ after p s
  unfolding front after
  front_after [] = refl
  front_after (b ∷ s) = go (p b) (front_after s)
    where
      go : (t : Bool) → s ≡ front p s ++ after p s → Path Text (b ∷ s) (cond t (b ∷ front p s) [] ++ cond t (after p s) (b ∷ s))
      go true e = λ i. b ∷ e i
      go false e = refl

  pub front_all : (s : Text) → all p (front p s) ≡ true
  unfolding front all
  front_all [] = refl
  front_all (b ∷ s) = go (p b) refl (front_all s)
    where
      go : (t : Bool) → p b ≡ t → all p (front p s) ≡ true → all p (cond t (b ∷ front p s) []) ≡ true
      go true e h = and_both (p b) (all p (front p s)) e h
      go false e h = refl

  -- a run, where what follows starts with another kind
  pub front_run : (w s : Text) → all p w ≡ true → next p s ≡ false → front p (w ++ s) ≡ w
  unfolding front all
  front_run [] [] e h = refl
  front_run [] (b ∷ s) e h = rw h
  front_run (b ∷ w) s e h = rw (and_left (p b) (all p w) e, front_run w s (and_right (p b) (all p w) e) h)

  pub after_run : (w s : Text) → all p w ≡ true → next p s ≡ false → after p (w ++ s) ≡ s
  unfolding after all
  after_run [] [] e h = refl
  after_run [] (b ∷ s) e h = rw h
  after_run (b ∷ w) s e h = rw (and_left (p b) (all p w) e, after_run w s (and_right (p b) (all p w) e) h)

  -- behind a run whose bytes are not of the kind q
  pub next_run : (q : ℕ → Bool) → ((b : ℕ) → p b ≡ true → q b ≡ false) → (w s : Text) → all p w ≡ true → next q s ≡ false → next q (w ++ s) ≡ false
  unfolding all
  next_run q apart [] s e h = h
  next_run q apart (b ∷ w) s e h = apart b (and_left (p b) (all p w) e)

  -- a run that starts with a byte of the kind q
  pub front_next : (q : ℕ → Bool) → ((b : ℕ) → q b ≡ true → p b ≡ true) → (s : Text) → next q s ≡ true → next q (front p s) ≡ true
  unfolding front
  front_next q within [] e = e
  front_next q within (b ∷ s) e = rw (within b e) e

-- ---- the first byte of a name, and of white space
pub name_next : (p : ℕ → Bool) (v : Bool) → ((b : ℕ) → is_name_start b ≡ true → p b ≡ v) → (n r : Text) → next is_name_start n && all is_name_byte n ≡ true → next p (n ++ r) ≡ v
name_next p v f [] r e = absurd (false≢true e)
name_next p v f (b ∷ n) r e = f b (and_left (is_name_start b) (all is_name_byte (b ∷ n)) e)

pub gap_next : (p : ℕ → Bool) (v : Bool) → ((b : ℕ) → is_white b ≡ true → p b ≡ v) → (w r : Text) → next is_white w && all is_white w ≡ true → next p (w ++ r) ≡ v
gap_next p v f [] r e = absurd (false≢true e)
gap_next p v f (b ∷ w) r e = f b (and_left (is_white b) (all is_white (b ∷ w)) e)
