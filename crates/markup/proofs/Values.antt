-- The values that are read, and letters at places.
use mathlib.Core.Path.{◌≡◌, refl, sym, ap, ◌∙◌}
use mathlib.Core.Bool.{Bool, true, false}
use Prim.Native.Nat.{ℕ, zero, suc, ◌+◌, ◌-◌, ◌≤◌, ◌<◌}
use native.Mathlib.Omega.{arith}
use lib.ListN.{length, drop, get_or, length-drop}
use Rattle.std.specs.Prelude.{Result, Ok, Err}
use Rattle.text.specs.Texts.{Text}
use Rattle.documents.specs.Chars.{is_plain}
use Rattle.documents.specs.Parts.{Got, got, fault, Reader, ◌>>◌, return, wrong, choose, blamed, word, entity, letter_of}
use Rattle.documents.proofs.Steps.{run_then, run_true, run_false, run_blamed}
use Rattle.documents.proofs.Leaves.{Leaves}
use Rattle.documents.proofs.Faults.{letter_once, blamed_once}
use Rattle.markup.specs.declared.answers.Cause.TheVariants.{Malformed}
use Rattle.markup.specs.declared.answers.Fault.{Fault as Blame}
use Rattle.markup.specs.declared.answers.Letter.{Letter}
use Rattle.markup.specs.Places.{blame, placed_as, read_as, read_at, read_or, letter, ended}
use Rattle.markup.proofs.Places.{here, nothing_left, bad, said}
use Rattle.markup.proofs.Steps.{not_both, same_value, went_as, started_is, fine, mapped, as_well}

module _ {A : Type 0} (m : Reader A) (s : Text) (i : ℕ) where
  -- ---- an answer without a fault: what was read, and the text that is left
  pub answered : (n : ℕ) → Ok n ≡ read_at m s i → (a : A) × ((r : Text) × ((m (drop i s) ≡ got a r) × (n ≡ length s - length r)))
  unfolding read_as
  answered n e = go (m (drop i s)) refl
    where
      go : (x : Got A) → m (drop i s) ≡ x → (a : A) × ((r : Text) × ((m (drop i s) ≡ got a r) × (n ≡ length s - length r)))
      go (got a r) f = (a, (r, (f, same_value (e ∙ ap (placed_as (λ b k. k) (length s)) f))))
      go (fault d k) f = absurd (not_both (e ∙ ap (placed_as (λ b k. k) (length s)) f))

  pub got_as : {B : Type 0} (h : A → ℕ → B) {a : A} {r : Text} → m (drop i s) ≡ got a r → Ok (h a (length s - length r)) ≡ read_as h m s i
  unfolding read_as
  got_as h f = ap (placed_as h (length s)) (sym f)

  pub got_value : (d : A) {a : A} {r : Text} → m (drop i s) ≡ got a r → a ≡ read_or d m s i
  unfolding read_or
  got_value d f = ap (λ (g : Got A). elim g as (λ x. A) [ got a r ↦ a | fault e n ↦ d ]) (sym f)

  -- readers that agree there
  module _ (k : Reader A) (same : m (drop i s) ≡ k (drop i s)) {B : Type 0} (h : A → ℕ → B) where
    pub same_as : read_as h m s i ≡ read_as h k s i
    unfolding read_as
    same_as = ap (placed_as h (length s)) same

    pub same_blamed : (n : ℕ) → read_as h (blamed n m) s i ≡ read_as h (blamed n k) s i
    unfolding read_as blamed
    same_blamed n =
        ap (λ (g : Got A). placed_as h (length s) (elim g as (λ x. Got A) [ got a r ↦ got a r | fault e zero ↦ fault e zero | fault e (suc q) ↦ fault e n ])) same

-- the letter that is handed back is the one that was read
pub letter_went : (m : Reader ℕ) (s : Text) (i : ℕ) → Leaves m → (l : Letter) → Ok l ≡ read_as letter m s i → m (drop i s) ≡ got l.byte (drop l.next s)
letter_went m s i leaves l e =
    let w = went_as m s i leaves letter l e in
    w.1.1.1 ∙ ap (λ (z : Letter). got z.byte (drop z.next s)) (sym w.1.1.0)

-- ---- a choice of words, each with its value
module _ {A : Type 0} (w : Text) (b : A) (k : Reader A) (s : Text) (i n : ℕ) (e : Ok n ≡ read_at (word w) s i) where
  abbrev chosen : Reader A
  chosen = choose w (word w >> return b) k

  hit : (r : Text) → word w (drop i s) ≡ got tt r → chosen (drop i s) ≡ got b r
  hit r f = run_true _ _ _ _ (sym (started_is w s i (Ok n) e true refl)) (run_then (word w) (λ u. return b) _ f refl)

  hit_as : {D : Type 0} (h : A → ℕ → D) → Ok (h b n) ≡ read_as h chosen s i
  hit_as h =
      let a = answered (word w) s i n e in
      ap (λ (z : ℕ). fine (h b z)) a.1.1.1 ∙ got_as chosen s i h (hit a.1.0 a.1.1.0)

  hit_blamed_as : {D : Type 0} (h : A → ℕ → D) (p : ℕ) → Ok (h b n) ≡ read_as h (blamed p chosen) s i
  hit_blamed_as h p =
      let a = answered (word w) s i n e in
      ap (λ (z : ℕ). fine (h b z)) a.1.1.1 ∙ got_as (blamed p chosen) s i h (run_blamed p chosen (drop i s) (hit a.1.0 a.1.1.0))

pub hit_letter : (w : Text) (b : ℕ) (k : Reader ℕ) (s : Text) (i n : ℕ) → Ok n ≡ read_at (word w) s i → (p : ℕ) → Ok (letter b n) ≡ read_as letter (blamed p (choose w (word w >> return b) k)) s i
hit_letter w b k s i n e p = hit_blamed_as w b k s i n e letter p

pub hit_ended : (w : Text) (b : Bool) (k : Reader Bool) (s : Text) (i n : ℕ) → Ok n ≡ read_at (word w) s i → Ok (ended b n) ≡ read_as ended (choose w (word w >> return b) k) s i
hit_ended w b k s i n e = hit_as w b k s i n e ended

module _ {A D : Type 0} (h : A → ℕ → D) (w : Text) (m k : Reader A) (s : Text) (i : ℕ) (d : Blame) (e : Err d ≡ read_at (word w) s i) where
  miss : choose w m k (drop i s) ≡ k (drop i s)
  miss = run_false _ _ _ _ (sym (started_is w s i (Err d) e false refl)) refl

  pub miss_blamed : (n : ℕ) (r : Result D Blame) → r ≡ read_as h (blamed n k) s i → r ≡ read_as h (blamed n (choose w m k)) s i
  miss_blamed n r f = f ∙ sym (same_blamed (choose w m k) s i k miss h n)

pub wrong_blamed : {A B : Type 0} (h : A → ℕ → B) (s : Text) (i p : ℕ) (d : Blame) → d ≡ blame Malformed p → i < length s → p ≤ i → Err d ≡ read_as h (blamed (length s - p) (wrong {A = A})) s i
unfolding read_as blamed
wrong_blamed {B = B} h s i p d q l b = said d p q ∙ rw (here s i l) (ap (bad {B = B}) (omega arith))

-- ---- a letter
module _ (s : Text) (i : ℕ) where
  pub letter_none : {B : Type 0} (h : ℕ → ℕ → B) (n : ℕ) (d : Blame) → d ≡ blame Malformed i → length s ≤ i → i ≤ length s → Err d ≡ read_as h (blamed n letter_of) s i
  unfolding read_as letter_of blamed
  letter_none {B} h n d q l b = said d i q ∙ rw (nothing_left s i l) (ap (bad {B = B}) (omega arith))

  module _ (t : Bool) (l : i < length s) (e : t ≡ is_plain (get_or s i 0)) where
    pub plain_read : t ≡ true → letter_of (drop i s) ≡ got (get_or s i 0) (drop (i + 1) s)
    unfolding letter_of
    plain_read h = rw (here s i l) (run_true _ _ _ _ (sym e ∙ h) refl)

    pub letter_plain : (n : ℕ) → t ≡ true → Ok (letter (get_or s i 0) (i + 1)) ≡ read_as letter (blamed n letter_of) s i
    letter_plain n h =
        ap (λ (z : ℕ). fine (letter (get_or s i 0) z)) (omega (arith, length-drop (i + 1) s))
        ∙ got_as (blamed n letter_of) s i letter (run_blamed n letter_of (drop i s) (plain_read h))

    other : t ≡ false → letter_of (drop i s) ≡ entity (drop i s)
    unfolding letter_of
    other h = rw (here s i l) (run_false _ _ _ _ (sym e ∙ h) refl)

    pub letter_entity : {B : Type 0} (k : ℕ → ℕ → B) (n : ℕ) (r : Result B Blame) → t ≡ false → r ≡ read_as k (blamed n entity) s i → r ≡ read_as k (blamed n letter_of) s i
    letter_entity k n r h f = f ∙ sym (same_blamed letter_of s i entity (other h) k n)

-- a letter whose fault is put where it stands
pub letter_there : {B : Type 0} (h : ℕ → ℕ → B) (s : Text) (i : ℕ) (g : Result B Blame) → g ≡ read_as h (blamed (length s - i) letter_of) s i → g ≡ read_as h letter_of s i
unfolding read_as
letter_there h s i g e =
    e
    ∙ ap (λ (n : ℕ). placed_as h (length s) (blamed n letter_of (drop i s))) (sym (length-drop i s))
    ∙ ap (placed_as h (length s)) (blamed_once letter_of (drop i s) (letter_once (drop i s)))

-- a word alone, and what it tells
pub returned_ended : (w : Text) (b : Bool) (s : Text) (i n : ℕ) → Ok n ≡ read_at (word w) s i → Ok (ended b n) ≡ read_as ended (word w >> return b) s i
returned_ended w b s i n e = as_well (word w) s i (λ a k. k) (ended b) n e ∙ sym (mapped (word w) s i (λ u. b) ended)
