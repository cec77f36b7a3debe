-- Where a fault is put, at places.
use mathlib.Core.Path.{◌≡◌, refl, sym, ap, ◌∙◌}
use mathlib.Core.Bool.{Bool, true, false, cond}
use Prim.Native.Nat.{ℕ, zero, suc, ◌-◌, ◌≤◌}
use native.Mathlib.Omega.{arith}
use native.Mathlib.Decide.{ℕ_discrete}
use lib.Dec.{eqb}
use lib.ListN.{length, drop, length-drop}
use borrow.Author.Tests.{eq-eqb, ne_eqb}
use Rattle.std.specs.Prelude.{Result, Ok, Err}
use Rattle.text.specs.Texts.{Text}
use Rattle.documents.specs.Parts.{Fault, Got, got, fault, Reader, blamed, comment, end_tag, second_tag}
use Rattle.markup.specs.declared.answers.Fault.{Fault as Blame}
use Rattle.markup.specs.Places.{blame, cause_of, placed_as, read_as, read_at, Within, place_of, put_at, blame_at, note_text}
use Rattle.markup.proofs.Steps.{faulty}

-- ---- a fault put at the place p
put_out : (p l : ℕ) (e : Blame) → e.at ≡ l → e ≡ put_at p l e
put_out p l e h = rw (eq-eqb e.at l h)

put_here : (p l : ℕ) (e : Blame) → (e.at ≡ l → ⊥) → blame e.cause p ≡ put_at p l e
put_here p l e h = rw (ne_eqb e.at l h)

-- ---- a reader whose faults are put at the place p
module _ {A B : Type 0} (h : A → ℕ → B) (m : Reader A) (s : Text) (i p : ℕ) (b : p ≤ length s) where
  pub blamed_at_lem : read_as h (blamed (length s - p) m) s i ≡ blame_at p (length s) (read_as h m s i)
  unfolding read_as blamed
  blamed_at_lem = go (m (drop i s))
    where
      l : ℕ
      l = length s

      there : (e : Fault) (k : ℕ) → Dec (l - suc k ≡ l) → blame (cause_of e) (l - (l - p)) ≡ put_at p l (blame (cause_of e) (l - suc k))
      there e k (yes z) = ap (blame (cause_of e)) (omega arith) ∙ put_out p l (blame (cause_of e) (l - suc k)) z
      there e k (no z) = ap (blame (cause_of e)) (omega arith) ∙ put_here p l (blame (cause_of e) (l - suc k)) z

      go : (g : Got A) → placed_as h l (elim g as (λ x. Got A) [ got a r ↦ got a r | fault e zero ↦ fault e zero | fault e (suc k) ↦ fault e (l - p) ]) ≡ blame_at p l (placed_as h l g)
      go (got a r) = refl
      go (fault e zero) = ap (faulty {B = B}) (put_out p l (blame (cause_of e) (l - 0)) (omega arith))
      go (fault e (suc k)) = ap (faulty {B = B}) (there e k (ℕ_discrete (l - suc k) l))

-- a reader that puts its faults at its own start
pub blamed_there : {A B : Type 0} (h : A → ℕ → B) (m : Reader A) (s : Text) (i : ℕ) → i ≤ length s → read_as h (λ x. blamed (length x) m x) s i ≡ blame_at i (length s) (read_as h m s i)
unfolding read_as
blamed_there h m s i b = ap (λ (n : ℕ). placed_as h (length s) (blamed n m (drop i s))) (length-drop i s) ∙ blamed_at_lem h m s i i b

-- one place behind another
pub within_on : (s : Text) (i n m : ℕ) → Within s i n → Within s n m → Within s i m
within_on s i n m h k = record { low = omega (arith, h.low, k.low); high = k.high }

put_within : (s : Text) (i : ℕ) (e : Blame) → Within s i e.at → Within s i (put_at i (length s) e).at
put_within s i e w = go (eqb e.at (length s))
  where
    go : (t : Bool) → Within s i (cond t e (blame e.cause i)).at
    go true = w
    go false = record { low = omega arith; high = omega (arith, w.low, w.high) }

pub blamed_within : (s : Text) (i : ℕ) (g r : Result ℕ Blame) → Within s i (place_of g) → r ≡ blame_at i (length s) g → Within s i (place_of r)
blamed_within s i (Ok b) r w f = rw f w
blamed_within s i (Err e) r w f = rw f (put_within s i e w)

-- ---- comments and tags
module _ (s : Text) (i : ℕ) (h : i ≤ length s) (g r : Result ℕ Blame) (f : r ≡ blame_at i (length s) g) where
  pub comment_at : g ≡ read_at note_text s i → r ≡ read_at comment s i
  unfolding comment read_as
  comment_at e = f ∙ ap (blame_at i (length s)) e ∙ sym (blamed_there (λ a k. k) note_text s i h)

  pub second_tag_at : (n : Text) → g ≡ read_at (end_tag n) s i → r ≡ read_at (second_tag n) s i
  unfolding second_tag read_as
  second_tag_at n e = f ∙ ap (blame_at i (length s)) e ∙ sym (blamed_there (λ a k. k) (end_tag n) s i h)
