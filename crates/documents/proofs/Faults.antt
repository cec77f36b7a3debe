-- A letter is right or wrong as a whole: its fault stands where the letter does.
use mathlib.Core.Path.{◌≡◌, refl}
use mathlib.Core.Bool.{Bool, true, false, false≢true}
use mathlib.Core.List.{[], ◌∷◌}
use Prim.Native.Nat.{zero, suc}
use lib.Dec.{eqb}
use lib.ListN.{length}
use Rattle.text.specs.Texts.{Text, starts_with}
use Rattle.text.proofs.Truths.{and_left, and_right}
use Rattle.documents.specs.Parts.{Got, got, fault, malformed, Reader, ◌>>◌, return, whether, blamed, word, entity, quote_entity, letter_of}
use Rattle.documents.proofs.Steps.{run_then, run_true}

-- an answer to the text x: something is read, or x is wrong at its first byte
pub data AtOnce {A : Type 0} (x : Text) : Got A → Type 0 where
  right : {a : A} {r : Text} → AtOnce x (got a r)
  not_right : AtOnce x (fault malformed (length x))

once_whether : {A : Type 0} (t : Bool) (m k : Reader A) (x : Text) → (t ≡ true → AtOnce x (m x)) → (t ≡ false → AtOnce x (k x)) → AtOnce x (whether t m k x)
unfolding whether
once_whether true m k x f g = f refl
once_whether false m k x f g = g refl

-- a word that the text starts with is read
pub starts_word : (w x : Text) → starts_with w x ≡ true → (r : Text) × (word w x ≡ got tt r)
unfolding starts_with word
starts_word [] x e = (x, refl)
starts_word (b ∷ w) [] e = absurd (false≢true e)
starts_word (b ∷ w) (y ∷ x) e =
    let h = starts_word w x (and_right (eqb b y) (starts_with w x) e) in
    (h.0, run_true _ _ _ _ (and_left (eqb b y) (starts_with w x) e) h.1)

once_word : {A : Type 0} (a : A) (w x : Text) → starts_with w x ≡ true → AtOnce x ((word w >> return a) x)
once_word a w x e = let h = starts_word w x e in rw (run_then (word w) (λ u. return a) x h.1 refl) right

pub entity_once : (x : Text) → AtOnce x (entity x)
unfolding entity quote_entity
entity_once x =
    once_whether _ _ _ x (λ e. once_word _ _ x e)
    (λ e. once_whether _ _ _ x (λ e. once_word _ _ x e)
    (λ e. once_whether _ _ _ x (λ e. once_word _ _ x e)
    (λ e. once_whether _ _ _ x (λ e. once_word _ _ x e)
    (λ e. once_whether _ _ _ x (λ e. once_word _ _ x e) (λ e. not_right)))))

pub letter_once : (x : Text) → AtOnce x (letter_of x)
unfolding letter_of
letter_once [] = not_right
letter_once (b ∷ x) = once_whether _ _ _ _ (λ e. right) (λ e. entity_once (b ∷ x))

-- so to put its fault there changes nothing
pub blamed_once : {A : Type 0} (m : Reader A) (x : Text) → AtOnce x (m x) → blamed (length x) m x ≡ m x
unfolding blamed
blamed_once {A} m x h = go x (m x) h
  where
    go : (y : Text) (g : Got A) → AtOnce y g → elim g as (λ z. Got A) [ got a r ↦ got a r | fault e zero ↦ fault e zero | fault e (suc k) ↦ fault e (length y) ] ≡ g
    go y (got a r) right = refl
    go [] (fault d k) not_right = refl
    go (b ∷ y) (fault d k) not_right = refl
