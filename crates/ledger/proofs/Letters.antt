-- The text at a place of the file, wherever its faults are put, and as it is gathered there.
use mathlib.Core.Path.{◌≡◌, refl, sym, ap, ◌∙◌}
use mathlib.Core.Bool.{Bool, true, false}
use mathlib.Core.List.{[], ◌∷◌, ◌++◌}
use mathlib.Core.Option.{Option, none, some}
use Prim.Native.Nat.{ℕ, zero, suc, ◌-◌, ◌≤◌, ◌<◌}
use native.Mathlib.Omega.{arith}
use lib.ListN.{length, take, drop, drop_of_length-le}
use lib.Dec.{eqb}
use Rattle.text.specs.Texts.{Text, same, part}
use Rattle.text.proofs.Spans.{same_lengths}
use Rattle.documents.specs.Chars.{next, after}
use Rattle.documents.specs.Parts.{Got, got, fault, Reader, ◌>>=◌, ◌>>◌, return, whether, blamed, rounds, walk, letter_of, comment, goes_on, piece, letters, trim_end, trimmed}
use Rattle.std.specs.Prelude.{Result, Ok, Err}
use Rattle.markup.specs.declared.answers.Fault.{Fault as Blame}
use Rattle.markup.specs.declared.gathering.Gathered.{Gathered}
use Rattle.markup.specs.Places.{read_or, read_as, placed_as}
use Rattle.markup.specs.Tallies.{gathered}
use Rattle.ledger.specs.Places.{text_at, Sought}

-- what was read, faults aside
record Value : Type 0 where
  value : Text
  left : Text

abbrev valued : Got Text → Option Value
valued (got t r) = some (record { value = t; left = r })
valued (fault e n) = none

never_some : {v : Value} → some v ≡ none → ⊥
never_some e = let z : ◌≡◌ {A = ℕ} 1 0 = ap (λ (o : Option Value). elim o [ none ↦ 0 | some v ↦ 1 ]) e in omega arith

abbrev value_of : Option Value → Value
value_of none = record { value = []; left = [] }
value_of (some v) = v

-- a letter is read or not, wherever its fault is put
letter_anywhere : (n m : ℕ) (t s : Text) → valued ((blamed n letter_of >>= λ b. return (t ++ b ∷ [])) s) ≡ valued ((blamed m letter_of >>= λ b. return (t ++ b ∷ [])) s)
unfolding blamed ◌>>=◌
letter_anywhere n m t s = go (letter_of s)
  where
    blamed_at : ℕ → Got ℕ → Got ℕ
    blamed_at i g = elim g as (λ g. Got ℕ) [ got a r ↦ got a r | fault e zero ↦ fault e zero | fault e (suc k) ↦ fault e i ]

    then_put : Got ℕ → Got Text
    then_put g = elim g as (λ g. Got Text) [ got b r ↦ got (t ++ b ∷ []) r | fault e k ↦ fault e k ]

    go : (g : Got ℕ) → valued (then_put (blamed_at n g)) ≡ valued (then_put (blamed_at m g))
    go (got a r) = refl
    go (fault e zero) = refl
    go (fault e (suc k)) = refl

-- and so is a piece
piece_anywhere : (n m : ℕ) (t s : Text) → valued (piece n t s) ≡ valued (piece m t s)
unfolding piece whether
piece_anywhere n m t s = go (next (eqb 60) s)
  where
    read : ℕ → Reader Text
    read i = blamed i letter_of >>= λ b. return (t ++ b ∷ [])

    go : (b : Bool) → valued (whether b (comment >> return t) (read n) s) ≡ valued (whether b (comment >> return t) (read m) s)
    go true = refl
    go false = letter_anywhere n m t s

rounds_anywhere : (n m f : ℕ) (t s : Text) → valued (rounds goes_on (piece n) f t s) ≡ valued (rounds goes_on (piece m) f t s)
unfolding rounds whether ◌>>=◌
rounds_anywhere n m zero t s = refl
rounds_anywhere n m (suc f) t s = go (goes_on s) (piece n t s) (piece m t s) (piece_anywhere n m t s) (rounds_anywhere n m f)
  where
    on : ℕ → Got Text → Got Text
    on i g = elim g as (λ g. Got Text) [ got b r ↦ rounds goes_on (piece i) f b r | fault e k ↦ fault e k ]

    goes : Bool → Got Text → Got Text
    goes b g = elim b as (λ b. Got Text) [ true ↦ g | false ↦ got t s ]

    go : (b : Bool) (g h : Got Text) → valued g ≡ valued h → ((u r : Text) → valued (rounds goes_on (piece n) f u r) ≡ valued (rounds goes_on (piece m) f u r))
        → valued (goes b (on n g)) ≡ valued (goes b (on m h))
    go false g h e again = refl
    go true (got u r) (got v q) e again =
        again u r
        ∙ ap (λ (z : Value). valued (rounds goes_on (piece m) f z.value z.left)) (ap value_of e)
    go true (got u r) (fault x k) e again = absurd (never_some e)
    go true (fault x k) (got u r) e again = absurd (never_some (sym e))
    go true (fault x k) (fault y j) e again = refl

-- the letters of a text, wherever a fault among them is put
pub letters_anywhere : (n m : ℕ) (s : Text) (p : ℕ) → read_or [] (letters n) s p ≡ read_or [] (letters m) s p
unfolding read_or letters walk
letters_anywhere n m s p = go (letters n (drop p s)) (letters m (drop p s)) (rounds_anywhere n m (length (drop p s)) [] (drop p s))
  where
    value_or : Got Text → Text
    value_or g = elim g as (λ g. Text) [ got a r ↦ a | fault e k ↦ [] ]

    go : (g h : Got Text) → valued g ≡ valued h → value_or g ≡ value_or h
    go (got u r) (got v q) e = ap (λ (o : Option Value). (value_of o).value) e
    go (got u r) (fault x k) e = absurd (never_some e)
    go (fault x k) (got u r) e = absurd (never_some (sym e))
    go (fault x k) (fault y j) e = refl

-- the text at a place is what is read there, trimmed
pub text_read : (n : ℕ) (s : Text) (p : ℕ) → text_at s p ≡ trimmed (read_or [] (letters n) s p)
unfolding text_at read_or trimmed trim_end after
text_read n s p = go (letters 0 (drop p s)) ∙ ap trimmed (letters_anywhere 0 n s p)
  where
    go : (g : Got Text) → elim g [ got t r ↦ trimmed t | fault e n ↦ [] ] ≡ trimmed (elim g as (λ g. Text) [ got a r ↦ a | fault e n ↦ [] ])
    go (got t r) = refl
    go (fault e n) = refl

-- what is gathered is as long
pub gathered_size : (n : ℕ) (s : Text) (p : ℕ) (g : Gathered) → Ok g ≡ read_as gathered (letters n) s p → g.len ≡ length (text_at s p)
unfolding read_as read_or
gathered_size n s p g h = go (letters n (drop p s)) h ∙ ap length (sym (text_read n s p))
  where
    len_of : Result Gathered Blame → ℕ
    len_of (Ok x) = x.len
    len_of (Err x) = 0

    go : (x : Got Text) → Ok g ≡ placed_as gathered (length s) x → g.len ≡ length (trimmed (elim x as (λ z. Text) [ got a r ↦ a | fault e k ↦ [] ]))
    go (got a r) e = ap len_of e
    go (fault d k) e = cc

-- beside a fault there is none
pub refused_none : (n : ℕ) (s : Text) (p : ℕ) (e : Blame) → Err e ≡ read_as gathered (letters n) s p → text_at s p ≡ []
unfolding read_as read_or trimmed trim_end after
refused_none n s p e h = text_read n s p ∙ go (letters n (drop p s)) h
  where
    go : (x : Got Text) → Err e ≡ placed_as gathered (length s) x → trimmed (elim x as (λ z. Text) [ got a r ↦ a | fault e k ↦ [] ]) ≡ []
    go (got a r) z = cc
    go (fault d k) z = refl

-- before a tag stands none
rounds_none : (f : ℕ) (u : Text) → goes_on u ≡ false → rounds goes_on (piece 0) f [] u ≡ got [] u
unfolding rounds whether
rounds_none zero u e = refl
rounds_none (suc f) u e = rw e

pub text_before_tag : (s : Text) (p : ℕ) → goes_on (drop p s) ≡ false → text_at s p ≡ []
unfolding text_at letters walk trimmed trim_end after
text_before_tag s p e = ap (λ (g : Got Text). elim g as (λ g. Text) [ got t r ↦ trimmed t | fault e n ↦ [] ]) (rounds_none (length (drop p s)) (drop p s) e)

-- ---- as the code reads it
-- past the end of the file stands none
pub text_none : (s : Text) (p : ℕ) → length s < p → text_at s p ≡ []
unfolding text_at letters walk rounds trimmed trim_end after
text_none s p l = let k : length s ≤ p = omega arith in ap (λ (u : Text). elim (letters 0 u) as (λ g. Text) [ got t r ↦ trimmed t | fault e n ↦ [] ]) (drop_of_length-le s k)

module _ (s : Text) (p : ℕ) (t : Text) (h : Sought s t) where
  pub text_past : length s < p → false ≡ same (text_at s p) t
  text_past l = same_lengths (text_at s p) t (λ e. let z : length (text_at s p) ≡ 0 = ap length (text_none s p l) in let k = h.full in omega arith)

  pub text_refused : (e : Blame) → Err e ≡ read_as gathered (letters (length s - p)) s p → false ≡ same (text_at s p) t
  text_refused e x = same_lengths (text_at s p) t (λ z. let k : length (text_at s p) ≡ 0 = ap length (refused_none (length s - p) s p e x) in let j = h.full in omega arith)

  module _ (g : Gathered) (e : Ok g ≡ read_as gathered (letters (length s - p)) s p) where
    pub text_longer : (g.len ≡ length t → ⊥) → false ≡ same (text_at s p) t
    text_longer d = same_lengths (text_at s p) t (λ z. d (gathered_size (length s - p) s p g e ∙ z))

    pub text_gathered : (out : Text) (r : Bool) → (g.len ≤ length out → take g.len out ≡ trimmed (read_or [] (letters (length s - p)) s p)) → g.len ≡ length t → length out ≡ 256
        → r ≡ same (take g.len out) t → r ≡ same (text_at s p) t
    text_gathered out r f l k q =
        q ∙ ap (λ (u : Text). same u t) (f (let j = h.short in omega arith) ∙ sym (text_read (length s - p) s p))
