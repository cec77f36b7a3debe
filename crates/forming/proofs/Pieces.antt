-- The line of a record, piece by piece.
use mathlib.Core.Path.{◌≡◌, refl, sym, ap, ◌∙◌}
use mathlib.Core.List.{[], ◌∷◌, ◌++◌, append_assoc}
use Prim.Native.Nat.{ℕ, ◌+◌, ◌-◌, ◌/◌, ◌%◌, ◌≤◌, ◌<◌}
use native.Mathlib.Omega.{arith}
use lib.ListN.{length, take, length-append}
use lib.Seq.{sets}
use Rattle.std.specs.Prelude.{Ok, Err}
use Rattle.text.specs.Texts.{Text, bytes, newline}
use Rattle.writing.proofs.Puts.{sets_then}
use Rattle.listings.specs.Records.{Record}
use Rattle.listings.specs.declared.records.Kind.{Kind}
use Rattle.listings.specs.declared.records.Kind.TheVariants.{Role, Constraint, Allow, Collection, Pattern, Method, Omit, End}
use Rattle.portals.specs.Listings.{head_of, line_of}
use Rattle.documents.specs.Parts.{letters, trimmed}
use Rattle.markup.specs.declared.answers.Fault.{Fault as Blame}
use Rattle.markup.specs.declared.gathering.Gathered.{Gathered}
use Rattle.markup.specs.Places.{read_or, read_as}
use Rattle.markup.specs.Tallies.{gathered}
use Rattle.ledger.proofs.Letters.{text_read, text_none, gathered_size, refused_none}
use Rattle.ledger.specs.declared.items.Item.{Item}
use Rattle.ledger.specs.declared.items.Item.TheVariants as Items
use Rattle.ledger.specs.Places.{text_at, kind_by, number_of, field_by, record_at}
use Rattle.forming.specs.Formed.{Writable}

-- ---- how it begins
module _ (k : Kind) (h : Text) (e : h ≡ head_of k) where
  pub head_place : (r at : ℕ) → r ≡ at + length h → r ≡ at + length (head_of k)
  head_place r at p = p ∙ ap (λ (t : Text). at + length t) e

  pub head_bytes : (out d : Text) (at : ℕ) → d ≡ sets out at h → d ≡ sets out at (head_of k)
  head_bytes out d at p = p ∙ ap (sets out at) e

pub head_short : (k : Kind) → length (head_of k) ≤ 11
head_short Role = omega arith
head_short Constraint = omega arith
head_short Allow = omega arith
head_short Collection = omega arith
head_short Pattern = omega arith
head_short Method = omega arith
head_short Omit = omega arith
head_short End = omega arith

-- ---- a text of the file
module _ (s : Text) (p : ℕ) where
  -- past its end there is none
  pub past_place : (at : ℕ) → length s < p → at ≡ at + length (text_at s p)
  past_place at h = let l : length (text_at s p) ≡ 0 = ap length (text_none s p h) in omega arith

  pub past_bytes : (out : Text) (at : ℕ) → length s < p → out ≡ sets out at (text_at s p)
  past_bytes out at h = ap (sets out at) (sym (text_none s p h))

  -- where a letter of it is at fault neither
  module _ (e : Blame) (h : Err e ≡ read_as gathered (letters (length s - p)) s p) where
    pub refused_place : (at : ℕ) → at ≡ at + length (text_at s p)
    refused_place at = let l : length (text_at s p) ≡ 0 = ap length (refused_none (length s - p) s p e h) in omega arith

    pub refused_bytes : (out : Text) (at : ℕ) → out ≡ sets out at (text_at s p)
    refused_bytes out at = ap (sets out at) (sym (refused_none (length s - p) s p e h))

  -- its letters are gathered in the first bytes of b
  module _ (g : Gathered) (is : Ok g ≡ read_as gathered (letters (length s - p)) s p) (fits : length (text_at s p) ≤ 255) (b : Text) (room : length b ≡ 256) where
    pub text_within : g.len ≤ length b
    text_within = let l = gathered_size (length s - p) s p g is in omega arith

    module _ (text : g.len ≤ length b → take g.len b ≡ trimmed (read_or [] (letters (length s - p)) s p)) where
      text_here : take g.len b ≡ text_at s p
      text_here = text text_within ∙ sym (text_read (length s - p) s p)

      pub gathered_short : length (take g.len b) ≤ 1000000
      gathered_short = let l = ap length text_here in omega arith

      pub gathered_place : (r at : ℕ) → r ≡ at + length (take g.len b) → r ≡ at + length (text_at s p)
      gathered_place r at e = e ∙ ap (λ (t : Text). at + length t) text_here

      pub gathered_bytes : (out d : Text) (at : ℕ) → d ≡ sets out at (take g.len b) → d ≡ sets out at (text_at s p)
      gathered_bytes out d at e = e ∙ ap (sets out at) text_here

-- ---- its field
text_alone : (s : Text) (p : ℕ) (j : Item) → (j ≡ Items.Open → ⊥) → (j ≡ Items.Auth → ⊥) → (j ≡ Items.Collection → ⊥) → field_by s (number_of j) p ≡ text_at s p
unfolding field_by
text_alone s p Items.Open a b c = absurd (a refl)
text_alone s p Items.Auth a b c = absurd (b refl)
text_alone s p Items.Collection a b c = absurd (c refl)
text_alone s p _ a b c = refl

module _ (s : Text) (k p : ℕ) (j : Item) (is : number_of j ≡ k) where
  of_kind : (t : Text) → field_by s (number_of j) p ≡ t → field_by s k p ≡ t
  of_kind t e = ap (λ (n : ℕ). field_by s n p) (sym is) ∙ e

  -- fixed, by the kind
  open_is : j ≡ Items.Open → field_by s k p ≡ bytes "open"
  unfolding field_by
  open_is e = of_kind (bytes "open") (rw e)

  auth_is : j ≡ Items.Auth → field_by s k p ≡ bytes "auth"
  unfolding field_by
  auth_is e = of_kind (bytes "auth") (rw e)

  none_is : j ≡ Items.Collection → field_by s k p ≡ []
  unfolding field_by
  none_is e = of_kind [] (rw e)

  -- or a text of the file
  text_is : (j ≡ Items.Open → ⊥) → (j ≡ Items.Auth → ⊥) → (j ≡ Items.Collection → ⊥) → field_by s k p ≡ text_at s p
  text_is a b c = of_kind (text_at s p) (text_alone s p j a b c)

  module _ (r at : ℕ) where
    pub open_place : j ≡ Items.Open → r ≡ at + 4 → r ≡ at + length (field_by s k p)
    open_place e q = q ∙ ap (λ (t : Text). at + length t) (sym (open_is e))

    pub auth_place : j ≡ Items.Auth → r ≡ at + 4 → r ≡ at + length (field_by s k p)
    auth_place e q = q ∙ ap (λ (t : Text). at + length t) (sym (auth_is e))

    pub text_place : (j ≡ Items.Open → ⊥) → (j ≡ Items.Auth → ⊥) → (j ≡ Items.Collection → ⊥) → r ≡ at + length (text_at s p) → r ≡ at + length (field_by s k p)
    text_place a b c h = h ∙ ap (λ (t : Text). at + length t) (sym (text_is a b c))

  pub none_place : (at : ℕ) → j ≡ Items.Collection → at ≡ at + length (field_by s k p)
  none_place at e = let q : length (field_by s k p) ≡ 0 = ap length (none_is e) in omega arith

  module _ (out d : Text) (at : ℕ) where
    pub open_bytes : j ≡ Items.Open → d ≡ sets out at (bytes "open") → d ≡ sets out at (field_by s k p)
    open_bytes e q = q ∙ ap (sets out at) (sym (open_is e))

    pub auth_bytes : j ≡ Items.Auth → d ≡ sets out at (bytes "auth") → d ≡ sets out at (field_by s k p)
    auth_bytes e q = q ∙ ap (sets out at) (sym (auth_is e))

    pub text_bytes : (j ≡ Items.Open → ⊥) → (j ≡ Items.Auth → ⊥) → (j ≡ Items.Collection → ⊥) → d ≡ sets out at (text_at s p) → d ≡ sets out at (field_by s k p)
    text_bytes a b c h = h ∙ ap (sets out at) (sym (text_is a b c))

  pub none_bytes : (out : Text) (at : ℕ) → j ≡ Items.Collection → out ≡ sets out at (field_by s k p)
  none_bytes out at e = ap (sets out at) (sym (none_is e))

  pub text_fits : (j ≡ Items.Open → ⊥) → (j ≡ Items.Auth → ⊥) → (j ≡ Items.Collection → ⊥) → length (field_by s k p) ≤ 255 → length (text_at s p) ≤ 255
  text_fits a b c h = let l : length (text_at s p) ≡ length (field_by s k p) = ap length (sym (text_is a b c)) in omega arith

-- ---- the whole of it
pub line_is : (r : Record) → line_of r ≡ head_of r.kind ++ (r.field ++ newline ∷ [])
unfolding line_of
line_is r = append_assoc (head_of r.kind) r.field (newline ∷ [])

module _ (s : Text) (x at a b : ℕ) (W : Writable s x at) (k : Kind) (kind : k ≡ kind_by (x % 8)) (head : a ≡ at + length (head_of k)) where
  pub head_low : a ≤ 1000000
  head_low = let l = head_short k in let h = W.low in omega arith

  module _ (field : b ≡ a + length (field_by s (x % 8) (x / 8))) where
    pub field_low : b ≤ 1000000
    field_low = let l = head_short k in let h = W.low in let f : length (field_by s (x % 8) (x / 8)) ≤ 255 = W.fits in omega arith

    line_here : line_of (record_at s x) ≡ head_of k ++ (field_by s (x % 8) (x / 8) ++ newline ∷ [])
    line_here = line_is (record_at s x) ∙ ap (λ (m : Kind). head_of m ++ (field_by s (x % 8) (x / 8) ++ newline ∷ [])) (sym kind)

    pub record_place : (r : ℕ) → r ≡ b + 1 → r ≡ at + length (line_of (record_at s x))
    record_place r e =
        let l = ap length line_here in
        let p = length-append (head_of k) (field_by s (x % 8) (x / 8) ++ newline ∷ []) in
        let q = length-append (field_by s (x % 8) (x / 8)) (newline ∷ []) in
        omega arith

    pub record_bytes : (out d₁ d₂ d₃ : Text) → d₁ ≡ sets out at (head_of k) → d₂ ≡ sets d₁ a (field_by s (x % 8) (x / 8)) → d₃ ≡ sets d₂ b (newline ∷ []) → d₃ ≡ sets out at (line_of (record_at s x))
    record_bytes out d₁ d₂ d₃ p q r =
        sets_then out d₁ d₃ (head_of k) (field_by s (x % 8) (x / 8) ++ newline ∷ []) at a head p (sets_then d₁ d₂ d₃ (field_by s (x % 8) (x / 8)) (newline ∷ []) a b field q r)
        ∙ ap (sets out at) (sym line_here)
