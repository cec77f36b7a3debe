-- A run of bytes that may stand in a content as they are is passed at once.
use mathlib.Core.Path.{◌≡◌, refl, sym, ap, ◌∙◌}
use mathlib.Core.Bool.{Bool, true, false, not, cond, ◌||◌, false≢true}
use mathlib.Core.List.{List, [], ◌∷◌}
use Prim.Native.Nat.{ℕ, ◌-◌}
use lib.Dec.{eqb}
use lib.ListN.{length, drop}
use borrow.Author.Tests.{ne_eqb}
use Rattle.text.specs.Texts.{Text, starts_with}
use Rattle.documents.specs.Chars.{is_white, is_char, is_plain, after}
use Rattle.documents.specs.Parts.{got, blamed, letter_of, ends}
use Rattle.documents.proofs.Chars.{plain_not}
use Rattle.documents.proofs.Steps.{run_then, run_true, run_false, run_blamed}
use Rattle.documents.proofs.Loops.{walk_goes}
use Rattle.markup.specs.Places.{placed_as, read_as}
use Rattle.portals.specs.Elements.{phase_number}
use Rattle.portals.specs.Means.{may_stand}
use Rattle.portals.specs.Readings.{Keeping, Reached, straying, node_in, content_in, element_in}
use Rattle.ledger.specs.Ledgers.{ledgered}
use Rattle.elements.specs.declared.rows.Phase.{Phase}
use Rattle.elements.specs.declared.rows.Phase.TheVariants.{PassedOver}
use Rattle.elements.specs.Rows.{phase_at, passing}
use Rattle.elements.specs.Goings.{stood, read_on, reached_at, content_at}
use Rattle.elements.proofs.Leavings.{node_less}

-- ---- one byte of a content
lesser : is_plain 60 ≡ false
unfolding is_plain is_char is_white
lesser = refl

letter_itself : (b : ℕ) (s : Text) → is_plain b ≡ true → letter_of (b ∷ s) ≡ got b s
unfolding letter_of
letter_itself b s h = run_true _ _ _ (b ∷ s) h refl

plain_ends : (b : ℕ) (s : Text) → is_plain b ≡ true → ends (b ∷ s) ≡ false
unfolding ends starts_with
plain_ends b s h = rw (plain_not 60 lesser b h)

module _ {R : Type 0} (K : Keeping R) (d n : ℕ) (x : Reached R) where
  node_passes : (b : ℕ) (s : Text) → is_plain b ≡ true → may_stand x.phase b ≡ true → node_in (element_in K d) n x (b ∷ s) ≡ got x s
  unfolding node_in straying
  node_passes b s h m =
      run_false _ _ _ (b ∷ s) (plain_not 60 lesser b h) (run_then (blamed n letter_of) _ (b ∷ s) (run_blamed n letter_of (b ∷ s) (letter_itself b s h)) (run_true _ _ _ s m refl))

  content_passes : (b : ℕ) (s : Text) → is_plain b ≡ true → may_stand x.phase b ≡ true → content_in (element_in K d) n x (b ∷ s) ≡ content_in (element_in K d) n x s
  unfolding content_in ends
  content_passes b s h m = walk_goes (λ s. not (ends s)) (node_in (element_in K d) n) refl (λ a y e. node_less K d n a y) x (b ∷ s) (ap not (plain_ends b s h)) (node_passes b s h m)

  run_passes : (p : ℕ → Bool) → ((b : ℕ) → p b ≡ true → is_plain b ≡ true) → ((b : ℕ) → p b ≡ true → may_stand x.phase b ≡ true)
      → (s : Text) → content_in (element_in K d) n x s ≡ content_in (element_in K d) n x (after p s)
  unfolding after
  run_passes p f g [] = refl
  run_passes p f g (b ∷ s) = go (p b) refl (run_passes p f g s)
    where
      go : (t : Bool) → p b ≡ t → content_in (element_in K d) n x s ≡ content_in (element_in K d) n x (after p s)
          → content_in (element_in K d) n x (b ∷ s) ≡ content_in (element_in K d) n x (cond t (after p s) (b ∷ s))
      go true e again = content_passes b s (f b e) (g b e) ∙ again
      go false e again = refl

-- ---- which bytes those are
white_plain : (b : ℕ) → is_white b ≡ true → is_plain b ≡ true
unfolding is_plain is_char is_white
white_plain b h = rw (h, ne_eqb b 60 (other 60 refl), ne_eqb b 38 (other 38 refl))
  where
    other : (c : ℕ) → is_white c ≡ false → b ≡ c → ⊥
    other c f e = false≢true (sym f ∙ ap is_white (sym e) ∙ h)

pub or_true : (a : Bool) → (a || true) ≡ true
or_true true = refl
or_true false = refl

module _ (q : Phase) (b : ℕ) where
  passing_plain : passing q b ≡ true → is_plain b ≡ true
  passing_plain = go (eqb (phase_number (phase_at q)) 11)
    where
      go : (c : Bool) → cond c (is_plain b) (is_white b) ≡ true → is_plain b ≡ true
      go true h = h
      go false h = white_plain b h

  passing_stands : passing q b ≡ true → may_stand (phase_at q) b ≡ true
  passing_stands = go (eqb (phase_number (phase_at q)) 11)
    where
      go : (c : Bool) → cond c (is_plain b) (is_white b) ≡ true → (is_white b || c) ≡ true
      go true h = or_true (is_white b)
      go false h = ap (λ (a : Bool). a || false) h

-- an element that is not passed over
pub not_passed : (q : Phase) → (q ≡ PassedOver → ⊥) → eqb (phase_number (phase_at q)) 11 ≡ false
not_passed PassedOver n = absurd (n refl)
not_passed _ n = refl

-- ---- at places
module _ (q : Phase) (r x : Text) where
  pub pass_plain : q ≡ PassedOver → r ≡ after is_plain x → r ≡ after (passing q) x
  pass_plain z e = e ∙ ap (λ (c : Bool). after (λ b. cond c (is_plain b) (is_white b)) x) (sym (ap (λ (p : Phase). eqb (phase_number (phase_at p)) 11) z))

  pub pass_white : (q ≡ PassedOver → ⊥) → r ≡ after is_white x → r ≡ after (passing q) x
  pass_white z e = e ∙ ap (λ (c : Bool). after (λ b. cond c (is_plain b) (is_white b)) x) (sym (not_passed q z))

pub content_passed : (s : Text) (d h i n : ℕ) (q : Phase) (w : List ℕ) → drop n s ≡ after (passing q) (drop i s)
    → read_on (content_at d (length s - h) (reached_at s q w)) s i ≡ read_on (content_at d (length s - h) (reached_at s q w)) s n
unfolding read_as
content_passed s d h i n q w e =
    ap (placed_as stood (length s))
    (run_passes ledgered d (length s - h) (reached_at s q w) (passing q) (passing_plain q) (passing_stands q) (drop i s)
    ∙ ap (content_in (element_in ledgered d) (length s - h) (reached_at s q w)) (sym e))
