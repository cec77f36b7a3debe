-- The meaning of a file: it spells a document of the right depth, whose elements are arranged as Elements says and give these records, none of which breaks a rule.
use Rattle.std.specs.Prelude.{Bool, true, false, ◌||◌, List, [], ◌≡◌, ℕ, ◌≤◌, eqb}
use Rattle.std.proofs.Math.Option.{some}
use Rattle.text.specs.Texts.{Text, bytes}
use Rattle.documents.specs.Chars.{is_white}
use Rattle.documents.specs.Grammar as tree
use Rattle.documents.specs.Grammar.{Node, letter, comment, element, Content, ◌then◌, letters_of, depth_node, Document}
use Rattle.documents.specs.Parts.{trimmed}
use Rattle.listings.specs.Records.{Record}
use Rattle.portals.specs.Elements.{Phase, in_app, phase_number, holds, says, sort_of, opening, is_complete, Effect}
use Rattle.portals.specs.Records.{record_of, added, effected}

-- "to a depth of 8, the root `web-app` being 1"
abbrev pub most_depth : ℕ
most_depth = 8

-- a content without elements
unfoldable pub is_text : Content → Bool
is_text tree.none = true
is_text (letter b then c) = is_text c
is_text (comment then c) = is_text c
is_text (element n k then c) = false

-- "White space round a text is dropped."
abbrev pub text_of : Content → Text
text_of k = trimmed (letters_of k)

-- "Stray text there .. is 17": but white space, and all text in an element that is passed over
abbrev pub may_stand : Phase → ℕ → Bool
may_stand p b = is_white b || eqb (phase_number p) 11

-- The content c, in an element where one stands at phase p with the records rs so far, may stand there, and leaves phase q and the records rs'.
pub data Gives : Phase → List Record → Content → Phase → List Record → Type 0 where
  over : {p : Phase} {rs : List Record} → Gives p rs tree.none p rs
  passing : {p q : Phase} {rs rs' : List Record} {b : ℕ} {c : Content} → may_stand p b ≡ true → Gives p rs c q rs' → Gives p rs (letter b then c) q rs'
  remarking : {p q : Phase} {rs rs' : List Record} {c : Content} → Gives p rs c q rs' → Gives p rs (comment then c) q rs'
  -- an element with content of its own, at whose end nothing is missing
  holding : {p p' q q₁ f : Phase} {e : Effect} {rs rs₁ rs₂ rs' : List Record} {n : Text} {k c : Content}
      → opening p (sort_of n) ≡ holds p' f e → effected e rs ≡ some rs₁ → Gives f rs₁ k q₁ rs₂ → is_complete q₁ ≡ true → Gives p' rs₂ c q rs' → Gives p rs (element n k then c) q rs'
  -- an element whose text is a record's field
  saying : {p p' q : Phase} {m : _} {rs rs₁ rs' : List Record} {n : Text} {k c : Content}
      → opening p (sort_of n) ≡ says p' m → is_text k ≡ true → added rs (record_of m (text_of k)) ≡ some rs₁ → Gives p' rs₁ c q rs' → Gives p rs (element n k then c) q rs'

-- s is a web.xml within the subset, the arrangement and the limits, and gives the records rs
pub record Means (s : Text) (rs : List Record) : Type 0 where
  pub held : Content
  pub spelt : Document (element (bytes "web-app") held) s
  pub shallow : depth_node (element (bytes "web-app") held) ≤ most_depth
  pub left : Phase
  pub given : Gives in_app [] held left rs
  pub whole : is_complete left ≡ true
