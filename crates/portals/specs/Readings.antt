-- The reader of a web.xml, from the first byte on: the records that the file gives, or the first fault and how many bytes are left where it stands. `proofs/` shows that it accepts exactly what Means says.
use Rattle.std.specs.Prelude.{not, ◌||◌, List, [], ◌∷◌, ◌++◌, ℕ, zero, suc, eqb, length}
use Rattle.std.proofs.Math.Option.{Option, none, some}
use Rattle.text.specs.Texts.{Text, bytes, same}
use Rattle.documents.specs.Chars.{next}
use Rattle.documents.specs.Parts.{Fault, malformed, deep, unwanted, Got, got, fault, Reader, ◌>>=◌, ◌>>◌, return, fault_at, whether, blamed, walk, choose, letter_of, comment, Opened, start_tag, second_tag, ends, letters, trimmed, order_mark, prolog, asides, ending}
use Rattle.listings.specs.Records.{Record}
use Rattle.portals.specs.Elements.{Phase, in_app, Opening, misplaced, refused, holds, says, Effect, nothing, guards, adds, sort_of, opening, is_complete}
use Rattle.portals.specs.Records.{record_of, first_fault, guarded}
use Rattle.portals.specs.Means.{may_stand}

-- what is kept of the records so far, and how: the rule that one more breaks, the records with one more, and with an authorization constraint for the last constraint
pub record Keeping (R : Type 0) : Type 0 where
  pub breaks : R → Record → Option Fault
  pub adds : R → Record → R
  pub guards : R → R

-- the records themselves
abbrev pub listed : Keeping (List Record)
listed = record { breaks = first_fault; adds = λ rs r. rs ++ r ∷ []; guards = guarded }

-- how far reading has come: where it stands in the element, and what is kept
pub record Reached (R : Type 0) : Type 0 where
  pub phase : Phase
  pub kept : R

abbrev pub reached : {R : Type 0} → Phase → R → Reached R
reached p x = record { phase = p; kept = x }

-- ---- records, for a tag at whose `<` n bytes are left
-- one more record; where it breaks a rule, that is the fault
unfoldable pub adding : {R : Type 0} → Keeping R → ℕ → Record → R → Reader R
adding {R} K n r x s = elim (K.breaks x r) as (λ o. Got R) [ none ↦ got (K.adds x r) s | some f ↦ fault f n ]

unfoldable pub doing : {R : Type 0} → Keeping R → ℕ → Effect → R → Reader R
unfolding adding
doing K n nothing x = return x
doing K n guards x = return (K.guards x)
doing K n (adds k t) x = adding K n (record_of k t) x

-- ---- the end of an element
-- nothing is missing
unfoldable pub complete : {R : Type 0} → ℕ → Reached R → Reader (Reached R)
complete n y = whether (is_complete y.phase) (return y) (fault_at malformed n)

-- its second tag; what is missing is missed at its `<`
unfoldable pub closing : {R : Type 0} → Text → Reached R → Reader (Reached R)
unfolding complete
closing n y s = (second_tag n >> complete (length s) y) s

-- ---- an element, whose first tag t stands where n bytes are left; C reads a content
-- what it holds, to its end; at once, where its tag has no content
unfoldable pub filling : {R : Type 0} → (ℕ → Reached R → Reader (Reached R)) → ℕ → Opened → Reached R → Reader (Reached R)
unfolding closing complete
filling C n t y = whether t.full (C n y >>= closing t.name) (complete n y)

-- the text that it is, to its end
unfoldable pub telling : ℕ → Opened → Reader Text
telling n t = whether t.full (letters n >>= λ v. second_tag t.name >> return (trimmed v)) (return [])

-- where its first tag is well formed. A tag without content that lacks some is at fault before what it gives is looked at: 17 before 8
unfoldable pub entering : {R : Type 0} → Keeping R → (ℕ → Reached R → Reader (Reached R)) → ℕ → Opened → Reached R → Opening → Reader (Reached R)
unfolding doing filling telling adding
entering K C n t x misplaced = fault_at malformed n
entering K C n t x refused = fault_at unwanted n
entering K C n t x (holds p f e) =
    whether (t.full || is_complete f)
    (doing K n e x.kept >>= λ y. filling C n t (reached f y) >>= λ z. return (reached p z.kept))
    (fault_at malformed n)
entering K C n t x (says p k) = telling n t >>= λ v. adding K n (record_of k v) x.kept >>= λ y. return (reached p y)

-- where no level is left: out of place goes before too deep
abbrev pub sinking : {R : Type 0} → ℕ → Opening → Reader (Reached R)
sinking n misplaced = fault_at malformed n
sinking n refused = fault_at deep n
sinking n (holds p f e) = fault_at deep n
sinking n (says p k) = fault_at deep n

-- ---- a content, in an element whose first tag stands where n bytes are left; E reads an element
-- a byte of text
unfoldable pub straying : {R : Type 0} → ℕ → Reached R → Reader (Reached R)
straying n x = blamed n letter_of >>= λ b. whether (may_stand x.phase b) (return x) (fault_at malformed n)

unfoldable pub node_in : {R : Type 0} → (Reached R → Reader (Reached R)) → ℕ → Reached R → Reader (Reached R)
unfolding straying
node_in E n x s = whether (next (eqb 60) s) (choose (bytes "<!--") (comment >> return x) (E x)) (straying n x) s

unfoldable pub content_in : {R : Type 0} → (Reached R → Reader (Reached R)) → ℕ → Reached R → Reader (Reached R)
unfolding node_in
content_in E n x = walk (λ s. not (ends s)) (node_in E n) x

-- an element, where so many levels may still be opened
unfoldable pub element_in : {R : Type 0} → Keeping R → ℕ → Reached R → Reader (Reached R)
unfolding entering content_in opening
element_in K zero x s = (start_tag >>= λ t. sinking (length s) (opening x.phase (sort_of t.name))) s
element_in K (suc d) x s = (start_tag >>= λ t. entering K (content_in (element_in K d)) (length s) t x (opening x.phase (sort_of t.name))) s

-- ---- the file
-- the root: below it seven levels are left
unfoldable pub root_of : {R : Type 0} → Keeping R → R → Reader (Reached R)
unfolding filling content_in element_in
root_of K x s = (start_tag >>= λ t. whether (same t.name (bytes "web-app")) (filling (content_in (element_in K 7)) (length s) t (reached in_app x)) (fault_at malformed (length s))) s

-- what is kept of the whole file, from a first value on
unfoldable pub kept_of : {R : Type 0} → Keeping R → R → Reader R
unfolding root_of
kept_of K x = do
  order_mark
  prolog
  asides
  y ← root_of K x
  asides
  ending
  return y.kept

-- the records that it gives
unfoldable pub file_of : Reader (List Record)
unfolding kept_of
file_of = kept_of listed []
