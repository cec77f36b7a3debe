-- What the functions that write a listing ask of the records in the work table, and what one of the records puts.
use Rattle.std.specs.Prelude.{ℕ, ◌%◌, ◌≤◌, ◌≡◌, Bool, true, cond, ◌&&◌, ◌||◌, List, [], ◌∷◌, length, eqb, leb}
use Rattle.text.specs.Texts.{Text}
use Rattle.listings.specs.Records.{Record, is_kind}
use Rattle.listings.specs.declared.records.Kind.TheVariants.{Constraint}
use Rattle.portals.specs.Listings.{allows, blocks}
use Rattle.portals.specs.Outcomes.{most_xml}
use Rattle.ledger.specs.Ledgers.{most_kept}
use Rattle.ledger.specs.Places.{record_at, records_at}

-- each field has at most as many bytes as a pattern may have
unfoldable pub fields_fit : List Record → Bool
fields_fit [] = true
fields_fit (r ∷ rs) = leb (length r.field) 255 && fields_fit rs

-- the record of the number x can be written at a place
pub record Writable (s : Text) (x at : ℕ) : Type 0 where
  pub short : length s ≤ most_xml
  pub fits : length (record_at s x).field ≤ 255
  pub low : at ≤ 999000

-- the first n numbers of w are records that can be written
pub record Formed (s : Text) (n : ℕ) (w : List ℕ) : Type 0 where
  pub short : length s ≤ most_xml
  pub few : n ≤ most_kept
  pub within : n ≤ length w
  pub fit : fields_fit (records_at s n w) ≡ true

-- the number x is that of a constraint
abbrev pub is_constraint : ℕ → Bool
is_constraint x = eqb (x % 8) 1 || eqb (x % 8) 2

-- the record where it is wanted
abbrev pub chosen : Bool → Record → List Record
chosen b r = cond b (r ∷ []) []

-- what the first of these records puts: a constraint its line and the names that it allows
unfoldable pub begun : List Record → List Record
unfolding allows blocks
begun [] = []
begun (r ∷ rs) = cond (is_kind Constraint r) (r ∷ allows rs) (blocks (r ∷ []))
