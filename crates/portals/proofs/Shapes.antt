-- The records of a collection and of a constraint, in the file's order and in the listing's.
use mathlib.Core.Path.{◌≡◌}
use mathlib.Core.Bool.{Bool, true, false, cond}
use mathlib.Core.List.{List, [], ◌∷◌, ◌++◌, map, flat_map}
use mathlib.Core.Logic.{◌⊎◌}
use Rattle.text.specs.Texts.{Text, bytes}
use Rattle.listings.specs.Records.{Record}
use Rattle.listings.specs.Listings.{Collected, Constrained, is_empty}
use Rattle.listings.specs.declared.records.Kind.{Kind}
use Rattle.listings.specs.declared.records.Kind.TheVariants.{Role, Constraint, Allow, Collection, Pattern, Method, Omit}
use Rattle.portals.specs.Records.{record_of}
use Rattle.portals.proofs.Eaches.{Each, each_append, each_map, each_flat}

-- ---- records
-- a record of that kind for each text
abbrev pub of_kind : Kind → List Text → List Record
of_kind k ts = map (record_of k) ts

-- what stands in a collection
abbrev pub under_collection : Collected → List Record
under_collection c = of_kind Pattern c.patterns ++ (of_kind Method c.methods ++ of_kind Omit c.omitted)

abbrev pub of_collection : Collected → List Record
of_collection c = record_of Collection [] ∷ under_collection c

abbrev pub of_collections : List Collected → List Record
of_collections cs = flat_map of_collection cs

-- `constraint⇥open`, `constraint⇥auth`
abbrev pub opened : Record
opened = record_of Constraint (bytes "open")

abbrev pub headed : Constrained → Record
headed k = record_of Constraint (cond k.is_open (bytes "open") (bytes "auth"))

-- as the file gives them: the allowed names last
abbrev pub as_given : Constrained → List Record
as_given k = headed k ∷ (of_collections k.collections ++ of_kind Allow k.allowed)

-- as the listing has them: the allowed names first
abbrev pub as_listed : Constrained → List Record
as_listed k = headed k ∷ (of_kind Allow k.allowed ++ of_collections k.collections)

-- what holds of every record that a collection can have holds of each record of some collections
pub each_collected : (P : Record → Type 0) → P (record_of Collection []) → ((t : Text) → P (record_of Pattern t)) → ((t : Text) → P (record_of Method t)) → ((t : Text) → P (record_of Omit t))
    → (cs : List Collected) → Each P (of_collections cs)
each_collected P c p m o cs =
    each_flat P of_collection
    (λ x. (
      c,
      each_append P (of_kind Pattern x.patterns) (of_kind Method x.methods ++ of_kind Omit x.omitted) (each_map P (record_of Pattern) p x.patterns)
          (each_append P (of_kind Method x.methods) (of_kind Omit x.omitted) (each_map P (record_of Method) m x.methods) (each_map P (record_of Omit) o x.omitted)),
    )) cs

-- ---- what is known of a file's
-- one pattern at least, and not both methods and omissions
pub record ShapedCollection (c : Collected) : Type 0 where
  pub patterned : is_empty c.patterns ≡ false
  pub one_sort : (c.methods ≡ []) ⊎ (c.omitted ≡ [])

abbrev pub is_none : {A : Type 0} → List A → Bool
is_none [] = true
is_none (x ∷ xs) = false

-- one collection at least, and no names allowed where it is open
pub record Shaped (k : Constrained) : Type 0 where
  pub shut : k.is_open ≡ true → k.allowed ≡ []
  pub collected : is_none k.collections ≡ false
  pub collections : Each ShapedCollection k.collections

-- ---- what stands directly in `web-app`: the roles and the constraints, in the file's order
pub data Item : Type 0 where
  declares : Text → Item
  constrains : Constrained → Item

abbrev pub given_by : Item → List Record
given_by (declares n) = record_of Role n ∷ []
given_by (constrains k) = as_given k

abbrev pub ShapedItem : Item → Type 0
ShapedItem (declares n) = Unit {0}
ShapedItem (constrains k) = Shaped k

unfoldable pub declared_by : List Item → List Text
declared_by [] = []
declared_by (declares n ∷ is) = n ∷ declared_by is
declared_by (constrains k ∷ is) = declared_by is

unfoldable pub constrained_by : List Item → List Constrained
constrained_by [] = []
constrained_by (declares n ∷ is) = constrained_by is
constrained_by (constrains k ∷ is) = k ∷ constrained_by is
