-- What an accepted listing is.
use Rattle.std.specs.Prelude.{Bool, true, false, not, cond, ◌&&◌, drop}
use mathlib.Core.List.{List, [], ◌∷◌, ◌++◌, map, flat_map}
use Rattle.std.proofs.Math.Option.{none, some}
use Rattle.text.specs.Texts.{Text, bytes, same, member, run, on_last}
use Rattle.text.specs.Lines.{Line, lines_of}
use Rattle.listings.specs.Records.{Record, formed, declared_in, roles_in, methods_in}
use Rattle.listings.specs.declared.records.Kind.TheVariants.{Role, Constraint, Allow, Collection, Pattern, Method, Omit, End}

-- the patterns of a collection, and the methods that its `method` and its `omit` lines name
pub record Collected : Type 0 where
  pub patterns : List Text
  pub methods : List Text
  pub omitted : List Text

-- `open`, or `auth` with the names of its `allow` lines, `*` among them, in order; and its collections
pub record Constrained : Type 0 where
  pub is_open : Bool
  pub allowed : List Text
  pub collections : List Collected

-- roles and methods are the distinct names by first appearance
pub record Listing : Type 0 where
  pub declared : List Text
  pub roles : List Text
  pub methods : List Text
  pub constraints : List Constrained

-- ---- a collection and a method
abbrev pub is_empty : List Text → Bool
is_empty [] = true
is_empty (t ∷ ts) = false

-- "A collection without `method` and `omit` covers all methods; with `method`, those; with `omit`, all but those."
unfoldable pub covers : Collected → Text → Bool
unfolding member
covers c m = cond (is_empty c.methods) (not (member m c.omitted)) (member m c.methods)

-- ---- a constraint and a role
-- "`auth` without `allow` closes to everyone"
unfoldable pub closes : Constrained → Bool
closes c = not c.is_open && is_empty c.allowed

-- ---- each record adds to what stands so far
abbrev pub add_pattern : Text → Collected → Collected
add_pattern t c = record { patterns = c.patterns ++ t ∷ []; methods = c.methods; omitted = c.omitted }

abbrev pub add_method : Text → Collected → Collected
add_method m c = record { patterns = c.patterns; methods = c.methods ++ m ∷ []; omitted = c.omitted }

abbrev pub add_omitted : Text → Collected → Collected
add_omitted m c = record { patterns = c.patterns; methods = c.methods; omitted = c.omitted ++ m ∷ [] }

abbrev pub add_allowed : Text → Constrained → Constrained
add_allowed n c = record { is_open = c.is_open; allowed = c.allowed ++ n ∷ []; collections = c.collections }

abbrev pub add_collection : Constrained → Constrained
add_collection c = record {
  is_open = c.is_open;
  allowed = c.allowed;
  collections = c.collections ++ record { patterns = []; methods = []; omitted = [] } ∷ [];
}

-- a change of the constraint's last collection
abbrev pub in_collection : (Collected → Collected) → Constrained → Constrained
in_collection f c = record { is_open = c.is_open; allowed = c.allowed; collections = on_last f c.collections }

abbrev pub new_constraint : Text → Constrained
new_constraint word = record { is_open = same word (bytes "open"); allowed = []; collections = [] }

-- `constraint` begins one; `allow` and `collection` belong to the last constraint; `pattern`, `method` and `omit` to its last collection
unfoldable pub adds : List Constrained → Record → List Constrained
unfolding on_last same
adds cs r = elim r.kind [
  | Role ↦ cs
  | Constraint ↦ cs ++ new_constraint r.field ∷ []
  | Allow ↦ on_last (add_allowed r.field) cs
  | Collection ↦ on_last add_collection cs
  | Pattern ↦ on_last (in_collection (add_pattern r.field)) cs
  | Method ↦ on_last (in_collection (add_method r.field)) cs
  | Omit ↦ on_last (in_collection (add_omitted r.field)) cs
  | End ↦ cs
]

unfoldable pub constraints_in : List Record → List Constrained
unfolding run adds
constraints_in rs = run adds [] rs

unfoldable pub listing_in : List Record → Listing
unfolding declared_in roles_in methods_in constraints_in
listing_in rs = record {
  declared = declared_in rs;
  roles = roles_in rs;
  methods = methods_in rs;
  constraints = constraints_in rs;
}

-- ---- the listing that a text is
-- the records of the lines, lines of no record aside
unfoldable pub records_in : List Line → List Record
unfolding formed
records_in [] = []
records_in (l ∷ ls) = elim (formed l) [ none ↦ records_in ls | some r ↦ r ∷ records_in ls ]

-- the records behind the first line
unfoldable pub records_of : Text → List Record
unfolding records_in lines_of
records_of s = records_in (drop 1 (lines_of s))

unfoldable pub listing_of : Text → Listing
unfolding listing_in records_of
listing_of s = listing_in (records_of s)

-- ---- the listing line by line of its patterns: a pattern, with the collection and the constraint that it stands in
pub record PatternLine : Type 0 where
  pub text : Text
  pub collection : Collected
  pub constraint : Constrained

abbrev pub lines_in_collection : Constrained → Collected → List PatternLine
lines_in_collection k c = map (λ (t : Text). record { text = t; collection = c; constraint = k }) c.patterns

abbrev pub lines_in_constraint : Constrained → List PatternLine
lines_in_constraint k = flat_map (lines_in_collection k) k.collections

-- each `pattern` line, in order
unfoldable pub pattern_lines_of : Listing → List PatternLine
unfolding flat_map
pattern_lines_of l = flat_map lines_in_constraint l.constraints

-- the pattern texts, line by line
unfoldable pub patterns_of : Listing → List Text
unfolding pattern_lines_of
patterns_of l = map (λ (r : PatternLine). r.text) (pattern_lines_of l)
