-- The listing that a file's records make, and its text.
use Rattle.std.specs.Prelude.{cond}
use mathlib.Core.List.{List, [], ◌∷◌, ◌++◌}
use Rattle.text.specs.Texts.{Text, bytes, newline}
use Rattle.listings.specs.Records.{Record, is_kind}
use Rattle.listings.specs.Refusals.{first_line}
use Rattle.listings.specs.declared.records.Kind.{Kind}
use Rattle.listings.specs.declared.records.Kind.TheVariants.{Role, Constraint, Allow, Collection, Pattern, Method, Omit, End}

-- ---- the order: "Roles go first in the listing"; the allowed names of a constraint stand right behind it
unfoldable pub roles_first : List Record → List Record
roles_first [] = []
roles_first (r ∷ rs) = cond (is_kind Role r) (r ∷ roles_first rs) (roles_first rs)

-- the allowed names up to the next constraint
unfoldable pub allows : List Record → List Record
allows [] = []
allows (r ∷ rs) = cond (is_kind Constraint r) [] (cond (is_kind Allow r) (r ∷ allows rs) (allows rs))

unfoldable pub blocks : List Record → List Record
unfolding allows
blocks [] = []
blocks (r ∷ rs) = elim r.kind [
  | Role ↦ blocks rs
  | Constraint ↦ r ∷ allows rs ++ blocks rs
  | Allow ↦ blocks rs
  | Collection ↦ r ∷ blocks rs
  | Pattern ↦ r ∷ blocks rs
  | Method ↦ r ∷ blocks rs
  | Omit ↦ r ∷ blocks rs
  | End ↦ blocks rs
]

unfoldable pub arranged : List Record → List Record
unfolding roles_first blocks
arranged rs = roles_first rs ++ blocks rs

-- ---- its text
-- how the line of a record begins
abbrev pub head_of : Kind → Text
head_of Role = bytes "role\t"
head_of Constraint = bytes "constraint\t"
head_of Allow = bytes "allow\t"
head_of Collection = bytes "collection"
head_of Pattern = bytes "pattern\t"
head_of Method = bytes "method\t"
head_of Omit = bytes "omit\t"
head_of End = bytes "end"

unfoldable pub line_of : Record → Text
line_of r = head_of r.kind ++ r.field ++ newline ∷ []

unfoldable pub lines_text : List Record → Text
unfolding line_of
lines_text [] = []
lines_text (r ∷ rs) = line_of r ++ lines_text rs

-- the listing that has these records and then `end`
unfoldable pub listing_text : List Record → Text
unfolding lines_text
listing_text rs = (first_line ++ newline ∷ []) ++ lines_text rs ++ bytes "end\n"

-- the listing for a file that gives these records
unfoldable pub written : List Record → Text
unfolding listing_text arranged
written rs = listing_text (arranged rs)
