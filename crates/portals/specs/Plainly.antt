-- The roles and the constraints of a tree, read off it by the names of its elements alone, as one who knows web.xml does. `proofs/` shows that the listing which is written has exactly these.
use Rattle.std.specs.Prelude.{Bool, true, false, cond}
use mathlib.Core.List.{List, [], ◌∷◌, map, flat_map}
use Rattle.text.specs.Texts.{Text, bytes, same}
use Rattle.documents.specs.Grammar as tree
use Rattle.documents.specs.Grammar.{letter, comment, element, Content, ◌then◌}
use Rattle.listings.specs.Listings.{Collected, Constrained}
use Rattle.portals.specs.Means.{text_of}

-- the contents of the elements of that name that stand directly in c, in order
unfoldable pub named : Text → Content → List Content
unfolding same
named n tree.none = []
named n (letter b then c) = named n c
named n (comment then c) = named n c
named n (element m k then c) = cond (same m n) (k ∷ named n c) (named n c)

abbrev pub texts_named : Text → Content → List Text
texts_named n c = map text_of (named n c)

abbrev pub has_none : List Content → Bool
has_none [] = true
has_none (k ∷ ks) = false

abbrev pub collection_of : Content → Collected
collection_of c = record {
  patterns = texts_named (bytes "url-pattern") c;
  methods = texts_named (bytes "http-method") c;
  omitted = texts_named (bytes "http-method-omission") c;
}

-- without an `auth-constraint` it is open; with an empty one it closes
abbrev pub constraint_of : Content → Constrained
constraint_of c = record {
  is_open = has_none (named (bytes "auth-constraint") c);
  allowed = flat_map (texts_named (bytes "role-name")) (named (bytes "auth-constraint") c);
  collections = map collection_of (named (bytes "web-resource-collection") c);
}

-- of what `web-app` holds
unfoldable pub roles_in : Content → List Text
unfolding named flat_map
roles_in c = flat_map (texts_named (bytes "role-name")) (named (bytes "security-role") c)

unfoldable pub constraints_in : Content → List Constrained
unfolding named flat_map
constraints_in c = map constraint_of (named (bytes "security-constraint") c)
