-- What a work table holds, as a value: a view, `pattern` line by `pattern` line, with what each covers and says as sets. The view of a listing, and the view that a table holds,
-- whatever was put into it. For the proofs alone, which show that the decisions made of these sets are those of Decisions.
use Rattle.std.specs.Prelude.{ℕ, ◌≤◌, ◌≡◌, Bool, true, not, cond, ◌&&◌, ◌||◌, length, drop, get_or, eqb, ltb}
use mathlib.Core.List.{List, [], ◌∷◌, map, Memᴰ}
use Rattle.text.specs.Texts.{Text, bytes, same, member, Once}
use Rattle.listings.specs.Listings.{Collected, Constrained, Listing, PatternLine, covers, closes, pattern_lines_of}
use Rattle.names.specs.Names.{is_role_name, is_method_name, is_pattern}
use Rattle.limits.specs.Limits.{most_patterns, most_roles, most_methods}
use Rattle.entries.specs.Sets.{set_of}
use Rattle.entries.specs.Tables.{Tables, tables_at}
use Rattle.entries.specs.declared.tables.Tally.{Tally}
use Rattle.reading.specs.declared.held.Access.{Access}
use Rattle.reading.specs.declared.held.Access.TheVariants.{Open, Closed, ByRole}

-- a `pattern` line: its text, the methods that its collection covers, as digits, and what its constraint says
pub record ViewLine : Type 0 where
  pub text : Text
  pub cover : ℕ
  pub access : Access

-- the `pattern` lines, the roles and the methods
pub record View : Type 0 where
  pub lines : List ViewLine
  pub roles : List Text
  pub methods : List Text

-- the pattern texts, line by line
unfoldable pub texts : View → List Text
texts v = map (λ (x : ViewLine). x.text) v.lines

-- what line k covers
unfoldable pub cover_at : View → ℕ → ℕ
cover_at v k = get_or (map (λ (x : ViewLine). x.cover) v.lines) k 0

-- what the constraint of line k says
unfoldable pub access_at : View → ℕ → Access
access_at v k = get_or (map (λ (x : ViewLine). x.access) v.lines) k Open

-- ---- the view of a listing
-- digit i: the collection covers method i of the listing; from the number of its methods on: it covers those that nothing names
unfoldable pub cover_set : Listing → Collected → ℕ
unfolding set_of covers
cover_set l c = set_of 32 (λ i. covers c (get_or l.methods i []))

-- n is one of the allowed roles, "`*` adding all declared ones"
unfoldable pub admits : List Text → Constrained → Text → Bool
unfolding member
admits declared c n = (not (same n (bytes "*")) && member n c.allowed) || (member (bytes "*") c.allowed && member n declared)

-- digit i: the constraint allows role i of the listing, by its name or by `*`
unfoldable pub admit_set : Listing → Constrained → ℕ
unfolding set_of admits
admit_set l k = set_of 32 (λ i. ltb i (length l.roles) && admits l.declared k (get_or l.roles i []))

-- what the constraint says of those that it is taken for: `open`; `auth` without `allow`; or the roles that it allows
unfoldable pub access_of : Listing → Constrained → Access
unfolding closes admit_set
access_of l k = cond k.is_open Open (cond (closes k) Closed (ByRole (admit_set l k)))

unfoldable pub view_of : Listing → View
unfolding pattern_lines_of cover_set access_of
view_of l = record {
  lines = map (λ (r : PatternLine). record { text = r.text; cover = cover_set l r.collection; access = access_of l r.constraint }) (pattern_lines_of l);
  roles = l.roles;
  methods = l.methods;
}

-- ---- the view that a table holds
-- number n of them, counted from 1; 0 is the number of none
abbrev pub counted : List ℕ → ℕ → ℕ
counted xs n = get_or (0 ∷ xs) n 0

-- what a constraint says, by the number of its access and the roles that it allows
abbrev pub access_by : ℕ → ℕ → Access
access_by number allowed = cond (eqb number 0) Open (cond (eqb number 1) Closed (ByRole allowed))

-- a line with collection c and constraint k
abbrev pub line_in : Tables → Text → ℕ → ℕ → ViewLine
line_in T t c k = record { text = t; cover = counted T.covers c; access = access_by (counted T.accesses k) (counted T.allows k) }

-- the lines of those texts, with the numbers of their collections and of their constraints
unfoldable pub lines_in : Tables → List Text → List ℕ → List ℕ → List ViewLine
lines_in T [] cs ks = []
lines_in T (t ∷ ts) cs ks = line_in T t (get_or cs 0 0) (get_or ks 0 0) ∷ lines_in T ts (drop 1 cs) (drop 1 ks)

unfoldable pub view_in : Tables → View
unfolding lines_in
view_in T = record { lines = lines_in T T.patterns T.owners T.parents; roles = T.roles; methods = T.methods }

-- by the text, the counts and the numbers of the table
unfoldable pub view_at : Text → Tally → List ℕ → View
unfolding tables_at view_in
view_at s t w = view_in (tables_at s t w)

-- ---- what is known of every view that a table holds
-- within 01's limits, each text by its rule, no role and no method twice
pub record ProperView (v : View) : Type 0 where
  pub few_patterns : length (texts v) ≤ most_patterns
  pub good_patterns : (t : Text) → Memᴰ t (texts v) → is_pattern t ≡ true
  pub short_patterns : (t : Text) → Memᴰ t (texts v) → length t ≤ 255
  pub few_methods : length v.methods ≤ most_methods
  pub methods_once : Once v.methods
  pub good_methods : (m : Text) → member m v.methods ≡ true → is_method_name m ≡ true
  pub few_roles : length v.roles ≤ most_roles
  pub roles_once : Once v.roles
  pub good_roles : (n : Text) → member n v.roles ≡ true → is_role_name n ≡ true
