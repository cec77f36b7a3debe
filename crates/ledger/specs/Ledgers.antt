-- What is kept of a file's records while it is read: as many of them as the table has room for (more make no listing of 24,576 bytes), the distinct names, and the counts. `proofs/` shows that it keeps what the records are.
use Rattle.std.specs.Prelude.{ℕ, suc, ◌+◌, ◌-◌, Bool, false, not, cond, ◌&&◌, ◌||◌, List, [], ◌∷◌, ◌++◌, length, take, set, eqb, leb, ltb}
use Rattle.std.proofs.Math.Option.{Option, none, some}
use Rattle.text.specs.Texts.{Text, bytes, member, known}
use Rattle.limits.specs.Limits.{most_constraints, most_collections, most_patterns, most_method_lines, most_roles, most_methods}
use Rattle.names.specs.Names.{is_star}
use Rattle.documents.specs.Parts.{Fault, bad_name, bad_pattern, role_twice, past_most}
use Rattle.listings.specs.Records.{Record, is_kind, names_role, names_method, declared_in, roles_in, methods_in}
use Rattle.listings.specs.Counts.{count}
use Rattle.listings.specs.Refusals.{has_bad_name, has_bad_pattern}
use Rattle.listings.specs.declared.records.Kind.TheVariants.{Role, Constraint, Allow, Collection, Pattern, Method, Omit, End}
use Rattle.portals.specs.Records.{record_of}
use Rattle.portals.specs.Readings.{Keeping}

-- so many records have room: each takes 7 bytes of a listing at least
abbrev pub most_kept : ℕ
most_kept = 3600

pub record Ledger : Type 0 where
  -- how many records, counted up to one more than have room, and those that have
  pub size : ℕ
  pub records : List Record
  -- the distinct role names and methods by first appearance, and the declared names
  pub roles : List Text
  pub methods : List Text
  pub declared : List Text
  pub constraints : ℕ
  pub collections : ℕ
  pub patterns : ℕ
  pub lines : ℕ
  -- the number of the last constraint among the records, counted from 1; 0 where there is none
  pub last : ℕ

abbrev pub no_records : Ledger
no_records = record { size = 0; records = []; roles = []; methods = []; declared = []; constraints = 0; collections = 0; patterns = 0; lines = 0; last = 0 }

-- ---- the rules by what is kept
abbrev pub is_new_role : Ledger → Text → Bool
is_new_role L t = not (member t L.roles) && leb most_roles (length L.roles)

abbrev pub is_new_method : Ledger → Text → Bool
is_new_method L t = not (member t L.methods) && leb most_methods (length L.methods)

-- one more record of that kind is too many
unfoldable pub is_full : Ledger → Record → Bool
unfolding member is_star
is_full L r = elim r.kind [
  | Role ↦ leb most_roles (length L.declared) || is_new_role L r.field
  | Constraint ↦ leb most_constraints L.constraints
  | Allow ↦ not (is_star r.field) && is_new_role L r.field
  | Collection ↦ leb most_collections L.collections
  | Pattern ↦ leb most_patterns L.patterns
  | Method ↦ leb most_method_lines L.lines || is_new_method L r.field
  | Omit ↦ leb most_method_lines L.lines || is_new_method L r.field
  | End ↦ false
]

unfoldable pub ledger_fault : Ledger → Record → Option Fault
unfolding is_full member
ledger_fault L r =
    cond (has_bad_name r) (some bad_name)
    (cond (has_bad_pattern r) (some bad_pattern)
    (cond (is_kind Role r && member r.field L.declared) (some role_twice)
    (cond (is_full L r) (some past_most)
    none)))

-- ---- one more record
abbrev pub one_more : Bool → ℕ → ℕ
one_more b n = cond b (suc n) n

unfoldable pub kept : Ledger → Record → Ledger
unfolding known names_role
kept L r = record {
  size = one_more (leb L.size most_kept) L.size;
  records = cond (ltb L.size most_kept) (L.records ++ r ∷ []) L.records;
  roles = cond (names_role r) (known L.roles r.field) L.roles;
  methods = cond (names_method r) (known L.methods r.field) L.methods;
  declared = cond (is_kind Role r) (L.declared ++ r.field ∷ []) L.declared;
  constraints = one_more (is_kind Constraint r) L.constraints;
  collections = one_more (is_kind Collection r) L.collections;
  patterns = one_more (is_kind Pattern r) L.patterns;
  lines = one_more (names_method r) L.lines;
  last = cond (is_kind Constraint r) (suc L.size) L.last;
}

-- the last constraint is one with an authorization constraint
unfoldable pub marked : Ledger → Ledger
marked L = record {
  size = L.size;
  records = cond (eqb L.last 0) L.records (set L.records (L.last - 1) (record_of Constraint (bytes "auth")));
  roles = L.roles;
  methods = L.methods;
  declared = L.declared;
  constraints = L.constraints;
  collections = L.collections;
  patterns = L.patterns;
  lines = L.lines;
  last = L.last;
}

abbrev pub ledgered : Keeping Ledger
ledgered = record { breaks = ledger_fault; adds = kept; guards = marked }

-- ---- what is kept of these records
abbrev pub least : ℕ → ℕ → ℕ
least a b = cond (ltb a b) a b

-- behind i records, the number of the last constraint being z
unfoldable pub last_from : ℕ → ℕ → List Record → ℕ
last_from i z [] = z
last_from i z (r ∷ rs) = last_from (suc i) (cond (is_kind Constraint r) (suc (least (suc most_kept) i)) z) rs

unfoldable pub ledger_of : List Record → Ledger
unfolding roles_in methods_in declared_in count last_from
ledger_of rs = record {
  size = least (suc most_kept) (length rs);
  records = take most_kept rs;
  roles = roles_in rs;
  methods = methods_in rs;
  declared = declared_in rs;
  constraints = count Constraint rs;
  collections = count Collection rs;
  patterns = count Pattern rs;
  lines = count Method rs + count Omit rs;
  last = last_from 0 0 rs;
}
