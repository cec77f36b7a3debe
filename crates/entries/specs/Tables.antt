-- The work table: what stands in it as lists, what a record does to them, and the numbers that hold them.
use Rattle.std.specs.Prelude.{ℕ, ◌+◌, ◌-◌, ◌*◌, ◌/◌, ◌%◌, ◌≤◌, ◌≡◌, Bool, true, false, not, cond, List, [], ◌∷◌, ◌++◌, map, length, take, drop, get_or, eqb, ltb, leb, Some, None, Result, Ok, Err}
use Rattle.std.specs.Prelude.{Option as Maybe}
use Rattle.std.proofs.Math.Option.{Option, none, some}
use Rattle.std.specs.Int.Bits.{bit_or}
use Rattle.text.specs.Texts.{Text, bytes, same, run, on_last, part, index_of}
use Rattle.listings.specs.Records.{Record, may_follow}
use Rattle.names.specs.Names.{is_star, is_role_name, is_name, is_method_name, is_pattern, is_constraint_kind}
use Rattle.listings.specs.Heads.{is_first_method}
use Rattle.limits.specs.Limits.{most_bytes, most_constraints, most_collections, most_patterns, most_method_lines, most_roles, most_methods}
use Rattle.entries.specs.Room.{listing_room}
use Rattle.entries.specs.Sets.{with_member, without_member, everything, lowest}
use Rattle.listings.specs.declared.records.Kind.{Kind}
use Rattle.listings.specs.declared.records.Kind.TheVariants.{Role, Constraint, Allow, Collection, Pattern, Method, Omit, End}
use Rattle.listings.specs.declared.records.Stage.{Stage}
use Rattle.listings.specs.declared.records.Stage.TheVariants.{AfterFirst, AfterRole, AfterOpen, AfterAuth, AfterAllow, AfterCollection, AfterPattern, AfterMethod, AfterOmit, AfterEnd}
use Rattle.listings.specs.declared.answers.Fault.{Fault}
use Rattle.listings.specs.declared.answers.Fault.TheVariants.{WrongPlace, BadName, BadPattern, RoleTwice, PastMost}
use Rattle.entries.specs.declared.tables.Tally.{Tally}

-- ---- what stands in the table, as lists
-- stage and lines: where the reader stands, and the `method` and `omit` lines so far
-- declared: how many of the roles are declared
-- patterns, owners, parents: the `pattern` lines, each with the number of its collection and of its constraint, from 1
-- covers: for each collection the methods that it covers, and at the digits of no method those that nothing names
-- allows: for each constraint the roles that it allows
-- accesses: for each constraint 0 for `open`, 1 for `auth` without `allow`, 2 for `auth` with one
pub record Tables : Type 0 where
  pub stage : Stage
  pub lines : ℕ
  pub declared : ℕ
  pub roles : List Text
  pub methods : List Text
  pub patterns : List Text
  pub owners : List ℕ
  pub parents : List ℕ
  pub covers : List ℕ
  pub allows : List ℕ
  pub accesses : List ℕ

abbrev pub start_tables : Tables
start_tables = record {
  stage = AfterFirst;
  lines = 0;
  declared = 0;
  roles = [];
  methods = [];
  patterns = [];
  owners = [];
  parents = [];
  covers = [];
  allows = [];
  accesses = [];
}

-- t put behind them, if it is none of them
unfoldable pub indexed : Text → List Text → List Text
unfolding index_of
indexed t us = cond (ltb (index_of t us) (length us)) us (us ++ t ∷ [])

-- ---- what a record adds
abbrev pub add_role : Tables → Text → Tables
add_role T n = record {
  stage = AfterRole;
  lines = T.lines;
  declared = T.declared + 1;
  roles = T.roles ++ n ∷ [];
  methods = T.methods;
  patterns = T.patterns;
  owners = T.owners;
  parents = T.parents;
  covers = T.covers;
  allows = T.allows;
  accesses = T.accesses;
}

abbrev pub add_constraint : Tables → Text → Tables
add_constraint T word = record {
  stage = cond (same word (bytes "open")) AfterOpen AfterAuth;
  lines = T.lines;
  declared = T.declared;
  roles = T.roles;
  methods = T.methods;
  patterns = T.patterns;
  owners = T.owners;
  parents = T.parents;
  covers = T.covers;
  allows = T.allows ++ 0 ∷ [];
  accesses = T.accesses ++ cond (same word (bytes "open")) 0 1 ∷ [];
}

-- the roles that `allow⇥NAME` adds to the set x
abbrev pub add_allow_to : Tables → Text → ℕ → ℕ
add_allow_to T n x = cond (is_star n) (bit_or x (lowest T.declared)) (with_member x (index_of n T.roles))

abbrev pub add_allow : Tables → Text → Tables
add_allow T n = record {
  stage = AfterAllow;
  lines = T.lines;
  declared = T.declared;
  roles = cond (is_star n) T.roles (indexed n T.roles);
  methods = T.methods;
  patterns = T.patterns;
  owners = T.owners;
  parents = T.parents;
  covers = T.covers;
  allows = on_last (add_allow_to T n) T.allows;
  accesses = on_last (λ (x : ℕ). 2) T.accesses;
}

abbrev pub add_collection : Tables → Text → Tables
add_collection T t = record {
  stage = AfterCollection;
  lines = T.lines;
  declared = T.declared;
  roles = T.roles;
  methods = T.methods;
  patterns = T.patterns;
  owners = T.owners;
  parents = T.parents;
  covers = T.covers ++ everything ∷ [];
  allows = T.allows;
  accesses = T.accesses;
}

abbrev pub add_pattern : Tables → Text → Tables
add_pattern T t = record {
  stage = AfterPattern;
  lines = T.lines;
  declared = T.declared;
  roles = T.roles;
  methods = T.methods;
  patterns = T.patterns ++ t ∷ [];
  owners = T.owners ++ length T.covers ∷ [];
  parents = T.parents ++ length T.accesses ∷ [];
  covers = T.covers;
  allows = T.allows;
  accesses = T.accesses;
}

abbrev pub add_method_to : Tables → Text → ℕ → ℕ
add_method_to T m x = with_member (cond (is_first_method T.stage) 0 x) (index_of m T.methods)

abbrev pub add_method : Tables → Text → Tables
add_method T m = record {
  stage = AfterMethod;
  lines = T.lines + 1;
  declared = T.declared;
  roles = T.roles;
  methods = indexed m T.methods;
  patterns = T.patterns;
  owners = T.owners;
  parents = T.parents;
  covers = on_last (add_method_to T m) T.covers;
  allows = T.allows;
  accesses = T.accesses;
}

abbrev pub add_omit : Tables → Text → Tables
add_omit T m = record {
  stage = AfterOmit;
  lines = T.lines + 1;
  declared = T.declared;
  roles = T.roles;
  methods = indexed m T.methods;
  patterns = T.patterns;
  owners = T.owners;
  parents = T.parents;
  covers = on_last (λ (x : ℕ). without_member x (index_of m T.methods)) T.covers;
  allows = T.allows;
  accesses = T.accesses;
}

-- what `method⇥NAME` adds, or `omit⇥NAME` where the line omits: the set of methods that it leaves, and the stage
abbrev pub add_line : Bool → Tables → Text → Tables
add_line true T m = add_omit T m
add_line false T m = add_method T m

abbrev pub marked : Bool → Bool → ℕ → ℕ → ℕ
marked true fresh x i = without_member x i
marked false fresh x i = with_member (cond fresh 0 x) i

abbrev pub stage_behind : Bool → Stage
stage_behind true = AfterOmit
stage_behind false = AfterMethod

abbrev pub add_end : Tables → Text → Tables
add_end T t = record {
  stage = AfterEnd;
  lines = T.lines;
  declared = T.declared;
  roles = T.roles;
  methods = T.methods;
  patterns = T.patterns;
  owners = T.owners;
  parents = T.parents;
  covers = T.covers;
  allows = T.allows;
  accesses = T.accesses;
}

-- what a record of that kind adds
unfoldable pub field_add : Kind → Tables → Text → Tables
unfolding index_of indexed on_last is_star same
field_add Role T t = add_role T t
field_add Constraint T t = add_constraint T t
field_add Allow T t = add_allow T t
field_add Collection T t = add_collection T t
field_add Pattern T t = add_pattern T t
field_add Method T t = add_method T t
field_add Omit T t = add_omit T t
field_add End T t = add_end T t

abbrev pub tables_with : Tables → Record → Tables
tables_with T r = field_add r.kind T r.field

-- the tables of those records
unfoldable pub tables_of : List Record → Tables
unfolding run field_add
tables_of rs = run tables_with start_tables rs

-- ---- what refuses a record
abbrev pub check_role : Tables → Text → Option Fault
check_role T n =
    cond (not (is_role_name n)) (some BadName)
    (cond (ltb (index_of n T.roles) (length T.roles)) (some RoleTwice)
    (cond (leb most_roles (length T.roles)) (some PastMost)
    none))

abbrev pub check_constraint : Tables → Text → Option Fault
check_constraint T word =
    cond (not (is_constraint_kind word)) (some BadName)
    (cond (leb most_constraints (length T.accesses)) (some PastMost)
    none)

abbrev pub check_allow : Tables → Text → Option Fault
check_allow T n =
    cond (not (is_name n)) (some BadName)
    (cond (is_star n) none
    (cond (ltb (index_of n T.roles) (length T.roles)) none
    (cond (leb most_roles (length T.roles)) (some PastMost)
    none)))

abbrev pub check_collection : Tables → Text → Option Fault
check_collection T t = cond (leb most_collections (length T.covers)) (some PastMost) none

abbrev pub check_pattern : Tables → Text → Option Fault
check_pattern T t =
    cond (not (is_pattern t)) (some BadPattern)
    (cond (leb most_patterns (length T.patterns)) (some PastMost)
    none)

abbrev pub check_method : Tables → Text → Option Fault
check_method T m =
    cond (not (is_method_name m)) (some BadName)
    (cond (leb most_method_lines T.lines) (some PastMost)
    (cond (ltb (index_of m T.methods) (length T.methods)) none
    (cond (leb most_methods (length T.methods)) (some PastMost)
    none)))

-- what refuses a record of that kind that may follow
unfoldable pub field_check : Kind → Tables → Text → Option Fault
unfolding index_of
field_check Role T t = check_role T t
field_check Constraint T t = check_constraint T t
field_check Allow T t = check_allow T t
field_check Collection T t = check_collection T t
field_check Pattern T t = check_pattern T t
field_check Method T t = check_method T t
field_check Omit T t = check_method T t
field_check End T t = none

unfoldable pub check_record : Tables → Record → Option Fault
unfolding field_check
check_record T r = cond (may_follow T.stage r.kind) (field_check r.kind T r.field) (some WrongPlace)

-- ---- a step, a line, and all of them
pub data Stepping : Type 0 where
  next : Tables → Stepping
  wrong : Fault → Stepping

abbrev pub stepped_by : Option Fault → Tables → Stepping
stepped_by none T = next T
stepped_by (some f) T = wrong f

abbrev pub record_with : Kind → Text → Record
record_with k t = record { kind = k; field = t }

unfoldable pub step_from : Tables → Record → Stepping
unfolding check_record field_add
step_from T r = stepped_by (check_record T r) (tables_with T r)

-- ---- the numbers of the table
-- where each list begins; covers, allows and accesses are counted from 1, and the number at their index 0 means nothing
abbrev pub roles_at : ℕ
roles_at = 0

abbrev pub methods_at : ℕ
methods_at = 32

abbrev pub patterns_at : ℕ
patterns_at = 64

abbrev pub owners_at : ℕ
owners_at = 192

abbrev pub parents_at : ℕ
parents_at = 320

abbrev pub covers_at : ℕ
covers_at = 448

abbrev pub allows_at : ℕ
allows_at = 580

abbrev pub accesses_at : ℕ
accesses_at = 650

-- n numbers of the table from offset a on
unfoldable pub region : List ℕ → ℕ → ℕ → List ℕ
region w a n = take n (drop a w)

-- a text's last two bytes (a single one counts twice) and its length, in 16 binary digits
unfoldable pub stamp_of : Text → ℕ
stamp_of t = (get_or t (length t - 2) 0 % 256 * 16 + get_or t (length t - 1) 0 % 256) % 256 * 256 + length t % 256

-- the number that names the text of s from a up to e: its offset, and its stamp
abbrev pub packed : Text → ℕ → ℕ → ℕ
packed s a e = a * 65536 + stamp_of (part a e s)

-- the text of that stamp, if it has it
unfoldable pub stamped : Text → ℕ → Text
unfolding stamp_of
stamped t k = cond (eqb (stamp_of t) k) t []

-- the text that a number names: as long as it says, at the offset that it says, and none where that has another stamp
unfoldable pub text_at : Text → ℕ → Text
unfolding stamped
text_at s x = stamped (take (x % 256) (drop (x / 65536) s)) (x % 65536)

unfoldable pub texts_at : Text → List ℕ → List Text
unfolding text_at
texts_at s xs = map (text_at s) xs

-- the index of t among the texts, and none where it is none of them
abbrev pub found : Text → List Text → Maybe ℕ
found t us = cond (ltb (index_of t us) (length us)) (Some (index_of t us)) None

-- nothing looks for a pattern's text among the others: its number is its offset and its length alone
abbrev pub spanned : ℕ → ℕ → ℕ
spanned a e = a * 65536 + (e - a)

-- the text of that offset and length, and none where it would run past the end
unfoldable pub span_at : Text → ℕ → Text
span_at s x = cond (leb (x / 65536 + x % 65536) (length s)) (take (x % 65536) (drop (x / 65536) s)) []

unfoldable pub spans_at : Text → List ℕ → List Text
unfolding span_at
spans_at s xs = map (span_at s) xs

-- the table's numbers as lists, by the counts
unfoldable pub tables_at : Text → Tally → List ℕ → Tables
unfolding region texts_at spans_at
tables_at s t w = record {
  stage = t.stage;
  lines = t.lines;
  declared = t.declared;
  roles = texts_at s (region w roles_at t.roles);
  methods = texts_at s (region w methods_at t.methods);
  patterns = spans_at s (region w patterns_at t.patterns);
  owners = region w owners_at t.patterns;
  parents = region w parents_at t.patterns;
  covers = region w (covers_at + 1) t.collections;
  allows = region w (allows_at + 1) t.constraints;
  accesses = region w (accesses_at + 1) t.constraints;
}

-- the counts within their limits, the text too, and the room for them
pub record Fits (s : Text) (t : Tally) (w : List ℕ) : Type 0 where
  pub short : length s ≤ most_bytes
  pub room : listing_room ≤ length w
  pub declared : t.declared ≤ t.roles
  pub roles : t.roles ≤ most_roles
  pub methods : t.methods ≤ most_methods
  pub patterns : t.patterns ≤ most_patterns
  pub lines : t.lines ≤ most_method_lines
  pub collections : t.collections ≤ most_collections
  pub constraints : t.constraints ≤ most_constraints

-- ---- the program's answers in those terms
abbrev pub step_shown : Text → Result Tally Fault → List ℕ → Stepping
step_shown s (Ok t) w = next (tables_at s t w)
step_shown s (Err f) w = wrong f

abbrev pub StepFits : Text → Result Tally Fault → List ℕ → Type 0
StepFits s (Ok t) w = Fits s t w
StepFits s (Err f) w = Unit {0}

pub record StepOutcome (s : Text) (due : Stepping) (out : Result Tally Fault) (w : List ℕ) : Type 0 where
  pub answer : step_shown s out w ≡ due
  pub fits : StepFits s out w

-- a record's field in the text, and counts that fit
pub record Field (s : Text) (t : Tally) (w : List ℕ) (a e : ℕ) : Type 0 where
  pub fits : Fits s t w
  pub from : a ≤ e
  pub to : e ≤ length s

-- the outcome of a step with the field from a up to e
abbrev pub Steps : (Tables → Text → Option Fault) → (Tables → Text → Tables) → Text → Tally → List ℕ → ℕ → ℕ → Result Tally Fault → List ℕ → Type 0
Steps check add s t w a e out left =
    StepOutcome s (stepped_by (check (tables_at s t w) (part a e s)) (add (tables_at s t w) (part a e s))) out left
