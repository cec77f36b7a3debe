-- A ledger as numbers in the work table: a record is eight times the place of its text in the file and the number of its kind.
use Rattle.std.specs.Prelude.{Result, Ok, Err, ℕ, ◌+◌, ◌-◌, ◌*◌, ◌/◌, ◌%◌, ◌≤◌, ◌<◌, ◌≡◌, cond, List, [], map, length, take, drop, get_or, set, eqb, ltb}
use Rattle.std.proofs.Math.Option.{Option, none, some}
use Rattle.text.specs.Texts.{Text, bytes}
use Rattle.documents.specs.Parts.{Fault, bad_name, bad_pattern, got, fault, letters, trimmed}
use Rattle.listings.specs.Records.{Record}
use Rattle.listings.specs.declared.records.Kind.{Kind}
use Rattle.listings.specs.declared.records.Kind.TheVariants.{Role, Constraint, Allow, Collection, Pattern, Method, Omit}
use Rattle.portals.specs.Records.{record_of}
use Rattle.portals.specs.Outcomes.{most_xml}
use Rattle.markup.specs.declared.answers.Cause.{Cause}
use Rattle.markup.specs.Places.{cause_of}
use Rattle.ledger.specs.declared.items.Item.{Item}
use Rattle.ledger.specs.declared.items.Item.TheVariants as Items
use Rattle.ledger.specs.Ledgers.{Ledger, most_kept, least, kept, marked, ledger_fault}

-- ---- where what stands
abbrev pub roles_at : ℕ
roles_at = 3600

abbrev pub methods_at : ℕ
methods_at = 3632

abbrev pub declared_at : ℕ
declared_at = 3664

abbrev pub size_at : ℕ
size_at = 3700

abbrev pub role_count_at : ℕ
role_count_at = 3701

abbrev pub method_count_at : ℕ
method_count_at = 3702

abbrev pub declared_count_at : ℕ
declared_count_at = 3703

abbrev pub constraints_at : ℕ
constraints_at = 3704

abbrev pub collections_at : ℕ
collections_at = 3705

abbrev pub patterns_at : ℕ
patterns_at = 3706

abbrev pub lines_at : ℕ
lines_at = 3707

abbrev pub last_at : ℕ
last_at = 3708

-- ---- what a number says
-- the text at a place of the file: the letters up to the next tag, without the white space round them
unfoldable pub text_at : Text → ℕ → Text
unfolding letters trimmed
text_at s p = elim (letters 0 (drop p s)) [ got t r ↦ trimmed t | fault e n ↦ [] ]

-- the number of a record's kind in the table
abbrev pub number_of : Item → ℕ
number_of Items.Role = 0
number_of Items.Open = 1
number_of Items.Auth = 2
number_of Items.Allow = 3
number_of Items.Collection = 4
number_of Items.Pattern = 5
number_of Items.Method = 6
number_of Items.Omit = 7

-- 0 role, 1 open constraint, 2 constraint with an authorization constraint, 3 allow, 4 collection, 5 pattern, 6 method, 7 omit
abbrev pub kind_by : ℕ → Kind
kind_by k =
    cond (eqb k 0) Role
    (cond (eqb k 1) Constraint
    (cond (eqb k 2) Constraint
    (cond (eqb k 3) Allow
    (cond (eqb k 4) Collection
    (cond (eqb k 5) Pattern
    (cond (eqb k 6) Method
    Omit))))))

unfoldable pub field_by : Text → ℕ → ℕ → Text
unfolding text_at
field_by s k p = cond (eqb k 1) (bytes "open") (cond (eqb k 2) (bytes "auth") (cond (eqb k 4) [] (text_at s p)))

abbrev pub record_by : Text → ℕ → ℕ → Record
record_by s k p = record_of (kind_by k) (field_by s k p)

abbrev pub record_at : Text → ℕ → Record
record_at s x = record_by s (x % 8) (x / 8)

-- a name as a number: the place of its text, and the last byte and the length of that, which tell most names apart without a look at the file
unfoldable pub stamp_of : Text → ℕ
stamp_of t = get_or t (length t - 1) 0 % 256 * 64 + length t % 64

abbrev pub name_by : Text → ℕ → Text
name_by t x = cond (eqb (stamp_of t) (x % 16384)) t []

-- the name that the number x says; none where the text there has another stamp
unfoldable pub name_at : Text → ℕ → Text
unfolding text_at stamp_of
name_at s x = name_by (text_at s (x / 16384)) x

-- n names, from the place a of the table on
unfoldable pub names_at : Text → ℕ → ℕ → List ℕ → List Text
unfolding name_at
names_at s a n w = map (name_at s) (take n (drop a w))

unfoldable pub records_at : Text → ℕ → List ℕ → List Record
unfolding field_by
records_at s n w = map (record_at s) (take (least n most_kept) w)

unfoldable pub ledger_at : Text → List ℕ → Ledger
unfolding names_at records_at
ledger_at s w = record {
  size = get_or w size_at 0;
  records = records_at s (get_or w size_at 0) w;
  roles = names_at s roles_at (get_or w role_count_at 0) w;
  methods = names_at s methods_at (get_or w method_count_at 0) w;
  declared = names_at s declared_at (get_or w declared_count_at 0) w;
  constraints = get_or w constraints_at 0;
  collections = get_or w collections_at 0;
  patterns = get_or w patterns_at 0;
  lines = get_or w lines_at 0;
  last = get_or w last_at 0;
}

-- the counts are such that everything stands in its own part of the table
pub record Fits (w : List ℕ) : Type 0 where
  pub room : 4096 ≤ length w
  pub size : get_or w size_at 0 ≤ 3601
  pub roles : get_or w role_count_at 0 ≤ 32
  pub methods : get_or w method_count_at 0 ≤ 31
  pub declared : get_or w declared_count_at 0 ≤ 32
  pub constraints : get_or w constraints_at 0 ≤ 64
  pub collections : get_or w collections_at 0 ≤ 128
  pub patterns : get_or w patterns_at 0 ≤ 128
  pub lines : get_or w lines_at 0 ≤ 512
  pub last : get_or w last_at 0 ≤ 3602

-- ---- what is written of a record
-- the number of the name t at place p of the file
abbrev pub name_number : ℕ → Text → ℕ
name_number p t = p * 16384 + stamp_of t

-- one more of what is counted at c
abbrev pub with_one : ℕ → List ℕ → List ℕ
with_one c w = set w c (get_or w c 0 + 1)

-- the name x, whose place among those from a on, which are counted at c, is i: put behind them, where i is their number
abbrev pub with_name : ℕ → ℕ → ℕ → ℕ → List ℕ → List ℕ
with_name a c i x w = cond (eqb i (get_or w c 0)) (set (set w (a + i) x) c (i + 1)) w

-- the record x behind n others: put there where there is room, and counted up to one more than have room
abbrev pub record_put : ℕ → ℕ → List ℕ → List ℕ
record_put n x w = cond (ltb n most_kept) (set (set w n x) size_at (n + 1)) (cond (eqb n most_kept) (set w size_at (n + 1)) w)

abbrev pub with_record : ℕ → List ℕ → List ℕ
with_record x w = record_put (get_or w size_at 0) x w

-- the next record is the last constraint
abbrev pub with_last : List ℕ → List ℕ
with_last w = set w last_at (get_or w size_at 0 + 1)

-- ---- what adding a record comes to
-- the rule that it breaks, or the ledger with it
abbrev pub AddedBy : Option Fault → Ledger → Record → Text → Result (Unit {0}) Cause → List ℕ → Type 0
AddedBy none L r s n w = (n ≡ Ok tt) × (ledger_at s w ≡ kept L r)
AddedBy (some f) L r s n w = n ≡ Err (cause_of f)

pub record Added (s : Text) (L : Ledger) (r : Record) (n : Result (Unit {0}) Cause) (w : List ℕ) : Type 0 where
  pub answer : AddedBy (ledger_fault L r) L r s n w
  pub fits : Fits w

-- a record of the kind k, whose text at place p of the file is t
pub record Offered (s : Text) (w : List ℕ) (k p : ℕ) (t : Text) : Type 0 where
  pub file : length s ≤ most_xml
  pub kind : k < 8
  pub place : p ≤ most_xml
  pub text : field_by s k p ≡ t
  pub fits : Fits w

-- it is added to what the table holds
abbrev pub Judged : Text → List ℕ → ℕ → ℕ → Result (Unit {0}) Cause → List ℕ → Type 0
Judged s w k p n w' = Added s (ledger_at s w) (record_by s k p) n w'

-- its field is a text of the file
abbrev pub HasText : ℕ → Type 0
HasText k = (k ≡ 1 → ⊥) × (k ≡ 2 → ⊥) × (k ≡ 4 → ⊥)

-- the last constraint, of whatever file, is one with an authorization constraint
pub record Guarded (w w' : List ℕ) : Type 0 where
  pub ledger : (s : Text) → ledger_at s w' ≡ marked (ledger_at s w)
  pub fits : Fits w'

-- a name that is looked for is not empty, and short enough to be read out of the file again
pub record Sought (s t : Text) : Type 0 where
  pub file : length s ≤ most_xml
  pub full : 1 ≤ length t
  pub short : length t ≤ 255

-- the rule that a text of over 255 bytes breaks
abbrev pub long_fault : ℕ → Fault
long_fault k = cond (eqb k 5) bad_pattern bad_name
