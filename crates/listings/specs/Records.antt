-- The records of a listing, and which may follow which.
use Rattle.std.specs.Prelude.{ℕ, Bool, false, not, cond, ◌&&◌, ◌||◌, List, [], ◌∷◌, eqb}
use Rattle.std.specs.Prelude.{Some, None}
use Rattle.std.specs.Prelude.{Option as Maybe}
use Rattle.std.proofs.Math.Option.{Option, none, some}
use Rattle.text.specs.Texts.{Text, bytes, same, distinct}
use Rattle.text.specs.Lines.{Line, fields_of}
use Rattle.names.specs.Names.{is_star}
use Rattle.listings.specs.declared.records.Kind.{Kind}
use Rattle.listings.specs.declared.records.Kind.TheVariants.{Role, Constraint, Allow, Collection, Pattern, Method, Omit, End}
use Rattle.listings.specs.declared.records.Stage.{Stage}
use Rattle.listings.specs.declared.records.Stage.TheVariants.{AfterFirst, AfterRole, AfterOpen, AfterAuth, AfterAllow, AfterCollection, AfterPattern, AfterMethod, AfterOmit, AfterEnd}

-- a record: its kind, and the field behind its name (none behind `collection` and `end`)
pub record Record : Type 0 where
  pub kind : Kind
  pub field : Text

-- ---- a line's record
-- what a record's name says: a kind, or nothing that is known
abbrev pub Named : Type 0
Named = Maybe Kind

-- the names that stand alone
unfoldable pub alone : Text → Named
unfolding same
alone n =
    cond (same n (bytes "collection")) (Some Collection)
    (cond (same n (bytes "end")) (Some End)
    None)

-- the names that a field follows
unfoldable pub with_field : Text → Named
unfolding same
with_field n =
    cond (same n (bytes "role")) (Some Role)
    (cond (same n (bytes "constraint")) (Some Constraint)
    (cond (same n (bytes "allow")) (Some Allow)
    (cond (same n (bytes "pattern")) (Some Pattern)
    (cond (same n (bytes "method")) (Some Method)
    (cond (same n (bytes "omit")) (Some Omit)
    None)))))

abbrev pub record_named : Named → Text → Option Record
record_named (Some k) f = some (record { kind = k; field = f })
record_named None f = none

-- the record of a line's fields; none where the name is unknown or the number of fields wrong
unfoldable pub record_of : List Text → Option Record
unfolding alone with_field
record_of [] = none
record_of (n ∷ []) = record_named (alone n) []
record_of (n ∷ f ∷ []) = record_named (with_field n) f
record_of (n ∷ f ∷ g ∷ gs) = none

-- the record of a line; none also where it lacks its byte 10
unfoldable pub formed : Line → Option Record
unfolding record_of fields_of
formed l = cond l.ended (record_of (fields_of l.bytes)) none

-- ---- what may follow what
-- where a record leaves the reader; `constraint⇥open` and `constraint⇥auth` differ
unfoldable pub stage_of : Record → Stage
unfolding same
stage_of r = elim r.kind [
  | Role ↦ AfterRole
  | Constraint ↦ cond (same r.field (bytes "open")) AfterOpen AfterAuth
  | Allow ↦ AfterAllow
  | Collection ↦ AfterCollection
  | Pattern ↦ AfterPattern
  | Method ↦ AfterMethod
  | Omit ↦ AfterOmit
  | End ↦ AfterEnd
]

-- the stage after the records since the first line
unfoldable pub stage_after : List Record → Stage
unfolding stage_of
stage_after [] = AfterFirst
stage_after (r ∷ []) = stage_of r
stage_after (r ∷ q ∷ rs) = stage_after (q ∷ rs)

-- the table of 01, "may follow"
abbrev pub follows : Kind → List Stage
follows Role = AfterFirst ∷ AfterRole ∷ []
follows Constraint = AfterFirst ∷ AfterRole ∷ AfterPattern ∷ AfterMethod ∷ AfterOmit ∷ []
follows Allow = AfterAuth ∷ AfterAllow ∷ []
follows Collection = AfterOpen ∷ AfterAuth ∷ AfterAllow ∷ AfterPattern ∷ AfterMethod ∷ AfterOmit ∷ []
follows Pattern = AfterCollection ∷ AfterPattern ∷ []
follows Method = AfterPattern ∷ AfterMethod ∷ []
follows Omit = AfterPattern ∷ AfterOmit ∷ []
follows End = AfterFirst ∷ AfterRole ∷ AfterPattern ∷ AfterMethod ∷ AfterOmit ∷ []

-- stages and kinds told apart by a number each
abbrev pub stage_number : Stage → ℕ
stage_number AfterFirst = 0
stage_number AfterRole = 1
stage_number AfterOpen = 2
stage_number AfterAuth = 3
stage_number AfterAllow = 4
stage_number AfterCollection = 5
stage_number AfterPattern = 6
stage_number AfterMethod = 7
stage_number AfterOmit = 8
stage_number AfterEnd = 9

abbrev pub kind_number : Kind → ℕ
kind_number Role = 0
kind_number Constraint = 1
kind_number Allow = 2
kind_number Collection = 3
kind_number Pattern = 4
kind_number Method = 5
kind_number Omit = 6
kind_number End = 7

-- p is one of the stages
unfoldable pub is_among : Stage → List Stage → Bool
is_among p [] = false
is_among p (q ∷ qs) = eqb (stage_number p) (stage_number q) || is_among p qs

-- a record of kind k may stand at stage p
unfoldable pub may_follow : Stage → Kind → Bool
unfolding is_among
may_follow p k = is_among p (follows k)

-- ---- what the records name
abbrev pub is_kind : Kind → Record → Bool
is_kind k r = eqb (kind_number r.kind) (kind_number k)

-- the fields of the records that pass, in order
unfoldable pub fields_where : (Record → Bool) → List Record → List Text
fields_where test [] = []
fields_where test (r ∷ rs) = cond (test r) (r.field ∷ fields_where test rs) (fields_where test rs)

-- the record declares a role, or allows one by name
unfoldable pub names_role : Record → Bool
unfolding is_star
names_role r = is_kind Role r || (is_kind Allow r && not (is_star r.field))

-- the record names a method
abbrev pub names_method : Record → Bool
names_method r = is_kind Method r || is_kind Omit r

-- the role names declared, in order
unfoldable pub declared_in : List Record → List Text
unfolding fields_where
declared_in rs = fields_where (is_kind Role) rs

-- the distinct role names, declared or allowed, by first appearance
unfoldable pub roles_in : List Record → List Text
unfolding fields_where distinct
roles_in rs = distinct (fields_where names_role rs)

-- the distinct methods by first appearance
unfoldable pub methods_in : List Record → List Text
unfolding fields_where distinct
methods_in rs = distinct (fields_where names_method rs)
