-- What a file gives, as the records of a listing in the file's order; and when a record breaks a rule of 01.
use Rattle.std.specs.Prelude.{Bool, false, not, cond, ◌&&◌, ◌||◌, List, [], ◌∷◌, ◌++◌}
use Rattle.std.proofs.Math.Option.{Option, none, some}
use Rattle.text.specs.Texts.{Text, bytes}
use Rattle.documents.specs.Parts.{Fault, bad_name, bad_pattern, role_twice, past_most}
use Rattle.listings.specs.Records.{Record, is_kind}
use Rattle.listings.specs.Refusals.{has_bad_name, has_bad_pattern, declares_again, passes_most}
use Rattle.listings.specs.declared.records.Kind.{Kind}
use Rattle.listings.specs.declared.records.Kind.TheVariants.{Constraint}
use Rattle.portals.specs.Elements.{Effect, nothing, guards, adds}

abbrev pub record_of : Kind → Text → Record
record_of k t = record { kind = k; field = t }

-- "then 01's 6, 7, 9, 8": the first rule that a record breaks, by the records before it in the file
unfoldable pub first_fault : List Record → Record → Option Fault
first_fault before r =
    cond (has_bad_name r) (some bad_name)
    (cond (has_bad_pattern r) (some bad_pattern)
    (cond (declares_again before r) (some role_twice)
    (cond (passes_most before r) (some past_most)
    none)))

-- one of the records is a constraint
unfoldable pub any_constraint : List Record → Bool
any_constraint [] = false
any_constraint (r ∷ rs) = is_kind Constraint r || any_constraint rs

-- the last constraint has an authorization constraint: `auth` for `open`
unfoldable pub guarded : List Record → List Record
unfolding any_constraint
guarded [] = []
guarded (r ∷ rs) = cond (is_kind Constraint r && not (any_constraint rs)) (record_of Constraint (bytes "auth") ∷ rs) (r ∷ guarded rs)

-- the records after an element has begun; a record that breaks a rule is none
unfoldable pub added : List Record → Record → Option (List Record)
unfolding first_fault
added before r = elim (first_fault before r) [ none ↦ some (before ++ r ∷ []) | some f ↦ none ]

unfoldable pub effected : Effect → List Record → Option (List Record)
unfolding guarded added
effected nothing rs = some rs
effected guards rs = some (guarded rs)
effected (adds k t) rs = added rs (record_of k t)
