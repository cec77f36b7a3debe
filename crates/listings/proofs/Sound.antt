-- What is known of the records of an accepted listing: each passes every rule behind the records before it.
use mathlib.Core.Path.{◌≡◌, refl, sym, ◌∙◌}
use mathlib.Core.Bool.{Bool, true, false, not, cond}
use mathlib.Core.List.{List, [], ◌∷◌, ◌++◌}
use mathlib.Core.Option.{Option, none, some, some-ne-none}
use Prim.Native.Nat.{ℕ, ◌+◌, ◌≤◌}
use lib.ListN.{length}
use lib.Dec.{ltb}
use borrow.Author.Tests.{ltb-false}
use Rattle.text.specs.Texts.{first, run, distinct}
use Rattle.listings.specs.Records.{Record, stage_after, may_follow, fields_where, roles_in, methods_in}
use Rattle.listings.specs.Fields.{name_fits, pattern_fits}
use Rattle.limits.specs.Limits.{most_constraints, most_collections, most_patterns, most_method_lines, most_roles, most_methods}
use Rattle.listings.specs.Counts.{count, too_many}
use Rattle.listings.specs.Refusals.{in_wrong_place, declares_again, breaks, first_broken}
use Rattle.listings.specs.declared.records.Kind.TheVariants.{Constraint, Collection, Pattern, Method, Omit}
use Rattle.listings.specs.declared.answers.Fault.{Fault}
use Rattle.listings.specs.declared.answers.Fault.TheVariants.{WrongPlace, BadName, BadPattern, RoleTwice, PastMost}
use Rattle.text.proofs.Truths.{or_left, or_right}

-- the record breaks no rule behind those before it
pub record Passes (before : List Record) (r : Record) : Type 0 where
  pub stage : may_follow (stage_after before) r.kind ≡ true
  pub name : name_fits r ≡ true
  pub pattern : pattern_fits r ≡ true
  pub once : declares_again before r ≡ false
  pub few : too_many (before ++ r ∷ []) ≡ false

-- each record passes behind those before it
pub data Sound : List Record → Type 0 where
  sound_none : Sound []
  sound_more : (before : List Record) (r : Record) → Sound before → Passes before r → Sound (before ++ r ∷ [])

-- the ladder of the rules in their order
abbrev pub fault_by : Bool → Bool → Bool → Bool → Bool → Option Fault
fault_by stage name pattern again past =
    cond (not stage) (some WrongPlace)
    (cond (not name) (some BadName)
    (cond (not pattern) (some BadPattern)
    (cond again (some RoleTwice)
    (cond past (some PastMost)
    none))))

-- the first rule broken is that ladder's
pub first_broken_lem : (before : List Record) (r : Record) →
    first_broken before r
    ≡ fault_by (may_follow (stage_after before) r.kind) (name_fits r) (pattern_fits r) (declares_again before r) (too_many (before ++ r ∷ []))
unfolding first_broken first breaks in_wrong_place
first_broken_lem before r = refl

-- a record that breaks none passes
pub passes : (before : List Record) (r : Record) → first_broken before r ≡ none → Passes before r
passes before r e =
    let h = go _ (name_fits r) (pattern_fits r) (declares_again before r) (too_many (before ++ r ∷ [])) (sym (first_broken_lem before r) ∙ e) in
    record { stage = h.0; name = h.1; pattern = h.2; once = h.3; few = h.4 }
  where
    go : (a b c d e : Bool) → fault_by a b c d e ≡ none → (a ≡ true) × (b ≡ true) × (c ≡ true) × (d ≡ false) × (e ≡ false)
    go false b c d e h = absurd (some-ne-none WrongPlace h)
    go true false c d e h = absurd (some-ne-none BadName h)
    go true true false d e h = absurd (some-ne-none BadPattern h)
    go true true true true e h = absurd (some-ne-none RoleTwice h)
    go true true true false true h = absurd (some-ne-none PastMost h)
    go true true true false false h = (refl, refl, refl, refl, refl)

-- ---- no count is too large
-- numbers of constraints, collections, patterns, `method` and `omit` lines, roles and methods, none past its most
pub record Within (a b c d e f : ℕ) : Type 0 where
  pub constraints : a ≤ most_constraints
  pub collections : b ≤ most_collections
  pub patterns : c ≤ most_patterns
  pub lines : d ≤ most_method_lines
  pub roles : e ≤ most_roles
  pub methods : f ≤ most_methods

-- no count of the records is past its most
abbrev pub Few : List Record → Type 0
Few rs = Within (count Constraint rs) (count Collection rs) (count Pattern rs) (count Method rs + count Omit rs) (length (roles_in rs)) (length (methods_in rs))

-- records that are not too many
pub few : (rs : List Record) → too_many rs ≡ false → Few rs
unfolding too_many
few rs h =
    let h₁ = or_right (ltb most_constraints (count Constraint rs)) _ h in
    let h₂ = or_right (ltb most_collections (count Collection rs)) _ h₁ in
    let h₃ = or_right (ltb most_patterns (count Pattern rs)) _ h₂ in
    let h₄ = or_right (ltb most_method_lines (count Method rs + count Omit rs)) _ h₃ in
    record {
      constraints = ltb-false most_constraints (count Constraint rs) (or_left _ _ h);
      collections = ltb-false most_collections (count Collection rs) (or_left _ _ h₁);
      patterns = ltb-false most_patterns (count Pattern rs) (or_left _ _ h₂);
      lines = ltb-false most_method_lines (count Method rs + count Omit rs) (or_left _ _ h₃);
      roles = ltb-false most_roles (length (roles_in rs)) (or_left _ _ h₄);
      methods = ltb-false most_methods (length (methods_in rs)) (or_right (ltb most_roles (length (roles_in rs))) _ h₄);
    }

-- no count of sound records is
pub sound_few : (rs : List Record) → Sound rs → Few rs
unfolding too_many count roles_in methods_in fields_where distinct run
sound_few rs sound_none = few [] refl
sound_few rs (sound_more before r s p) = few (before ++ r ∷ []) p.few
