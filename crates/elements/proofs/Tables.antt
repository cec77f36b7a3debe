-- Where an element of a sort is out of place, and where something is missing: the checker computes it, phase by phase.
use mathlib.Core.Path.{◌≡◌, refl}
use mathlib.Core.Bool.{true}
use Rattle.portals.specs.Elements.{misplaced, opening, found, is_complete}
use Rattle.elements.specs.declared.rows.Phase.{Phase}
use Rattle.elements.specs.declared.rows.Phase.TheVariants.{InApp, InRole, InConstraint, InCollected, InCollection, InPatterned, InMethods, InOmissions, InAuth, PassedOver}
use Rattle.elements.specs.declared.rows.Sort.{Sort}
use Rattle.elements.specs.declared.rows.Sort.TheVariants.{SecurityRole, SecurityConstraint, WebResourceCollection, AuthConstraint, UrlPattern, HttpMethod, HttpMethodOmission, RoleName}
use Rattle.elements.specs.Rows.{phase_at, sort_at}

-- a `security-role` stands in `web-app` alone
pub no_role : (p : Phase) (t : Sort) → t ≡ SecurityRole → (p ≡ InApp → ⊥) → (p ≡ PassedOver → ⊥) → misplaced ≡ opening (phase_at p) (sort_at t)
unfolding opening found
no_role InApp t e a b = absurd (a refl)
no_role PassedOver t e a b = absurd (b refl)
no_role _ t e a b = rw e

-- so does a `security-constraint`
pub no_constraint : (p : Phase) (t : Sort) → t ≡ SecurityConstraint → (p ≡ InApp → ⊥) → (p ≡ PassedOver → ⊥) → misplaced ≡ opening (phase_at p) (sort_at t)
unfolding opening found
no_constraint InApp t e a b = absurd (a refl)
no_constraint PassedOver t e a b = absurd (b refl)
no_constraint _ t e a b = rw e

-- a collection in a constraint, before its `auth-constraint`
pub no_collection : (p : Phase) (t : Sort) → t ≡ WebResourceCollection → (p ≡ InConstraint → ⊥) → (p ≡ InCollected → ⊥) → (p ≡ PassedOver → ⊥) → misplaced ≡ opening (phase_at p) (sort_at t)
unfolding opening found
no_collection InConstraint t e a b c = absurd (a refl)
no_collection InCollected t e a b c = absurd (b refl)
no_collection PassedOver t e a b c = absurd (c refl)
no_collection _ t e a b c = rw e

-- and that behind a collection
pub no_auth : (p : Phase) (t : Sort) → t ≡ AuthConstraint → (p ≡ InCollected → ⊥) → (p ≡ PassedOver → ⊥) → misplaced ≡ opening (phase_at p) (sort_at t)
unfolding opening found
no_auth InCollected t e a b = absurd (a refl)
no_auth PassedOver t e a b = absurd (b refl)
no_auth _ t e a b = rw e

-- patterns in a collection, before all else
pub no_pattern : (p : Phase) (t : Sort) → t ≡ UrlPattern → (p ≡ InCollection → ⊥) → (p ≡ InPatterned → ⊥) → (p ≡ PassedOver → ⊥) → misplaced ≡ opening (phase_at p) (sort_at t)
unfolding opening found
no_pattern InCollection t e a b c = absurd (a refl)
no_pattern InPatterned t e a b c = absurd (b refl)
no_pattern PassedOver t e a b c = absurd (c refl)
no_pattern _ t e a b c = rw e

-- methods behind them
pub no_method : (p : Phase) (t : Sort) → t ≡ HttpMethod → (p ≡ InPatterned → ⊥) → (p ≡ InMethods → ⊥) → (p ≡ PassedOver → ⊥) → misplaced ≡ opening (phase_at p) (sort_at t)
unfolding opening found
no_method InPatterned t e a b c = absurd (a refl)
no_method InMethods t e a b c = absurd (b refl)
no_method PassedOver t e a b c = absurd (c refl)
no_method _ t e a b c = rw e

-- or omissions
pub no_omission : (p : Phase) (t : Sort) → t ≡ HttpMethodOmission → (p ≡ InPatterned → ⊥) → (p ≡ InOmissions → ⊥) → (p ≡ PassedOver → ⊥) → misplaced ≡ opening (phase_at p) (sort_at t)
unfolding opening found
no_omission InPatterned t e a b c = absurd (a refl)
no_omission InOmissions t e a b c = absurd (b refl)
no_omission PassedOver t e a b c = absurd (c refl)
no_omission _ t e a b c = rw e

-- and a `role-name` in a role or an `auth-constraint`
pub no_name : (p : Phase) (t : Sort) → t ≡ RoleName → (p ≡ InRole → ⊥) → (p ≡ InAuth → ⊥) → (p ≡ PassedOver → ⊥) → misplaced ≡ opening (phase_at p) (sort_at t)
unfolding opening found
no_name InRole t e a b c = absurd (a refl)
no_name InAuth t e a b c = absurd (b refl)
no_name PassedOver t e a b c = absurd (c refl)
no_name _ t e a b c = rw e

-- what is missing where an element ends
pub whole : (p : Phase) → (p ≡ InRole → ⊥) → (p ≡ InConstraint → ⊥) → (p ≡ InCollection → ⊥) → true ≡ is_complete (phase_at p)
whole InRole a b c = absurd (a refl)
whole InConstraint a b c = absurd (b refl)
whole InCollection a b c = absurd (c refl)
whole _ a b c = refl
