-- Phases, sorts and what a first tag comes to, as `portals` has them.
use Rattle.std.specs.Prelude.{ℕ, ◌≡◌, Bool, true, cond, ◌||◌, [], eqb}
use Rattle.text.specs.Texts.{bytes}
use Rattle.documents.specs.Chars.{is_plain, is_white}
use Rattle.listings.specs.declared.records.Kind.TheVariants.{Constraint, Collection}
use Rattle.portals.specs.Elements as Does
use Rattle.portals.specs.Elements.{in_app, in_role, in_role_named, in_constraint, in_collected, in_guarded, in_collection, in_patterned, in_methods, in_omissions, in_auth, passed_over, security_role, security_constraint, web_resource_collection, auth_constraint, url_pattern, http_method, http_method_omission, role_name, refused_element, other_element, nothing, guards, adds, misplaced, refused, holds, says, phase_number}
use Rattle.ledger.specs.declared.items.Item.{Item}
use Rattle.ledger.specs.Places.{kind_by, number_of}
use Rattle.elements.specs.declared.rows.Phase.{Phase}
use Rattle.elements.specs.declared.rows.Phase.TheVariants as P
use Rattle.elements.specs.declared.rows.Sort.{Sort}
use Rattle.elements.specs.declared.rows.Sort.TheVariants as S
use Rattle.elements.specs.declared.rows.Effect.{Effect}
use Rattle.elements.specs.declared.rows.Effect.TheVariants as E
use Rattle.elements.specs.declared.rows.Opening.{Opening}
use Rattle.elements.specs.declared.rows.Opening.TheVariants as O

-- the phase and the sort
abbrev pub phase_at : Phase → Does.Phase
phase_at P.InApp = in_app
phase_at P.InRole = in_role
phase_at P.InRoleNamed = in_role_named
phase_at P.InConstraint = in_constraint
phase_at P.InCollected = in_collected
phase_at P.InGuarded = in_guarded
phase_at P.InCollection = in_collection
phase_at P.InPatterned = in_patterned
phase_at P.InMethods = in_methods
phase_at P.InOmissions = in_omissions
phase_at P.InAuth = in_auth
phase_at P.PassedOver = passed_over

abbrev pub sort_at : Sort → Does.Sort
sort_at S.SecurityRole = security_role
sort_at S.SecurityConstraint = security_constraint
sort_at S.WebResourceCollection = web_resource_collection
sort_at S.AuthConstraint = auth_constraint
sort_at S.UrlPattern = url_pattern
sort_at S.HttpMethod = http_method
sort_at S.HttpMethodOmission = http_method_omission
sort_at S.RoleName = role_name
sort_at S.Unwanted = refused_element
sort_at S.Other = other_element

-- the bytes of text that may stand as they are in an element at that phase: white space, and where it is passed over all that stand for themselves
abbrev pub passing : Phase → ℕ → Bool
passing p b = cond (eqb (phase_number (phase_at p)) 11) (is_plain b) (is_white b)

-- what an element does where it begins
abbrev pub effect_at : Effect → Does.Effect
effect_at E.Nothing = nothing
effect_at E.Opens = adds Constraint (bytes "open")
effect_at E.Collects = adds Collection []
effect_at E.Guards = guards

-- what a first tag comes to
abbrev pub opening_of : Opening → Does.Opening
opening_of O.Misplaced = misplaced
opening_of O.Refused = refused
opening_of (O.Holds h) = holds (phase_at h.next) (phase_at h.first) (effect_at h.effect)
opening_of (O.Says l) = says (phase_at l.next) (kind_by (number_of l.item))

-- the kinds of records whose field is a text of the file
abbrev pub is_text_kind : ℕ → Bool
is_text_kind k = eqb k 0 || eqb k 3 || eqb k 5 || eqb k 6 || eqb k 7

-- the element that is a text gives a record of such a kind
abbrev pub FittingRow : Opening → Type 0
FittingRow O.Misplaced = Unit {0}
FittingRow O.Refused = Unit {0}
FittingRow (O.Holds h) = Unit {0}
FittingRow (O.Says l) = is_text_kind (number_of l.item) ≡ true
