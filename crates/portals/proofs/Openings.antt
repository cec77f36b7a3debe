-- What a first tag comes to: the row of Elements for it, as a relation; and the names that are known by.
use mathlib.Core.Path.{◌≡◌, refl, sym, ap, ◌∙◌}
use mathlib.Core.Bool.{Bool, true, false, cond, ◌&&◌}
use mathlib.Core.List.{List, [], ◌∷◌}
use Prim.Native.Nat.{ℕ}
use lib.Dec.{eqb}
use borrow.Author.Tests.{eqb-true}
use Rattle.text.specs.Texts.{Text, bytes, same}
use Rattle.text.proofs.Truths.{never, not_so}
use Rattle.text.proofs.Spans.{same_equal}
use Rattle.listings.specs.declared.records.Kind.TheVariants.{Role, Constraint, Allow, Collection, Pattern, Method, Omit}
use Rattle.portals.specs.Elements.{Sort, security_role, security_constraint, web_resource_collection, auth_constraint, url_pattern, http_method, http_method_omission, role_name, refused_element, other_element, sort_of, Phase, in_app, in_role, in_role_named, in_constraint, in_collected, in_guarded, in_collection, in_patterned, in_methods, in_omissions, in_auth, passed_over, nothing, guards, adds, Opening, misplaced, refused, holds, says, Row, rows, phase_number, sort_number, found, passes, opening}

-- ---- phases and sorts by their numbers
abbrev phase_at : ℕ → Phase
phase_at n =
    cond (eqb n 0) in_app
    (cond (eqb n 1) in_role
    (cond (eqb n 2) in_role_named
    (cond (eqb n 3) in_constraint
    (cond (eqb n 4) in_collected
    (cond (eqb n 5) in_guarded
    (cond (eqb n 6) in_collection
    (cond (eqb n 7) in_patterned
    (cond (eqb n 8) in_methods
    (cond (eqb n 9) in_omissions
    (cond (eqb n 10) in_auth passed_over))))))))))

phase_at_lem : (p : Phase) → phase_at (phase_number p) ≡ p
phase_at_lem in_app = refl
phase_at_lem in_role = refl
phase_at_lem in_role_named = refl
phase_at_lem in_constraint = refl
phase_at_lem in_collected = refl
phase_at_lem in_guarded = refl
phase_at_lem in_collection = refl
phase_at_lem in_patterned = refl
phase_at_lem in_methods = refl
phase_at_lem in_omissions = refl
phase_at_lem in_auth = refl
phase_at_lem passed_over = refl

abbrev sort_at : ℕ → Sort
sort_at n =
    cond (eqb n 0) security_role
    (cond (eqb n 1) security_constraint
    (cond (eqb n 2) web_resource_collection
    (cond (eqb n 3) auth_constraint
    (cond (eqb n 4) url_pattern
    (cond (eqb n 5) http_method
    (cond (eqb n 6) http_method_omission
    (cond (eqb n 7) role_name
    (cond (eqb n 8) refused_element other_element))))))))

sort_at_lem : (t : Sort) → sort_at (sort_number t) ≡ t
sort_at_lem security_role = refl
sort_at_lem security_constraint = refl
sort_at_lem web_resource_collection = refl
sort_at_lem auth_constraint = refl
sort_at_lem url_pattern = refl
sort_at_lem http_method = refl
sort_at_lem http_method_omission = refl
sort_at_lem role_name = refl
sort_at_lem refused_element = refl
sort_at_lem other_element = refl

one_phase : (p q : Phase) → eqb (phase_number p) (phase_number q) ≡ true → p ≡ q
one_phase p q e = sym (phase_at_lem p) ∙ ap phase_at (eqb-true (phase_number p) (phase_number q) e) ∙ phase_at_lem q

one_sort : (t u : Sort) → eqb (sort_number t) (sort_number u) ≡ true → t ≡ u
one_sort t u e = sym (sort_at_lem t) ∙ ap sort_at (eqb-true (sort_number t) (sort_number u) e) ∙ sort_at_lem u

-- ---- what a first tag of sort t comes to at phase p
pub data Opens : Phase → Sort → Opening → Type 0 where
  astray : {p : Phase} {t : Sort} → Opens p t misplaced
  unwelcome : {p : Phase} → Opens p refused_element refused
  unknown : {p : Phase} → Opens p other_element (holds p passed_over nothing)
  within : {t : Sort} → Opens passed_over t (holds passed_over passed_over nothing)
  role : Opens in_app security_role (holds in_app in_role nothing)
  constraint : Opens in_app security_constraint (holds in_app in_constraint (adds Constraint (bytes "open")))
  role_named : Opens in_role role_name (says in_role_named Role)
  collection_first : Opens in_constraint web_resource_collection (holds in_collected in_collection (adds Collection []))
  collection_more : Opens in_collected web_resource_collection (holds in_collected in_collection (adds Collection []))
  auth : Opens in_collected auth_constraint (holds in_guarded in_auth guards)
  pattern_first : Opens in_collection url_pattern (says in_patterned Pattern)
  pattern_more : Opens in_patterned url_pattern (says in_patterned Pattern)
  method_first : Opens in_patterned http_method (says in_methods Method)
  method_more : Opens in_methods http_method (says in_methods Method)
  omission_first : Opens in_patterned http_method_omission (says in_omissions Omit)
  omission_more : Opens in_omissions http_method_omission (says in_omissions Omit)
  allowed : Opens in_auth role_name (says in_auth Allow)

-- each of the rows is one of these
abbrev EachOpens : List Row → Type 0
EachOpens [] = Unit {0}
EachOpens (r ∷ rs) = Opens r.within r.sort r.gives × EachOpens rs

rows_open : EachOpens rows
rows_open = (role, (constraint, (role_named, (collection_first, (collection_more, (auth, (pattern_first, (pattern_more, (method_first, (method_more, (omission_first, (omission_more, (allowed, tt)))))))))))))

found_opens : (p : Phase) (t : Sort) (rs : List Row) → EachOpens rs → Opens p t (found p t rs)
unfolding found
found_opens p t [] o = astray
found_opens p t (r ∷ rs) o = go (eqb (phase_number p) (phase_number r.within)) (eqb (sort_number t) (sort_number r.sort)) refl refl (found_opens p t rs o.1)
  where
    go : (a b : Bool) → eqb (phase_number p) (phase_number r.within) ≡ a → eqb (sort_number t) (sort_number r.sort) ≡ b → Opens p t (found p t rs)
        → Opens p t (cond (a && b) r.gives (found p t rs))
    go true true d e h = rw (one_phase p r.within d, one_sort t r.sort e) o.0
    go true false d e h = h
    go false b d e h = h

pub opens : (p : Phase) (t : Sort) → Opens p t (opening p t)
unfolding opening
opens p t = go (eqb (sort_number t) 9) (eqb (sort_number t) 8) (eqb (phase_number p) 11) refl refl refl
  where
    go : (a b c : Bool) → eqb (sort_number t) 9 ≡ a → eqb (sort_number t) 8 ≡ b → eqb (phase_number p) 11 ≡ c
        → Opens p t (cond a (passes p) (cond b refused (cond c (passes p) (found p t rows))))
    go true b c d e f = rw (one_sort t other_element d) unknown
    go false true c d e f = rw (one_sort t refused_element e) unwelcome
    go false false true d e f = rw (one_phase p passed_over f) within
    go false false false d e f = found_opens p t rows rows_open

-- ---- the names of the sorts
abbrev pub Called : Text → Sort → Type 0
Called n security_role = n ≡ bytes "security-role"
Called n security_constraint = n ≡ bytes "security-constraint"
Called n web_resource_collection = n ≡ bytes "web-resource-collection"
Called n auth_constraint = n ≡ bytes "auth-constraint"
Called n url_pattern = n ≡ bytes "url-pattern"
Called n http_method = n ≡ bytes "http-method"
Called n http_method_omission = n ≡ bytes "http-method-omission"
Called n role_name = n ≡ bytes "role-name"
Called n refused_element = Unit {0}
Called n other_element = Unit {0}

-- a test for a name, and the sort of that name
called_or : (n m : Text) (t u : Sort) → (n ≡ m → Called n t) → Called n u → Called n (cond (same n m) t u)
called_or n m t u f g = go (same n m) refl
  where
    go : (b : Bool) → same n m ≡ b → Called n (cond b t u)
    go true e = f (same_equal n m e)
    go false e = g

-- an element of a wanted sort has that sort's name
pub called : (n : Text) → Called n (sort_of n)
unfolding sort_of
called n =
    called_or n _ security_role _ (λ e. e)
    (called_or n _ security_constraint _ (λ e. e)
    (called_or n _ web_resource_collection _ (λ e. e)
    (called_or n _ auth_constraint _ (λ e. e)
    (called_or n _ url_pattern _ (λ e. e)
    (called_or n _ http_method _ (λ e. e)
    (called_or n _ http_method_omission _ (λ e. e)
    (called_or n _ role_name _ (λ e. e)
    (called_or n _ refused_element _ (λ e. tt) (called_or n _ refused_element other_element (λ e. tt) tt)))))))))

-- one that is passed over has none of the names that are known
pub other_name : (n m : Text) → sort_of n ≡ other_element → eqb (sort_number (sort_of m)) 9 ≡ false → same n m ≡ false
other_name n m e f = not_so (same n m) (λ h. never (eqb (sort_number (sort_of m)) 9) (ap (λ (x : Text). eqb (sort_number (sort_of x)) 9) (sym (same_equal n m h)) ∙ ap (λ (t : Sort). eqb (sort_number t) 9) e) f)
