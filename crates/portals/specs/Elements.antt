-- The elements of a web.xml that are known by name, and what may stand in which.
use Rattle.std.specs.Prelude.{Bool, true, false, cond, ◌&&◌, List, [], ◌∷◌, ℕ, eqb}
use Rattle.text.specs.Texts.{Text, bytes, same}
use Rattle.listings.specs.declared.records.Kind.{Kind}
use Rattle.listings.specs.declared.records.Kind.TheVariants.{Role, Constraint, Allow, Collection, Pattern, Method, Omit}

-- ---- elements by name
-- the eight that are wanted where they belong, the two that are refused anywhere, and all others
pub data Sort : Type 0 where
  security_role security_constraint web_resource_collection auth_constraint url_pattern http_method http_method_omission role_name : Sort
  refused_element other_element : Sort

-- "`user-data-constraint` and `deny-uncovered-http-methods` are refused anywhere"
abbrev pub refused_or : Text → Sort
refused_or n =
    cond (same n (bytes "user-data-constraint")) refused_element
    (cond (same n (bytes "deny-uncovered-http-methods")) refused_element
    other_element)

-- those that are texts
abbrev pub text_sort : Text → Sort
text_sort n =
    cond (same n (bytes "url-pattern")) url_pattern
    (cond (same n (bytes "http-method")) http_method
    (cond (same n (bytes "http-method-omission")) http_method_omission
    (cond (same n (bytes "role-name")) role_name
    (refused_or n))))

unfoldable pub sort_of : Text → Sort
unfolding same
sort_of n =
    cond (same n (bytes "security-role")) security_role
    (cond (same n (bytes "security-constraint")) security_constraint
    (cond (same n (bytes "web-resource-collection")) web_resource_collection
    (cond (same n (bytes "auth-constraint")) auth_constraint
    (text_sort n))))

-- ---- where one stands in an element
pub data Phase : Type 0 where
  -- directly in `web-app`
  in_app : Phase
  -- in a `security-role`: before its `role-name`, behind it
  in_role in_role_named : Phase
  -- in a `security-constraint`: before its collections, behind one of them, behind its `auth-constraint`
  in_constraint in_collected in_guarded : Phase
  -- in a `web-resource-collection`: before its patterns, behind one of them, behind an `http-method`, behind an `http-method-omission`
  in_collection in_patterned in_methods in_omissions : Phase
  -- in an `auth-constraint`
  in_auth : Phase
  -- in an element that is passed over
  passed_over : Phase

-- what an element does where it begins: nothing, it gives a record, or it makes the last constraint one with an authorization constraint
pub data Effect : Type 0 where
  nothing guards : Effect
  adds : Kind → Text → Effect

-- what a first tag comes to
pub data Opening : Type 0 where
  -- such a name out of place: 17
  misplaced : Opening
  -- a refused element: 19
  refused : Opening
  -- its content is read: where that leaves the element round it, where its own content begins, and what it does
  holds : Phase → Phase → Effect → Opening
  -- its text is the field of a record of that kind: where that leaves the element round it
  says : Phase → Kind → Opening

-- ---- what may stand where, in 02's words
pub record Row : Type 0 where
  pub within : Phase
  pub sort : Sort
  pub gives : Opening

abbrev pub row : Phase → Sort → Opening → Row
row p t o = record { within = p; sort = t; gives = o }

abbrev pub rows : List Row
rows =
    -- "Its children `security-role` and `security-constraint` are wanted"
    row in_app security_role (holds in_app in_role nothing)
    ∷ row in_app security_constraint (holds in_app in_constraint (adds Constraint (bytes "open")))
    -- "in a `security-role` one `role-name`"
    ∷ row in_role role_name (says in_role_named Role)
    -- "In a constraint stand one or more collections, then at most one `auth-constraint`"
    ∷ row in_constraint web_resource_collection (holds in_collected in_collection (adds Collection []))
    ∷ row in_collected web_resource_collection (holds in_collected in_collection (adds Collection []))
    ∷ row in_collected auth_constraint (holds in_guarded in_auth guards)
    -- "in a collection one or more `url-pattern`, then only `http-method` or only `http-method-omission`"
    ∷ row in_collection url_pattern (says in_patterned Pattern)
    ∷ row in_patterned url_pattern (says in_patterned Pattern)
    ∷ row in_patterned http_method (says in_methods Method)
    ∷ row in_methods http_method (says in_methods Method)
    ∷ row in_patterned http_method_omission (says in_omissions Omit)
    ∷ row in_omissions http_method_omission (says in_omissions Omit)
    -- "in an `auth-constraint` any number"
    ∷ row in_auth role_name (says in_auth Allow)
    ∷ []

-- "one `role-name`", "one or more collections", "one or more `url-pattern`": nothing is missing where an element ends
abbrev pub is_complete : Phase → Bool
is_complete in_app = true
is_complete in_role = false
is_complete in_role_named = true
is_complete in_constraint = false
is_complete in_collected = true
is_complete in_guarded = true
is_complete in_collection = false
is_complete in_patterned = true
is_complete in_methods = true
is_complete in_omissions = true
is_complete in_auth = true
is_complete passed_over = true

-- ---- phases and sorts told apart by a number each
abbrev pub phase_number : Phase → ℕ
phase_number in_app = 0
phase_number in_role = 1
phase_number in_role_named = 2
phase_number in_constraint = 3
phase_number in_collected = 4
phase_number in_guarded = 5
phase_number in_collection = 6
phase_number in_patterned = 7
phase_number in_methods = 8
phase_number in_omissions = 9
phase_number in_auth = 10
phase_number passed_over = 11

abbrev pub sort_number : Sort → ℕ
sort_number security_role = 0
sort_number security_constraint = 1
sort_number web_resource_collection = 2
sort_number auth_constraint = 3
sort_number url_pattern = 4
sort_number http_method = 5
sort_number http_method_omission = 6
sort_number role_name = 7
sort_number refused_element = 8
sort_number other_element = 9

-- ---- what a first tag comes to, by where it stands
-- the row for it; without one it is out of place
unfoldable pub found : Phase → Sort → List Row → Opening
found p t [] = misplaced
found p t (r ∷ rs) = cond (eqb (phase_number p) (phase_number r.within) && eqb (sort_number t) (sort_number r.sort)) r.gives (found p t rs)

-- passed over, with all it holds
abbrev pub passes : Phase → Opening
passes p = holds p passed_over nothing

-- "other well-nested elements are passed over": there every name passes but the two that are refused anywhere
abbrev pub wanted_in : Phase → Sort → Opening
wanted_in p t = cond (eqb (phase_number p) 11) (passes p) (found p t rows)

unfoldable pub opening : Phase → Sort → Opening
unfolding found
opening p t = cond (eqb (sort_number t) 9) (passes p) (cond (eqb (sort_number t) 8) refused (wanted_in p t))
