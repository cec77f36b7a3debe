-- What the customer is promised of deciding: a grant is never lost by logging in or by having further roles, what is not covered is open, and an empty `*` closes nothing.
use mathlib.Core.Path.{◌≡◌, refl, sym, ap, ◌∙◌}
use mathlib.Core.Bool.{Bool, true, false, not, cond, ◌&&◌, and-false}
use mathlib.Core.List.{List, [], ◌∷◌, ◌++◌}
use mathlib.Core.Option.{some}
use Rattle.text.specs.Texts.{Text, bytes}
use Rattle.text.proofs.Truths.{never}
use Rattle.names.specs.Names.{is_star}
use Rattle.listings.specs.Listings.{Listing, is_empty, closes}
use Rattle.listings.specs.Propers.{Proper}
use Rattle.decisions.specs.Paths.{dropped}
use Rattle.decisions.specs.Requests.{Caller, nobody, logged_in, Extends}
use Rattle.decisions.specs.Combining.{Access, closed, free, roles, any_of, roles_of}
use Rattle.decisions.specs.Decisions.{combine, combined_at, combined_for, answer_to, decide, is_grant, may, answer_number, is_grant_number}
use Rattle.decisions.specs.Demands.{NeverLoses, UncoveredIsOpen, EmptyStar, RolesNamed}
use Rattle.decisions.specs.declared.answers.Answer.{Answer}
use Rattle.decisions.specs.declared.answers.Answer.TheVariants.{Open, ByRole, Closed, LoginWanted, RoleLacking}
use Rattle.decisions.proofs.Anys.{any_more}
use Rattle.decisions.proofs.Takings.{role_named}

-- ---- whom roles admit
by_role : (b : Bool) → is_grant (cond b ByRole RoleLacking) ≡ b
by_role true = refl
by_role false = refl

-- those who hold one of them
pub roles_grant : (f : Text → Bool) (ns : List Text) → may (roles f) (logged_in ns) ≡ any_of f ns
unfolding answer_to
roles_grant f ns = by_role (any_of f ns)

-- ---- further roles, and logging in, never lose a grant
pub access_keeps : (a : Access) (c d : Caller) → Extends c d → may a c ≡ true → may a d ≡ true
unfolding answer_to
access_keeps closed c d e h = h
access_keeps free c d e h = refl
access_keeps (roles f) nobody d e h = absurd (never false h refl)
access_keeps (roles f) (logged_in ns) nobody e h = absurd e
access_keeps (roles f) (logged_in ns) (logged_in ms) e h = roles_grant f ms ∙ any_more f ns ms e (sym (roles_grant f ns) ∙ h)

pub never_loses : (l : Listing) → NeverLoses l
unfolding decide
never_loses l path method c d = access_keeps (combined_for l (dropped path) method) c d

-- ---- what the best pattern does not cover is open
pub uncovered_is_open : (l : Listing) → UncoveredIsOpen l
unfolding decide combined_for combined_at combine answer_to
uncovered_is_open l r t e h = rw (e, h)

-- ---- `*` without a declared role
-- it adds nothing
star_adds_nothing : (ns ms : List Text) → roles_of [] (ns ++ bytes "*" ∷ ms) ≡ roles_of [] (ns ++ ms)
unfolding roles_of
star_adds_nothing [] ms = refl
star_adds_nothing (n ∷ ns) ms = ap (λ (rs : List Text). cond (is_star n) [] (n ∷ []) ++ rs) (star_adds_nothing ns ms)

-- and closes nothing
pub star_without_declared_roles_closes_nothing : EmptyStar
unfolding closes
star_without_declared_roles_closes_nothing k ns ms e = (rw e (filled ns ∙ and-false (not k.is_open)), rw e (star_adds_nothing ns ms))
  where
    filled : (xs : List Text) → not k.is_open && is_empty (xs ++ bytes "*" ∷ ms) ≡ not k.is_open && false
    filled [] = refl
    filled (x ∷ xs) = refl

-- ---- a role that a listing admits is named in it
pub roles_named : (l : Listing) → Proper l → RolesNamed l
roles_named l P t m n = role_named l P m n (some t)

-- ---- the numbers
-- an answer's number is a grant's exactly where the answer is a grant
pub grant_number : (a : Answer) → is_grant_number (answer_number a) ≡ is_grant a
grant_number Open = refl
grant_number ByRole = refl
grant_number Closed = refl
grant_number LoginWanted = refl
grant_number RoleLacking = refl
