-- What is proved of deciding, in the customer's words, as types: proofs/Promises, Droppings, Joins and Unnamed have the proofs.
use Rattle.std.specs.Prelude.{◌≡◌, true, false, List, [], ◌∷◌, ◌++◌}
use Rattle.std.proofs.Math.Option.{some}
use Rattle.text.specs.Texts.{Text, bytes, slash, semicolon, has, member}
use Rattle.listings.specs.Listings.{Constrained, Listing, closes, patterns_of}
use Rattle.decisions.specs.Matching.{best}
use Rattle.decisions.specs.Paths.{dropped}
use Rattle.decisions.specs.Requests.{Caller, Extends, Request, request, matched}
use Rattle.decisions.specs.Combining.{Access, closed, join, neutral, together, ranked, has_role, roles_of}
use Rattle.decisions.specs.Decisions.{taken, combined_at, decide, is_grant}
use Rattle.decisions.specs.declared.answers.Answer.TheVariants.{Open}

-- ---- a grant is never lost
-- who logs in, or has further roles, keeps every grant
abbrev pub NeverLoses : Listing → Type 0
NeverLoses l =
    (path method : Text) (c d : Caller) → Extends c d
    → is_grant (decide l (request path method c)) ≡ true → is_grant (decide l (request path method d)) ≡ true

-- ---- parameters in paths
-- what dropping comes to, segment by segment: a path without `;` stays; before the first `;` everything stays, behind it nothing up to the next `/`, and all segments
-- behind that one are dropped from in their turn; or nothing up to the end
pub record DropsParameters : Type 0 where
  pub untouched : (t : Text) → has semicolon t ≡ false → dropped t ≡ t
  pub segment : (s p t : Text) → has semicolon s ≡ false → has slash p ≡ false → dropped (s ++ semicolon ∷ (p ++ slash ∷ t)) ≡ s ++ slash ∷ dropped t
  pub last : (s p : Text) → has semicolon s ≡ false → has slash p ≡ false → dropped (s ++ semicolon ∷ p) ≡ s

-- a path is answered as the one without its parameters is
abbrev pub AnsweredAsDropped : Listing → Type 0
AnsweredAsDropped l = (path method : Text) (c : Caller) → decide l (request path method c) ≡ decide l (request (dropped path) method c)

-- ---- combining
-- order and grouping don't matter, what is joined with itself is itself, closed swallows every other, and no role changes nothing
pub record JoinLaws : Type 0 where
  pub order : (a b : Access) → join a b ≡ join b a
  pub grouping : (a b c : Access) → join (join a b) c ≡ join a (join b c)
  pub itself : (a : Access) → join a a ≡ a
  pub swallows : (b : Access) → join closed b ≡ closed
  pub nothing : (a : Access) → join a neutral ≡ a

-- the join of several is 01's "if any .. else if any"
abbrev pub JoinIsRanked : Type 0
JoinIsRanked = (xs : List Access) → together xs ≡ ranked xs

-- ---- a method that the best pattern does not cover
-- is open to every caller: no wider pattern is asked
abbrev pub UncoveredIsOpen : Listing → Type 0
UncoveredIsOpen l = (r : Request) (t : Text) → best (patterns_of l) (matched r) ≡ some t → taken t r.method l.constraints ≡ [] → decide l r ≡ Open

-- ---- `*` without a declared role
-- "A `*` with no declared role adds nothing and closes nothing."
abbrev pub EmptyStar : Type 0
EmptyStar =
    (k : Constrained) (ns ms : List Text) → k.allowed ≡ ns ++ bytes "*" ∷ ms
    → (closes k ≡ false) × (roles_of [] k.allowed ≡ roles_of [] (ns ++ ms))

-- ---- names
-- the roles that a listing admits are among those that it names
abbrev pub RolesNamed : Listing → Type 0
RolesNamed l = (t m n : Text) → has_role (combined_at l (some t) m) n ≡ true → member n l.roles ≡ true

-- methods that a listing does not name are alike to it
abbrev pub UnnamedAlike : Listing → Type 0
UnnamedAlike l =
    (path m n : Text) (c : Caller) → member m l.methods ≡ false → member n l.methods ≡ false
    → decide l (request path m c) ≡ decide l (request path n c)
