-- "Deciding".
use Rattle.std.specs.Prelude.{ℕ, Bool, true, false, cond, ◌&&◌, ◌||◌, List, [], ◌∷◌, map, eqb}
use Rattle.std.proofs.Math.Option.{Option, none, some}
use Rattle.text.specs.Texts.{Text, member}
use Rattle.listings.specs.Listings.{Collected, Constrained, Listing, covers, patterns_of}
use Rattle.decisions.specs.Matching.{best}
use Rattle.decisions.specs.Paths.{dropped}
use Rattle.decisions.specs.Requests.{Caller, nobody, logged_in, Request, matched}
use Rattle.decisions.specs.Combining.{Access, closed, free, roles, together, any_of, access_of}
use Rattle.decisions.specs.declared.answers.Answer.{Answer}
use Rattle.decisions.specs.declared.answers.Answer.TheVariants.{Open, ByRole, Closed, LoginWanted, RoleLacking}

-- ---- "take the constraints with a collection that has that exact pattern text and covers the method"
unfoldable pub is_taken : Text → Text → List Collected → Bool
unfolding member covers
is_taken t m [] = false
is_taken t m (c ∷ cs) = (member t c.patterns && covers c m) || is_taken t m cs

unfoldable pub taken : Text → Text → List Constrained → List Constrained
unfolding is_taken
taken t m [] = []
taken t m (k ∷ ks) = cond (is_taken t m k.collections) (k ∷ taken t m ks) (taken t m ks)

-- ---- what they come to
-- "None: open."
abbrev pub nothing_taken : Access
nothing_taken = free

unfoldable pub combine : List Access → Access
unfolding together
combine [] = nothing_taken
combine (a ∷ xs) = together (a ∷ xs)

-- "No best pattern: open."
unfoldable pub combined_at : Listing → Option Text → Text → Access
unfolding combine taken access_of
combined_at l none m = free
combined_at l (some t) m = combine (map (access_of l.declared) (taken t m l.constraints))

-- best pattern first, chosen without the method; then the method
unfoldable pub combined_for : Listing → Text → Text → Access
unfolding combined_at best patterns_of
combined_for l path m = combined_at l (best (patterns_of l) path) m

-- ---- the answers
unfoldable pub answer_to : Access → Caller → Answer
unfolding any_of
answer_to closed c = Closed
answer_to free c = Open
answer_to (roles f) nobody = LoginWanted
answer_to (roles f) (logged_in ns) = cond (any_of f ns) ByRole RoleLacking

-- what a listing answers to a request
unfoldable pub decide : Listing → Request → Answer
unfolding answer_to combined_for dropped
decide l r = answer_to (combined_for l (matched r) r.method) r.caller

-- "The first two are grants."
abbrev pub is_grant : Answer → Bool
is_grant Open = true
is_grant ByRole = true
is_grant Closed = false
is_grant LoginWanted = false
is_grant RoleLacking = false

-- the caller may
abbrev pub may : Access → Caller → Bool
may a c = is_grant (answer_to a c)

-- the numbers handed back; 0 is none of them, so that a refusal cannot be read as a grant
abbrev pub answer_number : Answer → ℕ
answer_number Open = 1
answer_number ByRole = 2
answer_number Closed = 3
answer_number LoginWanted = 4
answer_number RoleLacking = 5

-- the numbers of the answers that are grants
abbrev pub is_grant_number : ℕ → Bool
is_grant_number n = eqb n (answer_number Open) || eqb n (answer_number ByRole)
