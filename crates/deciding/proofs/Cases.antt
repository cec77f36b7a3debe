-- 01's worked requests 1 to 11, from the bytes of the listings to what is handed back, as one table that antt computes.
use mathlib.Core.Path.{◌≡◌, refl}
use mathlib.Core.List.{List, [], ◌∷◌, map}
use Prim.Native.Nat.{ℕ, ◌≤◌}
use lib.ListN.{length}
use borrow.Author.Tests.{le-ltb}
use Rattle.text.specs.Texts.{Text, bytes}
use Rattle.text.specs.Bytes.{is_text, is_token}
use Rattle.names.specs.Names.{is_role_name, is_method_name}
use Rattle.listings.specs.Records.{names_role}
use Rattle.listings.specs.Refusals.{reading_of}
use Rattle.listings.specs.Listings.{listing_of}
use Rattle.worktable.specs.Work.{work_size}
use Rattle.decisions.specs.Requests.{is_path, caller_of}
use Rattle.decisions.specs.Decisions.{decide, answer_number}
use Rattle.decisions.specs.Worked.{listing_l, undeclared}
use Rattle.deciding.specs.Outcomes.{Asked, answered, decide_listing, decision_of}
use Rattle.decisions.specs.declared.answers.Answer.TheVariants.{Open, ByRole, Closed, LoginWanted, RoleLacking}
use Rattle.deciding.specs.declared.answers.Decision.{Decision}

-- a caller who is not logged in asks
abbrev unknown : Text → Text → Text → Asked
unknown l p m = record { listing = l; path = p; method = m; login = 0; names = [] }

-- a caller who is logged in asks
abbrev holding : Text → Text → Text → Text → Asked
holding l p m ns = record { listing = l; path = p; method = m; login = 1; names = ns }

-- requests 1 to 11
pub asked : List Asked
asked =
    holding listing_l (bytes "/x") (bytes "DELETE") (bytes "adjuster\n")
    ∷ unknown listing_l (bytes "/x") (bytes "GET")
    ∷ holding listing_l (bytes "/clock") (bytes "PUT") (bytes "adjuster\n")
    ∷ unknown listing_l (bytes "/clock/a") (bytes "GET")
    ∷ holding listing_l (bytes "/clock/a") (bytes "DELETE") (bytes "assessor\n")
    ∷ holding listing_l (bytes "/clockwork") (bytes "DELETE") (bytes "assessor\n")
    ∷ unknown listing_l (bytes "/clock/offset") (bytes "PUT")
    ∷ unknown listing_l (bytes "/clock/offset") (bytes "GET")
    ∷ holding listing_l (bytes "/log.csv") (bytes "DELETE") (bytes "assessor\n")
    ∷ holding listing_l (bytes "/clock/a") (bytes "PUT") (bytes "owner\n")
    ∷ holding undeclared (bytes "/a/b") (bytes "GET") (bytes "adjuster\n")
    ∷ []

-- and their answers
pub answers : List Decision
answers =
    map (λ a. answered (answer_number a))
    (Closed ∷ Open ∷ ByRole ∷ Open ∷ ByRole ∷ Closed ∷ Open ∷ LoginWanted ∷ Closed ∷ RoleLacking ∷ ByRole ∷ [])

-- behind the work table's length
computed : map (λ (a : Asked). decide_listing a (reading_of a.listing)) asked ≡ answers
unfolding listing_l undeclared asked answers reading_of is_path is_text is_token names_role is_method_name is_role_name caller_of decide listing_of
computed = refl

-- what the call hands back for each of them, with any work table that is long enough
pub worked_requests : (w : List ℕ) → work_size ≤ length w → map (λ (a : Asked). decision_of a w) asked ≡ answers
unfolding decision_of
worked_requests w h = rw (le-ltb (length w) work_size h) computed
