-- What `budquarry_decide` hands back, and what it leaves in the work table.
use Rattle.std.specs.Prelude.{ℕ, ◌≡◌, Bool, cond, List}
use Rattle.std.proofs.Math.Option.{Option, none, some}
use Rattle.text.specs.Texts.{Text}
use Rattle.listings.specs.Refusals.{Reading, accepted, refusal, number_of, short_table, bad_path, bad_method, bad_caller, reading_of, report}
use Rattle.listings.specs.Listings.{listing_of}
use Rattle.worktable.specs.Work.{is_short, work_after}
use Rattle.decisions.specs.Requests.{Caller, Request, request, is_path, is_method, caller_of}
use Rattle.decisions.specs.Decisions.{decide, answer_number, is_grant_number}
use Rattle.deciding.specs.declared.answers.Decision.{Decision}

-- a refusal's answer is 0
abbrev pub refused : ℕ → ℕ → ℕ → Decision
refused number side line = record { report = report number side line; answer = 0 }

abbrev pub answered : ℕ → Decision
answered a = record { report = report 0 0 0; answer = a }

-- the answers that are grants, by their numbers
abbrev pub is_granted : Decision → Bool
is_granted d = is_grant_number d.answer

-- what the call is asked
pub record Asked : Type 0 where
  pub listing : Text
  pub path : Text
  pub method : Text
  pub login : ℕ
  pub names : Text

abbrev pub asked : Text → Text → Text → ℕ → Text → Asked
asked listing path method login names = record { listing = listing; path = path; method = method; login = login; names = names }

-- what is asked, for a caller
abbrev pub request_for : Asked → Caller → Request
request_for a c = request a.path a.method c

abbrev pub decide_caller : Asked → Option Caller → Decision
decide_caller a none = refused bad_caller 0 0
decide_caller a (some c) = answered (answer_number (decide (listing_of a.listing) (request_for a c)))

-- 11, 12 and 13 behind the listing's own
abbrev pub decide_request : Asked → Decision
decide_request a =
    cond (is_path a.path)
    (cond (is_method a.method) (decide_caller a (caller_of a.login a.names)) (refused bad_method 0 0))
    (refused bad_path 0 0)

abbrev pub decide_listing : Asked → Reading → Decision
decide_listing a accepted = decide_request a
decide_listing a (refusal f n) = refused (number_of f) 1 n

unfoldable pub decision_of : Asked → List ℕ → Decision
unfolding reading_of is_path caller_of decide listing_of
decision_of a w = cond (is_short w) (refused short_table 0 0) (decide_listing a (reading_of a.listing))

-- the whole outcome of the call: what is handed back, and the work table after it
pub record DecideOutcome (a : Asked) (w : List ℕ) (handed : Decision) (left : List ℕ) : Type 0 where
  pub decision : handed ≡ decision_of a w
  pub work : left ≡ work_after w
