-- What wider means, and the verdict.
use Rattle.std.specs.Prelude.{◌≡◌, Bool, true, false, not, ◌&&◌, ℕ}
use Rattle.std.proofs.Math.Option.{Option, some}
use Rattle.text.specs.Texts.{Text, first}
use Rattle.listings.specs.Listings.{Listing}
use Rattle.decisions.specs.Requests.{Request, is_path, is_method, caller_of}
use Rattle.decisions.specs.Decisions.{decide, is_grant}
use Rattle.trials.specs.Trials.{trials}

-- ---- a request that a call can ask
pub record WellFormed (r : Request) : Type 0 where
  pub path : is_path r.path ≡ true
  pub method : is_method r.method ≡ true
  -- the caller is what some login number and text of names give
  pub login : ℕ
  pub names : Text
  pub called : caller_of login names ≡ some r.caller

-- ---- the new listing grants it, and the old one denies it
pub record Widening (old new : Listing) (r : Request) : Type 0 where
  pub granted : is_grant (decide new r) ≡ true
  pub denied : is_grant (decide old r) ≡ false

-- the same, found
unfoldable pub widens : Listing → Listing → Request → Bool
unfolding decide
widens old new r = is_grant (decide new r) && not (is_grant (decide old r))

-- ---- the first trial that widens
unfoldable pub verdict : Listing → Listing → Option Request
unfolding first widens trials
verdict old new = first (widens old new) (trials old new)
