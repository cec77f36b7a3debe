-- The verdict in the shape of a program: for each trial path, for each trial method, the first caller by whom each listing admits there.
-- For the proofs alone, which show that it is Verdicts' verdict.
use Rattle.std.specs.Prelude.{Bool, not, ◌&&◌, List, [], ◌∷◌}
use Rattle.std.proofs.Math.Option.{Option, none, some, map}
use Rattle.text.specs.Texts.{Text, first}
use Rattle.listings.specs.Listings.{Listing}
use Rattle.decisions.specs.Requests.{Caller, Request, request}
use Rattle.decisions.specs.Combining.{Access}
use Rattle.decisions.specs.Decisions.{answer_to, combined_for, may}
use Rattle.trials.specs.Trials.{callers_with, trial_paths, trial_methods}

-- the one answer, or else the other
abbrev pub or_else : {A : Type 0} → Option A → Option A → Option A
or_else none y = y
or_else (some x) y = some x

-- the first answer
unfoldable pub first_some : {A B : Type 0} → (A → Option B) → List A → Option B
first_some f [] = none
first_some f (x ∷ xs) = elim (f x) [ none ↦ first_some f xs | some b ↦ some b ]

-- the caller may by new, and may not by old
unfoldable pub is_fresh : Access → Access → Caller → Bool
unfolding answer_to
is_fresh old new c = may new c && not (may old c)

-- for one path and one method; names that only old has are not looked at
unfoldable pub shown_at : Listing → Listing → Text → Text → Option Request
unfolding first is_fresh combined_for
shown_at old new p m = map (request p m) (first (is_fresh (combined_for old p m) (combined_for new p m)) (callers_with new.roles))

unfoldable pub shown : Listing → Listing → Option Request
unfolding first_some shown_at trial_paths trial_methods
shown old new = first_some (λ (p : Text). first_some (λ (m : Text). shown_at old new p m) (trial_methods old new)) (trial_paths old new)
