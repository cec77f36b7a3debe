-- What the two sides come to on a path: the first trial method and the first caller that new grants and old does not. For the proofs alone.
use Rattle.std.specs.Prelude.{ℕ, zero, suc, ◌+◌, ◌-◌, cond, List, [], get_or, eqb, Option as Maybe, Some, None}
use Rattle.std.proofs.Math.Option.{Option, none, some}
use Rattle.std.specs.Int.Bits.{bit_and}
use Rattle.std.specs.Int.Count.{count_trailing_zeros}
use Rattle.text.specs.Texts.{Text}
use Rattle.listings.specs.Listings.{Listing}
use Rattle.decisions.specs.Requests.{Request, request}
use Rattle.trials.specs.Trials.{trial_methods}
use Rattle.trials.specs.Loops.{first_some, shown_at}
use Rattle.grants.specs.Sides.{everyone, caller_at, roster_in}
use Rattle.grants.specs.declared.judging.Catch.{Catch}

-- the request to show for a path
unfoldable pub shown_on : Listing → Listing → Text → Option Request
unfolding first_some shown_at trial_methods
shown_on old new p = first_some (λ (m : Text). shown_at old new p m) (trial_methods old new)

-- the callers whom old's roster ro denies and new's roster rn grants, for trial method i
abbrev pub fresh_in : List ℕ → List ℕ → List ℕ → ℕ → ℕ
fresh_in ro rn pairs i = bit_and (get_or rn (get_or pairs (64 + i) 0) 0) (everyone - get_or ro (get_or pairs i 0) 0)

-- a caller is caught, for a trial method
abbrev pub some_catch : ℕ → ℕ → Maybe Catch
some_catch m d = Some (record { method = m; caller = d })

-- the first trial method with such a caller, from i on, and the first such caller; k methods are left
unfoldable pub caught_from : List ℕ → List ℕ → List ℕ → ℕ → ℕ → Maybe Catch
unfolding count_trailing_zeros
caught_from ro rn pairs zero i = None
caught_from ro rn pairs (suc k) i =
    cond (eqb (fresh_in ro rn pairs i) 0) (caught_from ro rn pairs k (i + 1)) (some_catch i (count_trailing_zeros 64 (fresh_in ro rn pairs i)))

-- for the best lines u of old and v of new
unfoldable pub caught_in : List ℕ → ℕ → List ℕ → ℕ → List ℕ → ℕ → ℕ → ℕ → Maybe Catch
unfolding caught_from roster_in
caught_in so o sn n pairs count u v = caught_from (roster_in so o u) (roster_in sn n v) pairs count 0

-- the request that it stands for, on a path
abbrev pub caught_on : Listing → Listing → Text → Maybe Catch → Option Request
caught_on old new p None = none
caught_on old new p (Some c) = some (request p (get_or (trial_methods old new) c.method []) (caller_at new.roles c.caller))
