-- The plain form of the refusals of `budquarry_decide`: the rows of 01's table, each by itself, in 01's order.
-- proofs/Exactly.antt shows that the call hands back exactly the first row that is given.
use Rattle.std.specs.Prelude.{ℕ, Bool, true, false, not, List, [], ◌∷◌}
use Rattle.std.proofs.Math.Option.{Option, none, some}
use Rattle.listings.specs.Refusals.{reading_of}
use Rattle.worktable.specs.Work.{is_short}
use Rattle.reading.specs.Rows.{row, listing_row, last_row}
use Rattle.listings.specs.declared.answers.Report.{Report}
use Rattle.decisions.specs.Requests.{Caller, is_path, is_method, caller_of}
use Rattle.deciding.specs.Outcomes.{Asked}

abbrev pub is_bad : Option Caller → Bool
is_bad none = true
is_bad (some c) = false

unfoldable pub decide_rows : Asked → List ℕ → List (Option Report)
unfolding reading_of is_path caller_of
decide_rows a w =
    row 1 (is_short w)  -- "work table below 4,096 numbers"
    ∷ listing_row 1 (reading_of a.listing)  -- 2 to 10
    ∷ row 11 (not (is_path a.path))  -- "bad path"
    ∷ row 12 (not (is_method a.method))  -- bad "method"
    ∷ row 13 (is_bad (caller_of a.login a.names))  -- bad "caller"
    ∷ last_row
    ∷ []
