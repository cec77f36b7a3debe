-- The plain form of the refusals of `budquarry_compare`: the rows of 01's table, each by itself, in 01's order.
-- proofs/Exactly.antt shows that the call hands back exactly the first row that is given.
use Rattle.std.specs.Prelude.{ℕ, ◌≡◌, false, List, [], ◌∷◌}
use Rattle.std.proofs.Math.Option.{Option}
use Rattle.text.specs.Texts.{Text}
use Rattle.listings.specs.Refusals.{reading_of}
use Rattle.worktable.specs.Work.{is_short}
use Rattle.reading.specs.Rows.{row, listing_row, last_row}
use Rattle.listings.specs.declared.answers.Report.{Report}
use Rattle.comparisons.specs.Outcomes.{is_small}

unfoldable pub compare_rows : Text → Text → Text → List ℕ → List (Option Report)
unfolding reading_of
compare_rows old new answer work =
    row 1 (is_short work)  -- "work table below 4,096 numbers"
    ∷ row 14 (is_small answer)  -- "answer buffer below 1,024 bytes"
    ∷ listing_row 1 (reading_of old)  -- 2 to 10: "all of the old listing's, its 2 included, before the new one's"
    ∷ listing_row 2 (reading_of new)
    ∷ last_row
    ∷ []

-- buffer and table are large enough
abbrev pub Roomy : Text → List ℕ → Type 0
Roomy answer work = (is_short work ≡ false) × (is_small answer ≡ false)
