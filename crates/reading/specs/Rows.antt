-- The plain form of the order over a whole call: the rows of 01's table, each by itself, whatever the others say, and which of them is the first.
-- proofs/Firsts.antt shows that a call of reading hands back exactly the first row that is given.
use Rattle.std.specs.Prelude.{ℕ, ◌≡◌, Bool, true, false, cond}
use mathlib.Core.List.{List, [], ◌∷◌, ◌++◌, Memᴰ}
use Rattle.std.proofs.Math.Option.{Option, none, some}
use Rattle.text.specs.Texts.{Text}
use Rattle.listings.specs.Refusals.{Reading, accepted, refusal, reading_of, report}
use Rattle.listings.specs.Rules.{broken, is_earlier, row_number}
use Rattle.worktable.specs.Work.{is_short}
use Rattle.listings.specs.declared.answers.Fault.{Fault}
use Rattle.listings.specs.declared.answers.Report.{Report}

-- ---- the rows: none where a row is not given. The numbers are written out, so that the theorems check those of Refusals too.
-- a row that is about no listing: "its side (0 for 1, 14, 11, 12, 13 ..) and its line (.. 0 for 1, 14, 2, 11, 12, 13)"
abbrev pub row : ℕ → Bool → Option Report
row number isGiven = cond isGiven (some (report number 0 0)) none

-- 2 to 10, for the listing of a side, "1 old or only, 2 new": what reading alone answers
abbrev pub listing_row : ℕ → Reading → Option Report
listing_row side accepted = none
listing_row side (refusal f n) = some (report (row_number f) side n)

-- behind all others: "Without a refusal number, side and line are 0."
abbrev pub last_row : Option Report
last_row = row 0 true

-- ---- r is the first that is given: a row gives it, and none before that row is given
pub record FirstGiven (rows : List (Option Report)) (r : Report) : Type 0 where
  pub before : List (Option Report)
  pub after : List (Option Report)
  pub split : rows ≡ before ++ some r ∷ after
  pub passed : (x : Option Report) → Memᴰ x before → x ≡ none

-- ---- rule f at line n is the first that the listing breaks, by the plain form of Rules
abbrev pub FirstBroken : Text → Fault → ℕ → Type 0
FirstBroken s f n = (broken s f n ≡ true) × ((g : Fault) (m : ℕ) → is_earlier g m f n ≡ true → broken s g m ≡ false)

-- the listing breaks no rule at any line
abbrev pub Unbroken : Text → Type 0
Unbroken s = (f : Fault) (n : ℕ) → broken s f n ≡ false

-- ---- `budquarry_read`, in 01's order
unfoldable pub read_rows : Text → List ℕ → List (Option Report)
unfolding reading_of
read_rows s w =
    row 1 (is_short w)  -- "work table below 4,096 numbers"
    ∷ listing_row 1 (reading_of s)  -- 2 to 10
    ∷ last_row
    ∷ []
