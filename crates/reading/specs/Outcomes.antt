-- What a call hands back, and what it leaves in the lent work table.
use Rattle.std.specs.Prelude.{ℕ, ◌≡◌, cond, List}
use Rattle.text.specs.Texts.{Text}
use Rattle.worktable.specs.Work.{is_short, work_after}
use Rattle.listings.specs.Refusals.{Reading, accepted, refusal, number_of, short_table, reading_of, report}
use Rattle.listings.specs.declared.answers.Report.{Report}

-- number, side and line: "Without a refusal number, side and line are 0"
abbrev pub report_of : ℕ → Reading → Report
report_of side accepted = report 0 0 0
report_of side (refusal f n) = report (number_of f) side n

-- refusal 1 has side 0 and line 0
abbrev pub short_report : Report
short_report = report short_table 0 0

-- `budquarry_read`: one listing, side 1
unfoldable pub read_report : Text → List ℕ → Report
unfolding reading_of
read_report s w = cond (is_short w) short_report (report_of 1 (reading_of s))

-- the whole outcome of the call on listing s and work table w: what is handed back, and the work table after it
pub record ReadOutcome (s : Text) (w : List ℕ) (report : Report) (left : List ℕ) : Type 0 where
  pub handed : report ≡ read_report s w
  pub work : left ≡ work_after w
