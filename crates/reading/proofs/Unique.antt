-- The statement of reading settles its outcome, and the earlier contents of the work table never matter.
use mathlib.Core.Path.{◌≡◌, sym, ◌∙◌}
use mathlib.Core.List.{List}
use Prim.Native.Nat.{ℕ, ◌≤◌}
use lib.ListN.{length, drop}
use borrow.Author.Tests.{le-ltb}
use Rattle.text.specs.Texts.{Text}
use Rattle.worktable.specs.Work.{work_size, zeroed, work_after}
use Rattle.reading.specs.Outcomes.{read_report, ReadOutcome}
use Rattle.listings.specs.declared.answers.Report.{Report}

-- two outcomes that both satisfy the statement are equal
pub read_unique : (s : Text) (w : List ℕ) (r r' : Report) (l l' : List ℕ) → ReadOutcome s w r l → ReadOutcome s w r' l' → (r ≡ r') × (l ≡ l')
read_unique s w r r' l l' o o' = (o.handed ∙ sym o'.handed, o.work ∙ sym o'.work)

-- of the work table only its length counts for what is handed back
pub report_same : (s : Text) (w w' : List ℕ) → length w ≡ length w' → read_report s w ≡ read_report s w'
unfolding read_report
report_same s w w' even = rw even

-- tables that differ in their first 4,096 numbers alone are left the same
pub work_same : (w w' : List ℕ) → work_size ≤ length w → length w ≡ length w' → drop work_size w ≡ drop work_size w' → work_after w ≡ work_after w'
unfolding work_after zeroed
work_same w w' long even e = rw (← even, le-ltb (length w) work_size long, e)

-- both together
pub contents_never_matter : (s : Text) (w w' : List ℕ) → work_size ≤ length w → length w ≡ length w' → drop work_size w ≡ drop work_size w'
    → (work_after w ≡ work_after w') × (read_report s w ≡ read_report s w')
contents_never_matter s w w' long even e = (work_same w w' long even e, report_same s w w' even)

-- and what is handed back is the same with any two work tables that are long enough, however long they are
pub table_never_matters : (s : Text) (w w' : List ℕ) → work_size ≤ length w → work_size ≤ length w' → read_report s w ≡ read_report s w'
unfolding read_report
table_never_matters s w w' long long' = rw (le-ltb (length w) work_size long, le-ltb (length w') work_size long')
