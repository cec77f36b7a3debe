-- The statement of the call settles its outcome: two outcomes that both satisfy it are equal.
use mathlib.Core.Path.{◌≡◌, sym, ◌∙◌}
use mathlib.Core.List.{List}
use Prim.Native.Nat.{ℕ, ◌≤◌}
use lib.ListN.{length, drop}
use borrow.Author.Tests.{le-ltb}
use Rattle.text.specs.Texts.{Text}
use Rattle.worktable.specs.Work.{work_size, work_after}
use Rattle.reading.proofs.Unique.{work_same}
use Rattle.comparisons.specs.declared.answers.Comparison.{Comparison}
use Rattle.comparisons.specs.Outcomes.{compared, comparison_of, answer_after, CompareOutcome}

-- in all components
pub compare_unique : (old new answer : Text) (work : List ℕ) (c c' : Comparison) (a a' : Text) (w w' : List ℕ)
    → CompareOutcome old new answer work c a w → CompareOutcome old new answer work c' a' w' → (c ≡ c') × (a ≡ a') × (w ≡ w')
compare_unique old new answer work c c' a a' w w' o o' = (o.handed ∙ sym o'.handed, o.buffer ∙ sym o'.buffer, o.worked ∙ sym o'.worked)

-- what stood in the work table's first 4,096 numbers never matters
pub contents_never_matter : (old new answer : Text) (w w' : List ℕ) → work_size ≤ length w → length w ≡ length w' → drop work_size w ≡ drop work_size w'
    → (comparison_of old new answer w ≡ comparison_of old new answer w') × (answer_after old new answer w ≡ answer_after old new answer w') × (work_after w ≡ work_after w')
unfolding comparison_of answer_after compared
contents_never_matter old new answer w w' long even e = (rw even, rw even, work_same w w' long even e)

-- and what is handed back and written is the same with any two work tables that are long enough, however long they are
pub table_never_matters : (old new answer : Text) (w w' : List ℕ) → work_size ≤ length w → work_size ≤ length w'
    → (comparison_of old new answer w ≡ comparison_of old new answer w') × (answer_after old new answer w ≡ answer_after old new answer w')
unfolding comparison_of answer_after compared
table_never_matters old new answer w w' long long' =
    let e = le-ltb (length w) work_size long in
    let f = le-ltb (length w') work_size long' in
    (rw (e, f), rw (e, f))
