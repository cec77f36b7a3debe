-- What the customer asks of `budquarry_read`, as types over its outcomes, those that satisfy its statement: proofs/Demands has the proofs.
use Rattle.std.specs.Prelude.{ℕ, ◌≤◌, ◌<◌, ◌≡◌, false, List, ◌++◌, ◌↔◌, length, replicate, drop}
use Rattle.text.specs.Texts.{Text}
use Rattle.listings.specs.Rules.{broken, row_number}
use Rattle.worktable.specs.Work.{work_size, is_short}
use Rattle.listings.specs.declared.answers.Fault.{Fault}
use Rattle.listings.specs.declared.answers.Report.{Report}
use Rattle.reading.specs.Outcomes.{ReadOutcome}
use Rattle.listings.specs.Refusals.{report}
use Rattle.reading.specs.Rows.{FirstGiven, FirstBroken, read_rows}

-- "After every call the first 4,096 work numbers are zero and the rest as before; with refusal 1 none changes."
pub record TableLeft (work left : List ℕ) : Type 0 where
  pub short : length work < work_size → left ≡ work
  pub long : work_size ≤ length work → left ≡ replicate work_size 0 ++ drop work_size work

-- what is asked of one outcome: with listing s and work table w, r is handed back and the work table left
pub record DefiniteReading (s : Text) (w : List ℕ) (r : Report) (left : List ℕ) : Type 0 where
  -- no other outcome satisfies the statement
  pub settled : (r' : Report) (left' : List ℕ) → ReadOutcome s w r' left' → (r ≡ r') × (left ≡ left')
  -- any other work table that is long enough gives the same, whatever stands in it
  pub alike : (w' : List ℕ) (r' : Report) (left' : List ℕ) → work_size ≤ length w → work_size ≤ length w' → ReadOutcome s w' r' left' → r ≡ r'
  -- number, side and line are those of the first row of 01's table that is given, and no others
  pub row : (q : Report) → (r ≡ q) ↔ FirstGiven (read_rows s w) q
  -- a rule's number, side 1 and line n: exactly where the table is long enough and the listing breaks that rule there first
  pub rule : (f : Fault) (n : ℕ) → (r ≡ report (row_number f) 1 n) ↔ ((is_short w ≡ false) × FirstBroken s f n)
  -- 0, 0 and 0: exactly where the table is long enough and no rule is broken at any line
  pub accepts : (r ≡ report 0 0 0) ↔ ((is_short w ≡ false) × ((f : Fault) (n : ℕ) → broken s f n ≡ false))
  pub table : TableLeft w left

-- demand 1: whatever the listing and the work table, there is an outcome, and every outcome is definite
pub record EveryReadingIsDefinite : Type 0 where
  pub outcome : (s : Text) (w : List ℕ) → (r : Report) × (left : List ℕ) × ReadOutcome s w r left
  pub definite : (s : Text) (w : List ℕ) (r : Report) (left : List ℕ) → ReadOutcome s w r left → DefiniteReading s w r left
