-- What the customer asks of `budquarry_compare`, as types over its outcomes and those of `budquarry_decide`: proofs/Demands has the proofs.
use Rattle.std.specs.Prelude.{ℕ, ◌≤◌, ◌≡◌, true, ◌⊎◌, ◌↔◌, length, take, drop}
use mathlib.Core.List.{List, [], ◌∷◌, ◌++◌, Memᴰ}
use Rattle.std.proofs.Math.Option.{some}
use Rattle.text.specs.Texts.{Text, bytes, newline}
use Rattle.listings.specs.Refusals.{accepted, reading_of, report}
use Rattle.listings.specs.Listings.{listing_of}
use Rattle.worktable.specs.Work.{work_size}
use Rattle.listings.specs.Rules.{row_number}
use Rattle.listings.specs.declared.answers.Fault.{Fault}
use Rattle.listings.specs.declared.answers.Report.{Report}
use Rattle.reading.specs.Rows.{FirstGiven, FirstBroken}
use Rattle.reading.specs.Demands.{TableLeft}
use Rattle.decisions.specs.Requests.{Caller, nobody, logged_in, Request}
use Rattle.deciding.specs.Outcomes.{Asked, asked, is_granted, DecideOutcome}
use Rattle.deciding.specs.Demands.{Denied}
use Rattle.deciding.specs.declared.answers.Decision.{Decision}
use Rattle.trials.specs.Trials.{trials}
use Rattle.trials.specs.Answers.{answer_of}
use Rattle.trials.specs.Demands.{NobodyOrOne}
use Rattle.comparisons.specs.Outcomes.{answer_size, CompareOutcome}
use Rattle.comparisons.specs.Rows.{compare_rows, Roomy}
use Rattle.comparisons.specs.declared.answers.Comparison.{Comparison}

-- ---- demand 1
-- what is asked of one outcome: with both listings, answer buffer and work table, c is handed back and buffer and table are left
pub record DefiniteComparison (old new answer : Text) (work : List ℕ) (c : Comparison) (left : Text) (workLeft : List ℕ) : Type 0 where
  -- no other outcome satisfies the statement
  pub settled : (c' : Comparison) (left' : Text) (workLeft' : List ℕ) → CompareOutcome old new answer work c' left' workLeft'
      → (c ≡ c') × (left ≡ left') × (workLeft ≡ workLeft')
  -- any other work table that is long enough gives the same, whatever stands in it
  pub alike : (work' : List ℕ) (c' : Comparison) (left' : Text) (workLeft' : List ℕ) → work_size ≤ length work → work_size ≤ length work'
      → CompareOutcome old new answer work' c' left' workLeft' → (c ≡ c') × (left ≡ left')
  -- number, side and line are those of the first row of 01's table that is given, and no others
  pub row : (q : Report) → (c.report ≡ q) ↔ FirstGiven (compare_rows old new answer work) q
  -- a rule's number, side 1 and line n: exactly where there is room and the old listing breaks that rule there first
  pub rule_of_old : (f : Fault) (n : ℕ) → (c.report ≡ report (row_number f) 1 n) ↔ (Roomy answer work × FirstBroken old f n)
  -- side 2: exactly where the old listing is accepted and the new one breaks that rule there first
  pub rule_of_new : (f : Fault) (n : ℕ) → (c.report ≡ report (row_number f) 2 n) ↔ (Roomy answer work × (reading_of old ≡ accepted) × FirstBroken new f n)
  -- nothing is refused exactly where there is room and both listings are accepted
  pub heard : (c.report.number ≡ 0) ↔ (Roomy answer work × (reading_of old ≡ accepted) × (reading_of new ≡ accepted))
  -- beside a refusal nothing is written, and the length is 0
  pub silent : 1 ≤ c.report.number → (left ≡ answer) × (c.length ≡ 0)
  pub table : TableLeft work workLeft

-- whatever the listings, the buffer and the work table, there is an outcome, and every outcome is definite
pub record EveryComparisonIsDefinite : Type 0 where
  pub outcome : (old new answer : Text) (work : List ℕ)
      → (c : Comparison) × (left : Text) × (workLeft : List ℕ) × CompareOutcome old new answer work c left workLeft
  pub definite : (old new answer : Text) (work : List ℕ) (c : Comparison) (left : Text) (workLeft : List ℕ)
      → CompareOutcome old new answer work c left workLeft → DefiniteComparison old new answer work c left workLeft

-- ---- demand 3
-- two calls of deciding, the one with the old listing and the other with the new one: never is it denied with old and granted with new
abbrev pub NotGained : Asked → Asked → Type 0
NotGained ofOld ofNew =
    (w w' left left' : List ℕ) (d d' : Decision) → DecideOutcome ofOld w d left → DecideOutcome ofNew w' d' left'
    → Denied d → is_granted d' ≡ true → ⊥

-- so whatever deciding is asked: any path, method, login number and text of names
abbrev pub NothingGained : Text → Text → Type 0
NothingGained old new =
    (path method : Text) (login : ℕ) (names : Text) → NotGained (asked old path method login names) (asked new path method login names)

-- a request as deciding is asked it: the caller's login number, and his names, "each ended by byte 10"
abbrev pub login_of : Caller → ℕ
login_of nobody = 0
login_of (logged_in ns) = 1

unfoldable pub ended : List Text → Text
ended [] = []
ended (n ∷ ns) = n ++ newline ∷ ended ns

abbrev pub names_of : Caller → Text
names_of nobody = []
names_of (logged_in ns) = ended ns

unfoldable pub asked_for : Text → Request → Asked
unfolding ended
asked_for listing r = asked listing r.path r.method (login_of r.caller) (names_of r.caller)

-- what is written shows a request that the new listing gains, the first in 01's order
pub record ShowsGain (old new written : Text) : Type 0 where
  pub shown : Request
  pub lines : written ≡ answer_of (some shown)
  -- of one who is not logged in, or logged in with one role
  pub caller : NobodyOrOne shown.caller
  -- asked of deciding, every outcome with the old listing denies it, and every outcome with the new one grants it
  pub denied : (w left : List ℕ) (d : Decision) → work_size ≤ length w → DecideOutcome (asked_for old shown) w d left → Denied d
  pub granted : (w left : List ℕ) (d : Decision) → work_size ≤ length w → DecideOutcome (asked_for new shown) w d left → is_granted d ≡ true
  -- and no trial before it is gained
  pub before : List Request
  pub after : List Request
  pub split : trials (listing_of old) (listing_of new) ≡ before ++ shown ∷ after
  pub earlier : (q : Request) → Memᴰ q before → NotGained (asked_for old q) (asked_for new q)

-- what is asked of one outcome
pub record RightComparison (old new answer : Text) (c : Comparison) (left : Text) : Type 0 where
  -- nothing is refused
  pub unrefused : c.report ≡ report 0 0 0
  -- no wider is written exactly where deciding, asked anything at all, grants with the new listing nothing that it denies with the old one
  pub no_wider : (take c.length left ≡ bytes "verdict\tno wider\n") ↔ NothingGained old new
  -- so the length alone tells
  pub by_length : (c.length ≡ 17) ↔ NothingGained old new
  -- and else a request that is gained
  pub wider : (take c.length left ≡ bytes "verdict\tno wider\n") ⊎ ShowsGain old new (take c.length left)
  -- "bytes past it don't change"
  pub rest : (length left ≡ length answer) × (drop c.length left ≡ drop c.length answer)

-- every outcome is right, with room and two accepted listings
abbrev pub EveryComparisonIsRight : Type 0
EveryComparisonIsRight =
    (old new answer : Text) (work : List ℕ) (c : Comparison) (left : Text) (workLeft : List ℕ) → CompareOutcome old new answer work c left workLeft
    → work_size ≤ length work → answer_size ≤ length answer → reading_of old ≡ accepted → reading_of new ≡ accepted
    → RightComparison old new answer c left
