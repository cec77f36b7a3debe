-- What the customer asks of `budquarry_decide`, as types over its outcomes, those that satisfy its statement: proofs/Demands has the proofs.
use Rattle.std.specs.Prelude.{ℕ, ◌≤◌, ◌≡◌, true, false, ◌↔◌, length}
use mathlib.Core.List.{List, Memᴰ}
use Rattle.std.proofs.Math.Option.{some}
use Rattle.text.specs.Texts.{Text}
use Rattle.text.specs.Lines.{lines_of}
use Rattle.listings.specs.Refusals.{accepted, reading_of, report}
use Rattle.listings.specs.Listings.{listing_of}
use Rattle.worktable.specs.Work.{work_size, is_short}
use Rattle.listings.specs.Rules.{row_number}
use Rattle.listings.specs.declared.answers.Fault.{Fault}
use Rattle.listings.specs.declared.answers.Report.{Report}
use Rattle.reading.specs.Rows.{FirstGiven, FirstBroken}
use Rattle.reading.specs.Demands.{TableLeft}
use Rattle.decisions.specs.Requests.{Caller, is_path, is_method, names_in, caller_of}
use Rattle.decisions.specs.Decisions.{decide, is_grant, answer_number}
use Rattle.decisions.specs.declared.answers.Answer.{Answer}
use Rattle.deciding.specs.Outcomes.{answered, is_granted, Asked, asked, request_for, DecideOutcome}
use Rattle.deciding.specs.Rows.{decide_rows}
use Rattle.deciding.specs.declared.answers.Decision.{Decision}

-- ---- demand 1
-- what is asked of one outcome: asked a with work table w, d is handed back and the work table left
pub record DefiniteDecision (a : Asked) (w : List ℕ) (d : Decision) (left : List ℕ) : Type 0 where
  -- no other outcome satisfies the statement
  pub settled : (d' : Decision) (left' : List ℕ) → DecideOutcome a w d' left' → (d ≡ d') × (left ≡ left')
  -- any other work table that is long enough gives the same, whatever stands in it
  pub alike : (w' : List ℕ) (d' : Decision) (left' : List ℕ) → work_size ≤ length w → work_size ≤ length w' → DecideOutcome a w' d' left' → d ≡ d'
  -- number, side and line are those of the first row of 01's table that is given, and no others
  pub row : (q : Report) → (d.report ≡ q) ↔ FirstGiven (decide_rows a w) q
  -- a rule's number, side 1 and line n: exactly where the table is long enough and the listing breaks that rule there first
  pub rule : (f : Fault) (n : ℕ) → (d.report ≡ report (row_number f) 1 n) ↔ ((is_short w ≡ false) × FirstBroken a.listing f n)
  -- beside a refusal nothing is granted: the answer is 0
  pub silent : 1 ≤ d.report.number → (d.answer ≡ 0) × (is_granted d ≡ false)
  pub table : TableLeft w left

-- whatever is asked and whatever the work table, there is an outcome, and every outcome is definite
pub record EveryDecisionIsDefinite : Type 0 where
  pub outcome : (a : Asked) (w : List ℕ) → (d : Decision) × (left : List ℕ) × DecideOutcome a w d left
  pub definite : (a : Asked) (w : List ℕ) (d : Decision) (left : List ℕ) → DecideOutcome a w d left → DefiniteDecision a w d left

-- ---- demand 2
-- caller c asks, and no row of 01's table is given: table, listing, path, method and caller are good
pub record Asks (a : Asked) (w : List ℕ) (c : Caller) : Type 0 where
  pub long : is_short w ≡ false
  pub reads : reading_of a.listing ≡ accepted
  pub path : is_path a.path ≡ true
  pub method : is_method a.method ≡ true
  pub called : caller_of a.login a.names ≡ some c

-- what 01 answers to this caller
abbrev pub answer_for : Asked → Caller → Answer
answer_for a c = decide (listing_of a.listing) (request_for a c)

-- nothing is refused, and the answer is no grant
abbrev pub Denied : Decision → Type 0
Denied d = (d.report.number ≡ 0) × (is_granted d ≡ false)

-- what is asked of one outcome
pub record RightDecision (a : Asked) (w : List ℕ) (d : Decision) : Type 0 where
  -- nothing is refused exactly where a caller asks and no row is given
  pub heard : (d.report.number ≡ 0) ↔ ((c : Caller) × Asks a w c)
  -- and then the answer is 01's
  pub answer : (c : Caller) → Asks a w c → d ≡ answered (answer_number (answer_for a c))
  -- so it is a grant exactly where 01's is, and a denial exactly where 01's is
  pub grant : (is_granted d ≡ true) ↔ ((c : Caller) × Asks a w c × (is_grant (answer_for a c) ≡ true))
  pub denial : Denied d ↔ ((c : Caller) × Asks a w c × (is_grant (answer_for a c) ≡ false))

-- every outcome is right
abbrev pub EveryDecisionIsRight : Type 0
EveryDecisionIsRight = (a : Asked) (w : List ℕ) (d : Decision) (left : List ℕ) → DecideOutcome a w d left → RightDecision a w d

-- ---- a grant is never lost
-- every name of the one text is a name of the other, in whatever order and however often
abbrev pub NamesAmong : Text → Text → Type 0
NamesAmong names names' = (n : Text) → Memᴰ n (names_in (lines_of names)) → Memᴰ n (names_in (lines_of names'))

-- of two calls with the same listing, path and method, the second one's caller logged in where the first one's is and with all its names: what is granted to the
-- first is granted to the second, unless the second is refused
abbrev pub LoginNeverLoses : Type 0
LoginNeverLoses =
    (listing path method : Text) (login login' : ℕ) (names names' : Text) (w w' left left' : List ℕ) (d d' : Decision)
    → DecideOutcome (asked listing path method login names) w d left → DecideOutcome (asked listing path method login' names') w' d' left'
    → login ≤ login' → NamesAmong names names' → d'.report.number ≡ 0
    → is_granted d ≡ true → is_granted d' ≡ true
