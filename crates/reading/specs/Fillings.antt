-- Reading as it goes over the work table, line by line. `proofs/` shows that this is the reading of Refusals.
use Rattle.std.specs.Prelude.{ℕ, suc, ◌+◌, ◌≤◌, ◌<◌, ◌≡◌, Bool, true, false, cond, List, [], ◌∷◌, length, drop, ltb, Result, Ok, Err}
use Rattle.std.proofs.Math.Option.{Option, none, some}
use Rattle.text.specs.Texts.{Text}
use Rattle.text.specs.Lines.{Line, lines_of}
use Rattle.listings.specs.Records.{Record, formed, is_kind}
use Rattle.listings.specs.declared.records.Kind.{Kind}
use Rattle.listings.specs.declared.records.Kind.TheVariants.{End}
use Rattle.listings.specs.declared.answers.Fault.{Fault}
use Rattle.listings.specs.declared.answers.Fault.TheVariants.{BadForm, NoEnd}
use Rattle.listings.specs.Refusals.{Reading, accepted, refusal}
use Rattle.entries.specs.declared.tables.Tally.{Tally}
use Rattle.reading.specs.declared.reader.Cursor.{Cursor}
use Rattle.reading.specs.declared.reader.Lined.{Lined}
use Rattle.reading.specs.declared.reader.Lined.TheVariants.{Moved, Ended}
use Rattle.reading.specs.declared.reader.Refusal.{Refusal}
use Rattle.entries.specs.Tables.{Tables, Stepping, step_from, tables_at, Fits, next, wrong}

-- what a line comes to: a fault, or the tables after it and the lines behind it, `end` told apart
pub data Lining : Type 0 where
  bad : Fault → Lining
  moved : Tables → List Line → Lining
  ended : Tables → List Line → Lining

abbrev pub is_end_kind : Kind → Bool
is_end_kind k = is_kind End (record { kind = k; field = [] })

abbrev pub lined_by : Bool → Stepping → List Line → Lining
lined_by isEnd (wrong f) ls = bad f
lined_by true (next T) ls = ended T ls
lined_by false (next T) ls = moved T ls

abbrev pub line_with : Tables → Option Record → List Line → Lining
line_with T none ls = bad BadForm
line_with T (some r) ls = lined_by (is_kind End r) (step_from T r) ls

unfoldable pub line_from : Tables → List Line → Lining
unfolding formed step_from
line_from T [] = bad NoEnd
line_from T (l ∷ ls) = line_with T (formed l) ls

pub data Filling : Type 0 where
  filled : Tables → Filling
  unfilled : Fault → ℕ → Filling

abbrev pub closing : Tables → ℕ → List Line → Filling
closing T n [] = filled T
closing T n (l ∷ ls) = unfilled NoEnd n

-- reading from line n on
unfoldable pub fill_from : Tables → ℕ → List Line → Filling
unfolding formed step_from
fill_from T n [] = unfilled NoEnd n
fill_from T n (l ∷ ls) =
    elim (line_with T (formed l) ls) [
      | bad f ↦ unfilled f n
      | moved U ks ↦ fill_from U (suc n) ls
      | ended U ks ↦ closing U (suc n) ls
    ]

abbrev pub answer_of : Filling → Reading
answer_of (filled T) = accepted
answer_of (unfilled f n) = refusal f n

-- ---- the program's answers in those terms
abbrev pub line_shown : Text → Result Lined Fault → List ℕ → Lining
line_shown s (Ok (Moved t c)) w = moved (tables_at s t w) (lines_of (drop c.at s))
line_shown s (Ok (Ended t c)) w = ended (tables_at s t w) (lines_of (drop c.at s))
line_shown s (Err f) w = bad f

-- counts that fit, and a cursor that has gone on by one line
pub record Gone (s : Text) (c : Cursor) (t : Tally) (d : Cursor) (w : List ℕ) : Type 0 where
  pub fits : Fits s t w
  pub on : c.at < d.at
  pub within : d.at ≤ length s
  pub counted : d.line ≡ c.line + 1

abbrev pub LineFits : Text → Cursor → Result Lined Fault → List ℕ → Type 0
LineFits s c (Ok (Moved t d)) w = Gone s c t d w
LineFits s c (Ok (Ended t d)) w = Gone s c t d w
LineFits s c (Err f) w = Unit {0}

pub record LineOutcome (s : Text) (c : Cursor) (due : Lining) (out : Result Lined Fault) (w : List ℕ) : Type 0 where
  pub answer : line_shown s out w ≡ due
  pub fits : LineFits s c out w

-- the line at the cursor ends at e
pub record LineEnd (s : Text) (c : Cursor) (e : ℕ) : Type 0 where
  pub here : e < length s
  pub from : c.at ≤ e
  pub few : c.line ≤ 100000

-- what stands behind the `end` line
unfoldable pub closed_at : Text → Tally → Cursor → Result Tally Refusal
closed_at s t c = cond (ltb c.at (length s)) (Err (record { fault = NoEnd; line = c.line })) (Ok t)

abbrev pub fill_shown : Text → Result Tally Refusal → List ℕ → Filling
fill_shown s (Ok t) w = filled (tables_at s t w)
fill_shown s (Err r) w = unfilled r.fault r.line

abbrev pub FillFits : Text → Result Tally Refusal → List ℕ → Type 0
FillFits s (Ok t) w = Fits s t w
FillFits s (Err r) w = Unit {0}

pub record FillOutcome (s : Text) (due : Filling) (out : Result Tally Refusal) (w : List ℕ) : Type 0 where
  pub answer : fill_shown s out w ≡ due
  pub fits : FillFits s out w
