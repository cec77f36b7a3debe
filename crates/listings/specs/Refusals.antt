-- "Refusal numbers and their order", as far as one listing goes: what reading answers to a text.
use Rattle.std.specs.Prelude.{ℕ, suc, Bool, false, cond, not, ◌&&◌, List, [], ◌∷◌, ◌++◌, length, ltb}
use Rattle.std.proofs.Math.Option.{Option, none, some}
use Rattle.text.specs.Texts.{Text, bytes, same, member, first}
use Rattle.text.specs.Lines.{Line, lines_of}
use Rattle.listings.specs.Records.{Record, formed, stage_after, may_follow, is_kind, declared_in}
use Rattle.listings.specs.Fields.{name_fits, pattern_fits}
use Rattle.limits.specs.Limits.{most_bytes}
use Rattle.listings.specs.Counts.{too_many}
use Rattle.listings.specs.declared.records.Kind.TheVariants.{Role, End}
use Rattle.listings.specs.declared.answers.Fault.{Fault}
use Rattle.listings.specs.declared.answers.Report.{Report}
use Rattle.listings.specs.declared.answers.Fault.TheVariants.{LongListing, BadFirstLine, BadForm, WrongPlace, BadName, BadPattern, RoleTwice, PastMost, NoEnd}

-- what reading answers: accepted, or the rule that is broken and the line
pub data Reading : Type 0 where
  accepted : Reading
  refusal : Fault → ℕ → Reading

-- ---- 01's numbers
abbrev pub number_of : Fault → ℕ
number_of LongListing = 2
number_of BadFirstLine = 3
number_of BadForm = 4
number_of WrongPlace = 5
number_of BadName = 6
number_of BadPattern = 7
number_of RoleTwice = 9
number_of PastMost = 8
number_of NoEnd = 10

-- those that are about no listing: a work table or an answer buffer that is too small, and a bad path, method or caller
abbrev pub short_table : ℕ
short_table = 1

abbrev pub small_answer : ℕ
small_answer = 14

abbrev pub bad_path : ℕ
bad_path = 11

abbrev pub bad_method : ℕ
bad_method = 12

abbrev pub bad_caller : ℕ
bad_caller = 13

-- what every call hands back first: number, side and line
abbrev pub report : ℕ → ℕ → ℕ → Report
report number side line = record { number = number; side = side; line = line }

-- ---- the rules for one record, by the records before it
-- 5: record in a wrong place
unfoldable pub in_wrong_place : List Record → Record → Bool
unfolding stage_after may_follow
in_wrong_place before r = not (may_follow (stage_after before) r.kind)

-- 6: bad role or method name, or constraint kind
abbrev pub has_bad_name : Record → Bool
has_bad_name r = not (name_fits r)

-- 7: bad pattern
abbrev pub has_bad_pattern : Record → Bool
has_bad_pattern r = not (pattern_fits r)

-- 9: role declared twice
unfoldable pub declares_again : List Record → Record → Bool
unfolding member declared_in
declares_again before r = is_kind Role r && member r.field (declared_in before)

-- 8: a most-number other than 2's passed by this line
abbrev pub passes_most : List Record → Record → Bool
passes_most before r = too_many (before ++ r ∷ [])

-- the rule is broken by the record (the other rules are about the text and its lines)
unfoldable pub breaks : List Record → Record → Fault → Bool
unfolding in_wrong_place name_fits pattern_fits declares_again too_many
breaks before r LongListing = false
breaks before r BadFirstLine = false
breaks before r BadForm = false
breaks before r WrongPlace = in_wrong_place before r
breaks before r BadName = has_bad_name r
breaks before r BadPattern = has_bad_pattern r
breaks before r RoleTwice = declares_again before r
breaks before r PastMost = passes_most before r
breaks before r NoEnd = false

-- "within a line 4, 5, 6, 7, 9, 8": behind 4, which is about the line's form
abbrev pub in_order : List Fault
in_order = WrongPlace ∷ BadName ∷ BadPattern ∷ RoleTwice ∷ PastMost ∷ []

unfoldable pub first_broken : List Record → Record → Option Fault
unfolding breaks first
first_broken before r = first (breaks before r) in_order

-- ---- the lines top down
-- "After the `end` line any byte gives 10 at the next line, nothing else"
abbrev pub after_end : ℕ → List Line → Reading
after_end n [] = accepted
after_end n (l ∷ ls) = refusal NoEnd n

-- from line n on, behind those records; "running out gives 10 at the line after the last"
unfoldable pub read_from : List Record → ℕ → List Line → Reading
unfolding formed first_broken
read_from before n [] = refusal NoEnd n
read_from before n (l ∷ ls) =
    elim (formed l) [
      | none ↦ refusal BadForm n
      | some r ↦ elim (first_broken before r) [
        | some f ↦ refusal f n
        | none ↦ cond (is_kind End r) (after_end (suc n) ls) (read_from (before ++ r ∷ []) (suc n) ls)
      ]
    ]

-- "The first line is exactly `constraints⇥1`"
abbrev pub first_line : Text
first_line = bytes "constraints\t1"

abbrev pub is_first_line : Line → Bool
is_first_line l = l.ended && same l.bytes first_line

unfoldable pub read_lines : List Line → Reading
unfolding read_from same
read_lines [] = refusal BadFirstLine 1
read_lines (l ∷ ls) = cond (is_first_line l) (read_from [] 2 ls) (refusal BadFirstLine 1)

-- what reading answers
unfoldable pub reading_of : Text → Reading
unfolding read_lines lines_of
reading_of s = cond (ltb most_bytes (length s)) (refusal LongListing 0) (read_lines (lines_of s))
