-- The plain form of the refusals: which rule is broken at which line, whatever else is broken, and which comes first.
-- proofs/Exactly.antt shows that reading gives a refusal exactly when its rule is broken there and none is that comes earlier.
use Rattle.std.specs.Prelude.{ℕ, zero, suc, ◌+◌, ◌-◌, Bool, true, false, cond, not, ◌&&◌, ◌||◌, List, [], ◌∷◌, length, take, drop, eqb, ltb, leb}
use Rattle.std.proofs.Math.Option.{Option, none, some}
use Rattle.text.specs.Texts.{Text, same}
use Rattle.text.specs.Lines.{Line, lines_of}
use Rattle.listings.specs.Records.{Record, formed, is_kind}
use Rattle.limits.specs.Limits.{most_bytes}
use Rattle.listings.specs.Refusals.{is_first_line, breaks}
use Rattle.listings.specs.Listings.{records_in}
use Rattle.listings.specs.declared.records.Kind.TheVariants.{End}
use Rattle.listings.specs.declared.answers.Fault.{Fault}
use Rattle.listings.specs.declared.answers.Fault.TheVariants.{LongListing, BadFirstLine, BadForm, WrongPlace, BadName, BadPattern, RoleTwice, PastMost, NoEnd}

-- line n, counted from 1; none where there is no such line
unfoldable pub line_at : List Line → ℕ → Option Line
line_at [] n = none
line_at (l ∷ ls) zero = none
line_at (l ∷ ls) (suc zero) = some l
line_at (l ∷ ls) (suc (suc n)) = line_at ls (suc n)

-- the records of the lines 2 to n - 1
unfoldable pub records_before : List Line → ℕ → List Record
unfolding records_in
records_before ls n = records_in (take (n - 2) (drop 1 ls))

-- one of them is `end`
unfoldable pub is_ended : List Record → Bool
is_ended [] = false
is_ended (r ∷ rs) = is_kind End r || is_ended rs

-- a test of the line, where there is one
abbrev pub where_line : Option Line → (Line → Bool) → Bool
where_line none test = false
where_line (some l) test = test l

-- a test of what line n says (its record, or none), where it stands behind the first line and not behind `end`
abbrev pub where_record : List Line → ℕ → (Option Record → Bool) → Bool
where_record ls n test = (leb 2 n && not (is_ended (records_before ls n))) && where_line (line_at ls n) (λ (l : Line). test (formed l))

abbrev pub is_none : Option Record → Bool
is_none none = true
is_none (some r) = false

abbrev pub some_breaks : List Record → Fault → Option Record → Bool
some_breaks before f none = false
some_breaks before f (some r) = breaks before r f

-- line n has a record, and it breaks rule f by the records before it
abbrev pub record_breaks : List Line → Fault → ℕ → Bool
record_breaks ls f n = where_record ls n (some_breaks (records_before ls n) f)

-- rule f is broken at line n of a text of so many bytes and these lines
unfoldable pub broken_in : ℕ → List Line → Fault → ℕ → Bool
unfolding line_at records_before is_ended breaks formed same
-- 2: "listing over 24,576 bytes"; it is about the whole text, and has line 0
broken_in size ls LongListing n = eqb n 0 && ltb most_bytes size
-- 3: "first line isn't as above, or lacks its byte 10, or no bytes"
broken_in size ls BadFirstLine n = eqb n 1 && not (where_line (line_at ls 1) is_first_line)
-- 4: "on a later line: unknown record name, wrong number of fields, or no byte 10"
broken_in size ls BadForm n = where_record ls n is_none
-- 5: "record in a wrong place"
broken_in size ls WrongPlace n = record_breaks ls WrongPlace n
-- 6: "bad role or method name, or constraint kind"
broken_in size ls BadName n = record_breaks ls BadName n
-- 7: "bad pattern"
broken_in size ls BadPattern n = record_breaks ls BadPattern n
-- 9: "role declared twice"
broken_in size ls RoleTwice n = record_breaks ls RoleTwice n
-- 8: "a most-number other than 2's passed by this line"
broken_in size ls PastMost n = record_breaks ls PastMost n
-- 10: "no `end`, or bytes after it": any line behind `end`; and without an `end`, the line after the last
broken_in size ls NoEnd n =
    leb 2 n && cond (is_ended (records_before ls n)) (where_line (line_at ls n) (λ (l : Line). true)) (eqb n (length ls + 1))

-- rule f is broken at line n of the text, whatever else is broken
unfoldable pub broken : Text → Fault → ℕ → Bool
unfolding broken_in lines_of
broken s f n = broken_in (length s) (lines_of s) f n

-- "within a line 4, 5, 6, 7, 9, 8"; 2, 3 and 10 share their line with no other
abbrev pub order_of : Fault → ℕ
order_of LongListing = 0
order_of BadFirstLine = 1
order_of BadForm = 2
order_of WrongPlace = 3
order_of BadName = 4
order_of BadPattern = 5
order_of RoleTwice = 6
order_of PastMost = 7
order_of NoEnd = 8

-- "lines top down": rule f at line m comes before rule g at line n
abbrev pub is_earlier : Fault → ℕ → Fault → ℕ → Bool
is_earlier f m g n = ltb m n || (eqb m n && ltb (order_of f) (order_of g))

-- the number of each rule, as 01's table has it, in its order. It is written out here and in Refusals, so that the theorems check that one (`number_right`).
abbrev pub row_number : Fault → ℕ
row_number LongListing = 2
row_number BadFirstLine = 3
row_number BadForm = 4
row_number WrongPlace = 5
row_number BadName = 6
row_number BadPattern = 7
row_number RoleTwice = 9
row_number PastMost = 8
row_number NoEnd = 10
