-- Reading gives a refusal exactly when its rule is broken at its line and none is that comes earlier, and accepts exactly when no rule is broken.
use mathlib.Core.Path.{◌≡◌, refl, sym, ap, ◌∙◌}
use mathlib.Core.Bool.{Bool, true, false, cond, not, ◌&&◌, and-false, and-true}
use mathlib.Core.List.{List, [], ◌∷◌, ◌++◌, append-nil, append_assoc}
use mathlib.Core.Option.{Option, none, some, some-ne-none}
use mathlib.Core.Logic.{◌↔◌}
use Prim.Native.Nat.{ℕ, zero, suc, ◌+◌, ◌-◌, ◌<◌}
use native.Mathlib.Omega.{arith}
use native.Mathlib.Numerals.{add-one}
use lib.ListN.{length, take}
use lib.Dec.{eqb, ltb, leb, eqb-suc-suc}
use borrow.Author.Tests.{le-leb, eq-eqb, ne_eqb, eqb-true, eqb-false}
use Rattle.text.specs.Texts.{Text}
use Rattle.text.specs.Lines.{Line, lines_of}
use Rattle.listings.specs.Records.{Record, formed}
use Rattle.limits.specs.Limits.{most_bytes}
use Rattle.listings.specs.Refusals.{accepted, refusal, number_of, breaks, read_from, is_first_line, read_lines, reading_of}
use Rattle.listings.specs.Listings.{records_in}
use Rattle.listings.specs.Rules.{line_at, records_before, is_ended, where_line, is_none, some_breaks, record_breaks, broken_in, broken, order_of, is_earlier, row_number}
use Rattle.listings.specs.declared.answers.Fault.{Fault}
use Rattle.listings.specs.declared.answers.Fault.TheVariants.{LongListing, BadFirstLine, BadForm, WrongPlace, BadName, BadPattern, RoleTwice, PastMost, NoEnd}
use Rattle.text.proofs.Truths.{not_so}
use Rattle.listings.proofs.Lineups.{one_rule, IsFirst, first_one, first_at, first_same}
use Rattle.listings.proofs.Downward.{is_rule, says_wrong, line_breaks, lack_breaks, broken_from, from_above, record_rules, read_first}

-- ---- the plain form is what is broken line by line
-- what is broken at a line, or where none stands, by the records before it
abbrev standing : List Record → Option Line → Bool → Fault → Bool
standing before none isNext f = lack_breaks before isNext f
standing before (some l) isNext f = line_breaks before l f

-- tests of equal numbers that hold together are the same
same_test : (a b c d : ℕ) → (a ≡ b → c ≡ d) → (c ≡ d → a ≡ b) → eqb a b ≡ eqb c d
same_test a b c d h i = go (eqb a b) refl
  where
    go : (t : Bool) → eqb a b ≡ t → t ≡ eqb c d
    go true e = sym (eq-eqb c d (h (eqb-true a b e)))
    go false e = sym (ne_eqb c d (λ j. eqb-false a b e (i j)))

-- the records of a line and of the lines behind it
records_more : (l : Line) (ls : List Line) → records_in (l ∷ []) ++ records_in ls ≡ records_in (l ∷ ls)
unfolding records_in
records_more l ls = go (formed l)
  where
    go : (o : Option Record) → elim o [ none ↦ [] | some r ↦ r ∷ [] ] ++ records_in ls ≡ elim o [ none ↦ records_in ls | some r ↦ r ∷ records_in ls ]
    go none = refl
    go (some r) = refl

-- the k-th line from line n on, by the records of the lines before it
from_plain : (before : List Record) (n : ℕ) (ls : List Line) (f : Fault) (k m : ℕ) → m ≡ n + k
    → broken_from before n ls f m ≡ standing (before ++ records_in (take k ls)) (line_at ls (suc k)) (eqb k (length ls)) f
unfolding broken_from records_in line_at
from_plain before n [] f zero m e = rw (append-nil, same_test m n 0 0 (λ i. refl) (λ i. omega arith))
from_plain before n [] f (suc k) m e = rw (append-nil, same_test m n (suc k) 0 (λ i. omega arith) (λ i. omega arith))
from_plain before n (l ∷ ls) f zero m e = rw (append-nil, eq-eqb m n (omega arith))
from_plain before n (l ∷ ls) f (suc k) m e =
    rw (ne_eqb m n (λ i. omega arith), eqb-suc-suc, ← records_more l (take k ls), ← append_assoc) (from_plain (before ++ records_in (l ∷ [])) (suc n) ls f k m (omega arith))

-- no line stands behind the last
past_last : (ls : List Line) → line_at ls (suc (length ls)) ≡ none
unfolding line_at
past_last [] = refl
past_last (l ∷ ls) = past_last ls

-- so where a line stands is not behind the last
line_not_next : (ls : List Line) (n : ℕ) (l : Line) → line_at ls n ≡ some l → eqb n (length ls + 1) ≡ false
line_not_next ls n l e = ne_eqb n (length ls + 1) (λ i. some-ne-none l (sym e ∙ rw (i, add-one) (past_last ls)))

-- a rule that tests a line's record: the plain form is what the line breaks
said : (later isNext : Bool) (before : List Record) (o : Option Line) (f : Fault) (test : Option Record → Bool) → is_rule NoEnd f ≡ false
    → ((r : Option Record) → test r ≡ says_wrong before r f)
    → (later && not (is_ended before)) && where_line o (λ (l : Line). test (formed l)) ≡ later && standing before o isNext f
said false isNext before o f test h i = refl
said true isNext before none f test h i = simp (h, and-false)
said true isNext before (some l) f test h i = go (is_ended before)
  where
    go : (b : Bool) → not b && test (formed l) ≡ cond b (is_rule NoEnd f) (says_wrong before (formed l) f)
    go true = sym h
    go false = i (formed l)

-- the tests of the plain form, on a line's record
some_breaks_lem : (before : List Record) (f : Fault) → is_rule BadForm f ≡ false → (r : Option Record) → some_breaks before f r ≡ says_wrong before r f
some_breaks_lem before f h none = sym h
some_breaks_lem before f h (some r) = refl

is_none_lem : (before : List Record) (r : Option Record) → is_none r ≡ says_wrong before r BadForm
unfolding breaks
is_none_lem before none = refl
is_none_lem before (some r) = refl

-- 2 and 3 are broken at no later line
never_standing : (before : List Record) (o : Option Line) (isNext : Bool) (f : Fault) → order_of f < 2 → standing before o isNext f ≡ false
never_standing before none isNext f h = rw (ne_eqb (order_of f) 8 (λ e. omega arith), and-false)
never_standing before (some l) isNext f h = rw (ne_eqb (order_of f) 8 (λ e. omega arith)) (go (is_ended before) (formed l))
  where
    go : (b : Bool) (r : Option Record) → cond b false (says_wrong before r f) ≡ false
    go true r = refl
    go false none = ne_eqb (order_of f) 2 (λ e. omega arith)
    go false (some r) = not_so _ (λ e. let i = record_rules before r f e in omega arith)

-- 10: the plain form is what the line breaks, or what is broken where no line stands
no_end : (later isNext : Bool) (before : List Record) (o : Option Line) → ((l : Line) → o ≡ some l → isNext ≡ false)
    → later && cond (is_ended before) (where_line o (λ (l : Line). true)) isNext ≡ later && standing before o isNext NoEnd
no_end false isNext before o h = refl
no_end true isNext before none h = go (is_ended before)
  where
    go : (b : Bool) → cond b false isNext ≡ isNext && not b
    go true = sym (and-false isNext)
    go false = sym (and-true isNext)
no_end true isNext before (some l) h = ap (λ x. cond (is_ended before) true x) (h l refl ∙ go (formed l))
  where
    go : (r : Option Record) → false ≡ says_wrong before r NoEnd
    go none = refl
    go (some r) = sym (not_so _ (λ e. let i = record_rules before r NoEnd e in omega arith))

module _ (size : ℕ) (l : Line) (ls : List Line) (notLong : ltb most_bytes size ≡ false) (good : is_first_line l ≡ true) where
  -- what is broken at line m, by the records before it
  abbrev at_line : Fault → ℕ → Bool
  at_line f m = standing (records_before (l ∷ ls) m) (line_at (l ∷ ls) m) (eqb m (length (l ∷ ls) + 1)) f

  -- 5, 6, 7, 9 and 8
  record_line : (f : Fault) (m : ℕ) → is_rule NoEnd f ≡ false → is_rule BadForm f ≡ false → record_breaks (l ∷ ls) f m ≡ leb 2 m && at_line f m
  record_line f m h i =
      let before = records_before (l ∷ ls) m in
      said (leb 2 m) (eqb m (length (l ∷ ls) + 1)) before (line_at (l ∷ ls) m) f (some_breaks before f) h (some_breaks_lem before f i)

  -- 2 and 3
  first_line_lem : (f : Fault) (m : ℕ) → order_of f < 2 → leb 2 m && at_line f m ≡ false
  first_line_lem f m h = rw (never_standing (records_before (l ∷ ls) m) (line_at (l ∷ ls) m) (eqb m (length (l ∷ ls) + 1)) f h, and-false)

  -- rule by rule, the plain form is what is broken at line m
  plain_line : (f : Fault) (m : ℕ) → broken_in size (l ∷ ls) f m ≡ leb 2 m && at_line f m
  unfolding broken_in line_at
  plain_line LongListing m = rw (notLong, and-false) (sym (first_line_lem LongListing m (omega arith)))
  plain_line BadFirstLine m = rw (good, and-false) (sym (first_line_lem BadFirstLine m (omega arith)))
  plain_line BadForm m = said (leb 2 m) (eqb m (length (l ∷ ls) + 1)) (records_before (l ∷ ls) m) (line_at (l ∷ ls) m) BadForm is_none refl (is_none_lem (records_before (l ∷ ls) m))
  plain_line WrongPlace m = record_line WrongPlace m refl refl
  plain_line BadName m = record_line BadName m refl refl
  plain_line BadPattern m = record_line BadPattern m refl refl
  plain_line RoleTwice m = record_line RoleTwice m refl refl
  plain_line PastMost m = record_line PastMost m refl refl
  plain_line NoEnd m = no_end (leb 2 m) (eqb m (length (l ∷ ls) + 1)) (records_before (l ∷ ls) m) (line_at (l ∷ ls) m) (line_not_next (l ∷ ls) m)

  -- behind a good first line, the plain form is what is broken from line 2 on
  plain_from : (f : Fault) (m : ℕ) → broken_in size (l ∷ ls) f m ≡ broken_from [] 2 ls f m
  unfolding line_at records_before
  plain_from f zero = plain_line f 0 ∙ sym (from_above [] 2 ls f 0 (omega arith))
  plain_from f (suc zero) = plain_line f 1 ∙ sym (from_above [] 2 ls f 1 (omega arith))
  plain_from f (suc (suc k)) =
      let two-less : suc (suc k) - 2 ≡ k = omega arith in
      let two-more = same_test (suc (suc k)) (suc (length ls) + 1) k (length ls) (λ i. omega arith) (λ i. omega arith) in
      plain_line f (suc (suc k)) ∙ rw (le-leb 2 (suc (suc k)) (omega arith), two-less, two-more) (sym (from_plain [] 2 ls f k (suc (suc k)) (omega arith)))

-- at line 0 nothing is broken but 2
line_zero : (size : ℕ) (ls : List Line) → ltb most_bytes size ≡ false → (f : Fault) → broken_in size ls f 0 ≡ false
unfolding broken_in
line_zero size ls h LongListing = rw h
line_zero size ls h BadFirstLine = refl
line_zero size ls h BadForm = refl
line_zero size ls h WrongPlace = refl
line_zero size ls h BadName = refl
line_zero size ls h BadPattern = refl
line_zero size ls h RoleTwice = refl
line_zero size ls h PastMost = refl
line_zero size ls h NoEnd = refl

-- a bad first line, or none, is the first
first_bad : (size : ℕ) (ls : List Line) → ltb most_bytes size ≡ false → where_line (line_at ls 1) is_first_line ≡ false
    → IsFirst (broken_in size ls) (refusal BadFirstLine 1)
unfolding broken_in
first_bad size ls h b =
    first_at (broken_in size ls) BadFirstLine 1 (rw b)
    (λ g m l. let e : m ≡ 0 = omega arith in rw e (line_zero size ls h g))
    (λ g l. rw (one_rule g LongListing (omega arith)))

-- the answer of reading the lines is the first of what is broken
lines_first : (size : ℕ) (ls : List Line) → ltb most_bytes size ≡ false → IsFirst (broken_in size ls) (read_lines ls)
unfolding read_lines line_at is_ended
lines_first size [] h = first_bad size [] h refl
lines_first size (l ∷ ls) h = go (is_first_line l) refl
  where
    go : (b : Bool) → is_first_line l ≡ b → IsFirst (broken_in size (l ∷ ls)) (cond b (read_from [] 2 ls) (refusal BadFirstLine 1))
    go true e = first_same (broken_in size (l ∷ ls)) (broken_from [] 2 ls) (read_from [] 2 ls) (plain_from size l ls h e) (read_first [] 2 ls refl)
    go false e = first_bad size (l ∷ ls) h e

-- ---- the theorems
-- the answer of reading is the first of what is broken
pub reading_first : (s : Text) → IsFirst (broken s) (reading_of s)
unfolding reading_of broken broken_in
reading_first s = go (ltb most_bytes (length s)) refl
  where
    go : (b : Bool) → ltb most_bytes (length s) ≡ b → IsFirst (broken s) (cond b (refusal LongListing 0) (read_lines (lines_of s)))
    go true e = first_at (broken s) LongListing 0 e (λ g m l. absurd (omega arith)) (λ g l. absurd (omega arith))
    go false e = lines_first (length s) (lines_of s) e

-- a refusal is given exactly when its rule is broken at its line, and none is that comes earlier
pub refused_exactly : (s : Text) (f : Fault) (n : ℕ)
    → (reading_of s ≡ refusal f n) ↔ ((broken s f n ≡ true) × ((g : Fault) (m : ℕ) → is_earlier g m f n ≡ true → broken s g m ≡ false))
refused_exactly s f n = (λ e. rw e at (reading_first s), first_one (broken s) (reading_of s) (refusal f n) (reading_first s))

-- a listing is accepted exactly when no rule is broken at any line
pub accepted_exactly : (s : Text) → (reading_of s ≡ accepted) ↔ ((f : Fault) (n : ℕ) → broken s f n ≡ false)
accepted_exactly s = (λ e. rw e at (reading_first s), first_one (broken s) (reading_of s) accepted (reading_first s))

-- ---- the numbers
-- a refusal's number is that of its row in 01's table
pub number_right : (f : Fault) → number_of f ≡ row_number f
number_right LongListing = refl
number_right BadFirstLine = refl
number_right BadForm = refl
number_right WrongPlace = refl
number_right BadName = refl
number_right BadPattern = refl
number_right RoleTwice = refl
number_right PastMost = refl
number_right NoEnd = refl

-- the index of a number in the rules' order
abbrev order_at : ℕ → ℕ
order_at k = cond (eqb k 8) 7 (cond (eqb k 9) 6 (k - 2))

order_at_lem : (f : Fault) → order_at (row_number f) ≡ order_of f
order_at_lem LongListing = refl
order_at_lem BadFirstLine = refl
order_at_lem BadForm = refl
order_at_lem WrongPlace = refl
order_at_lem BadName = refl
order_at_lem BadPattern = refl
order_at_lem RoleTwice = refl
order_at_lem PastMost = refl
order_at_lem NoEnd = refl

-- no two rules have the same number
pub one_number : (f g : Fault) → row_number f ≡ row_number g → f ≡ g
one_number f g e = one_rule f g (sym (order_at_lem f) ∙ ap order_at e ∙ order_at_lem g)
