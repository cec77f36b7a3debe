-- What a call of comparing hands back and leaves, and the text that is printed of it.
use mathlib.Core.Path.{◌≡◌, refl, sym, ap, ◌∙◌}
use mathlib.Core.List.{List}
use Prim.Native.Nat.{ℕ, ◌+◌, ◌≤◌}
use native.Mathlib.Omega.{arith}
use lib.ListN.{length, drop, length-append}
use borrow.Author.Tests.{le-ltb}
use Rattle.text.specs.Texts.{Text}
use Rattle.listings.specs.Refusals.{Reading, accepted, refusal, number_of, reading_of}
use Rattle.listings.specs.declared.answers.Fault.{Fault}
use Rattle.listings.specs.declared.answers.Fault.TheVariants.{LongListing, BadFirstLine, BadForm, WrongPlace, BadName, BadPattern, RoleTwice, PastMost, NoEnd}
use Rattle.comparisons.specs.declared.answers.Comparison.{Comparison}
use Rattle.comparisons.specs.Outcomes.{Compared, refused_for, answered, compared, compared_new, compared_old, comparison_for, answer_for, comparison_of, answer_after, CompareOutcome}
use Rattle.compare.specs.Printed.{refusal_line, written, printed_for, printed_of}

-- a text that is written fits
pub written_fits : (t out out' : Text) (r : ℕ) → r ≡ length t → out' ≡ written t out → r ≤ length out'
written_fits t out out' r e p =
    let l : length out' ≡ length t + length (drop (length t) out) = ap length p ∙ length-append t (drop (length t) out) in
    omega arith

-- ---- a refusal's number is never 0
some_number : (f : Fault) → number_of f ≡ 0 → ⊥
some_number LongListing e = omega arith
some_number BadFirstLine e = omega arith
some_number BadForm e = omega arith
some_number WrongPlace e = omega arith
some_number BadName e = omega arith
some_number BadPattern e = omega arith
some_number RoleTwice e = omega arith
some_number PastMost e = omega arith
some_number NoEnd e = omega arith

-- so number 0 stands beside an answer alone, which is what is printed
abbrev AsPrinted : Compared → Text → Type 0
AsPrinted d answer = ((comparison_for d).length ≡ length (printed_for d)) × (answer_for d answer ≡ written (printed_for d) answer)

zero_new : (old new answer : Text) (r : Reading) → (comparison_for (compared_new old new r)).report.number ≡ 0 → AsPrinted (compared_new old new r) answer
unfolding printed_for
zero_new old new answer accepted e = (refl, refl)
zero_new old new answer (refusal f n) e = absurd (some_number f e)

zero_old : (old new answer : Text) (r : Reading) → (comparison_for (compared_old old new r)).report.number ≡ 0 → AsPrinted (compared_old old new r) answer
zero_old old new answer accepted e = zero_new old new answer (reading_of new) e
zero_old old new answer (refusal f n) e = absurd (some_number f e)

-- beside another number the buffer is as before, and the line is that of what is handed back
other : (d : Compared) (answer : Text) → ((comparison_for d).report.number ≡ 0 → ⊥)
    → (refusal_line (comparison_for d).report.number (comparison_for d).report.side (comparison_for d).report.line ≡ printed_for d) × (answer_for d answer ≡ answer)
unfolding printed_for
other (refused_for number side line) answer h = (refl, refl)
other (answered t) answer h = absurd (h refl)

-- ---- with room enough
module _ (old new answer : Text) (work : List ℕ) (room : 1024 ≤ length answer) (wide : 4096 ≤ length work)
    (c : Comparison) (left : Text) (work' : List ℕ) (o : CompareOutcome old new answer work c left work') where
  roomy : compared old new answer work ≡ compared_old old new (reading_of old)
  unfolding compared
  roomy = rw (le-ltb (length work) 4096 wide, le-ltb (length answer) 1024 room)

  handed : c ≡ comparison_for (compared_old old new (reading_of old))
  unfolding comparison_of
  handed = o.handed ∙ ap comparison_for roomy

  leaves : left ≡ answer_for (compared_old old new (reading_of old)) answer
  unfolding answer_after
  leaves = o.buffer ∙ ap (λ (d : Compared). answer_for d answer) roomy

  number_of_lem : c.report.number ≡ (comparison_for (compared_old old new (reading_of old))).report.number
  number_of_lem = ap (λ (x : Comparison). x.report.number) handed

  -- number 0: the answer is what is printed
  module _ (none : c.report.number ≡ 0) where
    pub answer_size_lem : c.length ≡ length (printed_of old new)
    unfolding printed_of
    answer_size_lem = ap (λ (x : Comparison). x.length) handed ∙ (zero_old old new answer (reading_of old) (sym number_of_lem ∙ none)).0

    pub answer_bytes : left ≡ written (printed_of old new) answer
    unfolding printed_of
    answer_bytes = leaves ∙ (zero_old old new answer (reading_of old) (sym number_of_lem ∙ none)).1

    pub answer_fits : c.length ≤ length left
    answer_fits = written_fits (printed_of old new) answer left c.length answer_size_lem answer_bytes

  -- another number: the refusal's line is
  module _ (some : c.report.number ≡ 0 → ⊥) where
    line : (refusal_line c.report.number c.report.side c.report.line ≡ printed_of old new) × (left ≡ answer)
    unfolding printed_of
    line =
        let p = other (compared_old old new (reading_of old)) answer (λ e. some (number_of_lem ∙ e)) in
        (ap (λ (x : Comparison). refusal_line x.report.number x.report.side x.report.line) handed ∙ p.0, leaves ∙ p.1)

    pub refused_size : (r : ℕ) → r ≡ length (refusal_line c.report.number c.report.side c.report.line) → r ≡ length (printed_of old new)
    refused_size r e = e ∙ ap length line.0

    pub refused_bytes : (left' : Text) → left' ≡ written (refusal_line c.report.number c.report.side c.report.line) left → left' ≡ written (printed_of old new) answer
    refused_bytes left' e = e ∙ rw (line.0, line.1)
