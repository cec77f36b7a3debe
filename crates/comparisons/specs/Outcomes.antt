-- What `budquarry_compare(old, new, answer, work)` hands back, and what it leaves in the answer buffer and the work table.
use Rattle.std.specs.Prelude.{ℕ, ◌≡◌, Bool, cond, List, ◌++◌, length, drop, ltb}
use Rattle.text.specs.Texts.{Text}
use Rattle.listings.specs.Refusals.{Reading, accepted, refusal, number_of, short_table, small_answer, reading_of, report}
use Rattle.listings.specs.Listings.{listing_of}
use Rattle.worktable.specs.Work.{is_short, work_after}
use Rattle.trials.specs.Verdicts.{verdict}
use Rattle.trials.specs.Answers.{answer_of}
use Rattle.comparisons.specs.declared.answers.Comparison.{Comparison}

-- ---- a refusal, with its number, side and line, or an answer's text
pub data Compared : Type 0 where
  refused_for : ℕ → ℕ → ℕ → Compared
  answered : Text → Compared

abbrev pub answer_size : ℕ
answer_size = 1024

-- 14: "answer buffer below 1,024 bytes"
abbrev pub is_small : Text → Bool
is_small answer = ltb (length answer) answer_size

-- both are accepted
abbrev pub compared_both : Text → Text → Compared
compared_both old new = answered (answer_of (verdict (listing_of old) (listing_of new)))

-- "all of the old listing's, its 2 included, before the new one's"
abbrev pub compared_new : Text → Text → Reading → Compared
compared_new old new accepted = compared_both old new
compared_new old new (refusal f n) = refused_for (number_of f) 2 n

abbrev pub compared_old : Text → Text → Reading → Compared
compared_old old new accepted = compared_new old new (reading_of new)
compared_old old new (refusal f n) = refused_for (number_of f) 1 n

-- 1 and 14 come first
unfoldable pub compared : Text → Text → Text → List ℕ → Compared
unfolding reading_of verdict listing_of answer_of
compared old new answer work =
    cond (is_short work) (refused_for short_table 0 0)
    (cond (is_small answer) (refused_for small_answer 0 0)
    (compared_old old new (reading_of old)))

-- ---- what comes of it
-- "The number handed back is its length", 0 with a refusal; "Without a refusal number, side and line are 0"
abbrev pub comparison_for : Compared → Comparison
comparison_for (refused_for number side line) = record { report = report number side line; length = 0 }
comparison_for (answered t) = record { report = report 0 0 0; length = length t }

-- the answer's bytes, then the rest of the buffer as before; with a refusal "the answer buffer doesn't change"
abbrev pub answer_for : Compared → Text → Text
answer_for (refused_for number side line) answer = answer
answer_for (answered t) answer = t ++ drop (length t) answer

unfoldable pub comparison_of : Text → Text → Text → List ℕ → Comparison
unfolding compared
comparison_of old new answer work = comparison_for (compared old new answer work)

unfoldable pub answer_after : Text → Text → Text → List ℕ → Text
unfolding compared
answer_after old new answer work = answer_for (compared old new answer work) answer

-- the whole outcome of the call, with the answer buffer and the work table before it: what is handed back, and both after it
pub record CompareOutcome (old new answer : Text) (work : List ℕ) (comparison : Comparison) (answerLeft : Text) (workLeft : List ℕ) : Type 0 where
  pub handed : comparison ≡ comparison_of old new answer work
  pub buffer : answerLeft ≡ answer_after old new answer work
  pub worked : workLeft ≡ work_after work
