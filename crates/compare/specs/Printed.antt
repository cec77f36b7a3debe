-- The text that is printed of an old and a new listing: the answer's, or "on a refusal [..] one line, `refused⇥NUMBER⇥SIDE⇥LINE`".
use Rattle.std.specs.Prelude.{ℕ, ◌≡◌, List, [], ◌∷◌, ◌++◌, length, drop}
use Rattle.text.specs.Texts.{Text, bytes, tab}
use Rattle.listings.specs.Refusals.{reading_of}
use Rattle.worktable.specs.Work.{work_after}
use Rattle.trials.specs.Answers.{line_of}
use Rattle.writing.specs.Decimals.{digits}
use Rattle.comparisons.specs.Outcomes.{Compared, refused_for, answered, compared_old}

-- a 32-bit number has ten decimal digits at most
abbrev pub decimal : ℕ → Text
decimal n = digits 10 n

-- what the line of a refusal has behind its number
abbrev pub where_text : ℕ → ℕ → Text
where_text side line = (tab ∷ decimal side) ++ (tab ∷ decimal line) ++ bytes "\n"

unfoldable pub refusal_line : ℕ → ℕ → ℕ → Text
unfolding line_of digits
refusal_line number side line = line_of (bytes "refused" ∷ decimal number ∷ decimal side ∷ decimal line ∷ [])

unfoldable pub printed_for : Compared → Text
unfolding refusal_line
printed_for (refused_for number side line) = refusal_line number side line
printed_for (answered t) = t

-- the program lends a work table and an answer buffer that are large enough, so that 1 and 14 are not given
unfoldable pub printed_of : Text → Text → Text
unfolding printed_for reading_of
printed_of old new = printed_for (compared_old old new (reading_of old))

-- t at the start of a buffer, the rest as before
abbrev pub written : Text → Text → Text
written t out = t ++ drop (length t) out

-- the whole outcome, with the text's buffer and the work table before it: how many bytes are printed, and both after it
pub record PrintOutcome (old new text : Text) (work : List ℕ) (count : ℕ) (textLeft : Text) (workLeft : List ℕ) : Type 0 where
  pub counted : count ≡ length (printed_of old new)
  pub printed : textLeft ≡ written (printed_of old new) text
  pub worked : workLeft ≡ work_after work
