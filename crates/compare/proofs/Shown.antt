-- Lines of refusals, computed from their definition.
use mathlib.Core.Path.{◌≡◌, refl}
use mathlib.Core.List.{[], ◌∷◌}
use Rattle.text.specs.Texts.{bytes}
use Rattle.trials.specs.Answers.{line_of}
use Rattle.writing.specs.Decimals.{digits}
use Rattle.compare.specs.Printed.{refusal_line}

-- a number has as many digits as it needs, the largest of 32 bits too
pub refusals_shown : refusal_line 3 1 1 ∷ refusal_line 2 2 0 ∷ refusal_line 10 2 2500 ∷ refusal_line 4 1 4294967295 ∷ []
    ≡ bytes "refused\t3\t1\t1\n" ∷ bytes "refused\t2\t2\t0\n" ∷ bytes "refused\t10\t2\t2500\n" ∷ bytes "refused\t4\t1\t4294967295\n" ∷ []
unfolding refusal_line line_of digits
refusals_shown = refl
