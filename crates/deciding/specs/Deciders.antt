-- What the functions of the call hand to each other: for the proofs alone.
use Rattle.std.specs.Prelude.{cond, [], length, get_or, eqb}
use Rattle.text.specs.Texts.{Text, index_of}
use Rattle.reading.specs.Views.{View, texts}
use Rattle.matching.specs.Strengths.{leading}
use Rattle.deciding.specs.Joinings.{joined_up_to, joined_answer}
use Rattle.decisions.specs.declared.answers.Answer.{Answer}
use Rattle.decisions.specs.declared.answers.Answer.TheVariants.{Open}
use Rattle.callers.specs.declared.Who.{Who}

-- for a path without parameters, the answer by the strongest pattern line, and by the constraints joined for its text
unfoldable pub answer_for : View → Text → Text → Who → Answer
unfolding leading joined_up_to joined_answer index_of texts
answer_for v path m who =
    cond (eqb (leading (texts v) path).most 0) Open
    (joined_answer (joined_up_to v (get_or (texts v) (leading (texts v) path).at []) (index_of m v.methods) (length (texts v))) who)
