-- `comparer::compare_held` meets its contract: what is found of both views is the verdict.
use borrow.Author.Rules.{rules}
use Rattle.comparing.proofs.Compares.{both_prepared, held_handed, held_written}
use Rattle.comparing.proofs.comparer.compare_held.Goals as goal

pub compare_numbers-requires : goal.compare_numbers-requires
compare_numbers-requires c = ((both_prepared _ _ _ _ c.requires.0 _ _ (search rules) c.number-c.ensures.numbers, search rules), search rules)

pub returns-clause-handed : goal.returns-clause-handed
returns-clause-handed c = held_handed _ _ _ _ c.requires.0 _ _ (search rules) c.number-c.ensures.numbers _ c.compare_numbers.ensures.handed

pub returns-clause-answer : goal.returns-clause-answer
returns-clause-answer c = held_written _ _ _ _ c.requires.0 _ _ (search rules) c.number-c.ensures.numbers _ _ c.compare_numbers.ensures.answer
