-- `comparer::budquarry_compare` meets its contract: a table that is too short, a buffer that is too small, or what `compare_with` ensures.
use borrow.Author.Rules.{rules}
use Rattle.worktable.proofs.Lengths.{long_enough}
use Rattle.comparing.proofs.Compares.{compare_short, compare_small, compare_long}
use Rattle.comparing.proofs.comparer.budquarry_compare.Goals as goal

pub returns-then-is_short : goal.returns-then-is_short
returns-then-is_short c = search (rules, compare_short)

pub zero_first-requires : goal.zero_first-requires
zero_first-requires c = search (rules, long_enough)

pub returns-then-answer-lt-ANSWER : goal.returns-then-answer-lt-ANSWER
returns-then-answer-lt-ANSWER c = search (rules, compare_small)

pub compare_with-requires : goal.compare_with-requires
compare_with-requires c = search (rules, long_enough)

pub returns : goal.returns
returns c = search (rules, compare_long)
