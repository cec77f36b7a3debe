-- `comparer::compare_numbers` meets its contract: the walk, and what is told of its hit.
use borrow.Author.Rules.{rules}
use Rattle.comparing.proofs.Tellings.{walk_safe, tells, hit_trial, walked_handed, walked_written}
use Rattle.comparing.proofs.comparer.compare_numbers.Goals as goal

pub walk-h-requires : goal.walk-h-requires
walk-h-requires c = search (rules, walk_safe)

pub tell-requires : goal.tell-requires
tell-requires c = (((search (rules, tells), search (rules, hit_trial)), search rules), search rules)

pub returns-clause-handed : goal.returns-clause-handed
returns-clause-handed c = search (rules, walked_handed)

pub returns-clause-answer : goal.returns-clause-answer
returns-clause-answer c = search (rules, walked_written)
