-- `comparer::compare_read` meets its contract: by what reading answered, old first.
use borrow.Author.Rules.{rules}
use Rattle.comparing.proofs.Compares.{both_read, old_refused, old_keeps, new_refused, new_keeps, both_handed, both_written}
use Rattle.comparing.proofs.comparer.compare_read.Goals as goal

pub compare_held-requires : goal.compare_held-requires
compare_held-requires c = (search (rules, both_read), search rules)

pub returns-in-Err-clause-handed : goal.returns-in-Err-clause-handed
returns-in-Err-clause-handed c = search (rules, old_refused)

pub returns-in-Err-clause-answer : goal.returns-in-Err-clause-answer
returns-in-Err-clause-answer c = search (rules, old_keeps)

pub returns-in-Err-ln-clause-handed : goal.returns-in-Err-ln-clause-handed
returns-in-Err-ln-clause-handed c = search (rules, new_refused)

pub returns-in-Err-ln-clause-answer : goal.returns-in-Err-ln-clause-answer
returns-in-Err-ln-clause-answer c = search (rules, new_keeps)

pub returns-in-Ok-ln-clause-handed : goal.returns-in-Ok-ln-clause-handed
returns-in-Ok-ln-clause-handed c = search (rules, both_handed, c.requires)

pub returns-in-Ok-ln-clause-answer : goal.returns-in-Ok-ln-clause-answer
returns-in-Ok-ln-clause-answer c = search (rules, both_written, c.requires)
