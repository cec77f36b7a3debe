-- `walking::try_stem` meets its contract: one law for each way out.
use borrow.Author.Rules.{rules}
use Rattle.walks.proofs.Walkings.{stem_old_size, stem_new_size, stem_found, stem_alone, stem_nothing, stem_behind}
use borrow.Author.Tests.{not-true, not-false}
use Rattle.walks.proofs.walking.try_stem.Goals as goal

pub judge-requires : goal.judge-requires
judge-requires c = search (rules, stem_old_size, stem_new_size)

pub returns-in-Some : goal.returns-in-Some
returns-in-Some c = search (rules, stem_found)

pub returns-then-not-is_of_sort : goal.returns-then-not-is_of_sort
returns-then-not-is_of_sort c = search (rules, stem_alone, not-true)

pub returns-in_err-catch_together : goal.returns-in_err-catch_together
returns-in_err-catch_together c = search (rules, stem_nothing, not-false)

pub returns : goal.returns
returns c = search (rules, stem_behind, not-false)
