-- `tables::lowest_of` meets its contract: all 32, or the shift less 1.
use borrow.Author.Rules.{rules}
use Rattle.entries.proofs.Members.{lowest_all, lowest_takes, lowest_some}
use Rattle.entries.proofs.tables.lowest_of.Goals as goal

pub returns-then-n-eq32 : goal.returns-then-n-eq32
returns-then-n-eq32 c = search (rules, lowest_all)

pub overflow_sub-result : goal.overflow_sub-result
overflow_sub-result c = search (rules, lowest_takes)

pub returns : goal.returns
returns c = search (rules, lowest_some)
