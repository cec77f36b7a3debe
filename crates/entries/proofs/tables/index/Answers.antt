use borrow.Author.Rules.{rules}
use Rattle.entries.proofs.Regions.{found_here, index_miss, found_nowhere}
use Rattle.entries.proofs.tables.index.Goals as goal

pub returns-then-is_named-clause-is : goal.returns-then-is_named-clause-is
returns-then-is_named-clause-is c = search (rules, found_here)

pub loop-k-preserved : goal.loop-k-preserved
loop-k-preserved c = search (rules, index_miss)

pub returns-clause-is : goal.returns-clause-is
returns-clause-is c = search (rules, found_nowhere)
