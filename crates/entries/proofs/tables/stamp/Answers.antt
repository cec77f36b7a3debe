-- `tables::stamp` meets its contract.
use borrow.Author.Rules.{rules}
use Rattle.entries.proofs.Regions.{stamp_none, stamp_one, stamp_last}
use Rattle.entries.proofs.tables.stamp.Goals as goal

pub returns-in-empty-clause-is : goal.returns-in-empty-clause-is
returns-in-empty-clause-is c = search (rules, stamp_none)

pub returns-in-len1-clause-is : goal.returns-in-len1-clause-is
returns-in-len1-clause-is c = search (rules, stamp_one)

pub returns-in-len2-up-clause-is : goal.returns-in-len2-up-clause-is
returns-in-len2-up-clause-is c = search (rules, stamp_last)
