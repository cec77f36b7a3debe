-- `searching::stamp` meets its contract.
use borrow.Author.Rules.{rules}
use Rattle.ledger.proofs.Stamps.{stamp_none, stamp_last}
use Rattle.ledger.proofs.searching.stamp.Goals as goal

pub returns-in-empty-clause-is : goal.returns-in-empty-clause-is
returns-in-empty-clause-is c = search (rules, stamp_none)

pub returns-in-len1-up-clause-is : goal.returns-in-len1-up-clause-is
returns-in-len1-up-clause-is c = stamp_last _ _ c.from.ensures c.type_inv.t
