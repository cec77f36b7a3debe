-- `decider::tell` meets its contract.
use borrow.Author.Rules.{rules}
use Rattle.deciding.proofs.Calls.{answered_whole}
use Rattle.deciding.proofs.decider.tell.Goals as goal

pub returns : goal.returns
returns c = search (rules, answered_whole)
