-- `decider::refuse` meets its contract.
use borrow.Author.Rules.{rules}
use Rattle.deciding.proofs.Calls.{refused_whole}
use Rattle.deciding.proofs.decider.refuse.Goals as goal

pub returns : goal.returns
returns c = search (rules, refused_whole)
