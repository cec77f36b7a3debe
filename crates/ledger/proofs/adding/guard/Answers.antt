-- `adding::guard` meets its contract: a law of Writes for each return.
use borrow.Author.Rules.{rules}
use Rattle.ledger.proofs.Writes.{guard_stays, guard_put}
use Rattle.ledger.proofs.adding.guard.Goals as goal

pub returns-then-last-eq0 : goal.returns-then-last-eq0
returns-then-last-eq0 c = search (rules, guard_stays)

pub returns : goal.returns
returns c = search (rules, guard_put)
