-- `adding::keep_constraint` meets its contract: write after write.
use borrow.Author.Rules.{rules}
use Rattle.ledger.proofs.Writes.{constraint_there, constraint_few}
use Rattle.ledger.proofs.adding.keep_constraint.Goals as goal

pub put_one-requires : goal.put_one-requires
put_one-requires c = (search (rules, constraint_there), search (rules, constraint_few))

pub returns : goal.returns
returns c = cc
