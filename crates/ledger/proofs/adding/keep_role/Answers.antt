-- `adding::keep_role` meets its contract: write after write.
use Rattle.ledger.proofs.adding.keep_role.Goals as goal

pub returns : goal.returns
returns c = cc
