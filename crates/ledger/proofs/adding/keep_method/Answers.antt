-- `adding::keep_method` meets its contract: write after write.
use Rattle.ledger.proofs.adding.keep_method.Goals as goal

pub returns : goal.returns
returns c = cc
