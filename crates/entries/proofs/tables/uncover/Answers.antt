-- `tables::uncover` meets its contract: by what `without_member` ensures.
use Rattle.entries.proofs.tables.uncover.Goals as goal

pub returns : goal.returns
returns c = cc
