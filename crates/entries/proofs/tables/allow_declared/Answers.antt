-- `tables::allow_declared` meets its contract: by what `lowest_of` and `allow` ensure.
use Rattle.entries.proofs.tables.allow_declared.Goals as goal

pub returns : goal.returns
returns c = cc
