-- `tables::allow_role` meets its contract: by what `with_member` and `allow` ensure.
use Rattle.entries.proofs.tables.allow_role.Goals as goal

pub returns : goal.returns
returns c = cc
