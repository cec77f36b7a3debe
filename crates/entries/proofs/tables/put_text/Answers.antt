-- `tables::put_text` meets its contract: one write.
use Rattle.entries.proofs.tables.put_text.Goals as goal

pub returns : goal.returns
returns c = cc
