-- `tables::put_pattern` meets its contract: by what `put_span` ensures, and two writes.
use Rattle.entries.proofs.tables.put_pattern.Goals as goal

pub returns : goal.returns
returns c = cc
