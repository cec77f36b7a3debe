-- `reader::budquarry_read` meets its contract.
use borrow.Author.Rules.{rules}
use Rattle.worktable.proofs.Lengths.{long_enough}
use Rattle.reading.proofs.Loads.{read_short, read_long}
use Rattle.reading.proofs.reader.budquarry_read.Goals as goal

pub returns-then-is_short : goal.returns-then-is_short
returns-then-is_short c = search (rules, read_short)

pub read_with-requires : goal.read_with-requires
read_with-requires c = search (rules, long_enough)

pub returns : goal.returns
returns c = search (rules, read_long)
