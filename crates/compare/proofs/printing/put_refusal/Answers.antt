-- The pieces are put one behind the other.
use Rattle.std.proofs.Common.{rules}
use Rattle.compare.proofs.Pieces.{line_size, line_bytes}
use Rattle.compare.proofs.printing.put_refusal.Goals as goal

pub returns-clause-size : goal.returns-clause-size
returns-clause-size c = search (rules, line_size)

pub returns-clause-bytes : goal.returns-clause-bytes
returns-clause-bytes c = search (rules, line_bytes)
