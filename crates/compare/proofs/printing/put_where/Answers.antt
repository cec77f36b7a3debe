use Rattle.std.proofs.Common.{rules}
use Rattle.compare.proofs.Pieces.{where_bytes}
use Rattle.compare.proofs.printing.put_where.Goals as goal

pub returns-clause-bytes : goal.returns-clause-bytes
returns-clause-bytes c = search (rules, where_bytes)
