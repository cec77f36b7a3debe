use Rattle.std.proofs.Common.{rules}
use Rattle.compare.proofs.Pieces.{field_size}
use Rattle.compare.proofs.printing.put_field.Goals as goal

pub returns-clause-size : goal.returns-clause-size
returns-clause-size c = search (rules, field_size)
