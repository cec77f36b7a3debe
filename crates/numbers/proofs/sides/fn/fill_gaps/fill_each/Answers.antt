-- The closure of `sides::fill_gaps` meets its contract: a gap is a small number.
use Rattle.std.proofs.Common.{rules}
use Rattle.numbers.proofs.SideLines.{gap_small}
use Rattle.numbers.proofs.sides.fn.fill_gaps.fill_each.Goals as goal

pub overflow_cast-result : goal.overflow_cast-result
overflow_cast-result c = search (rules, gap_small)
