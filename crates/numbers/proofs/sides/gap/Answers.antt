-- `sides::gap` meets its contract: the first of the numbers behind that of line k which is the same.
use mathlib.Core.Path.{refl}
use Rattle.numbers.proofs.SideLines.{gap_told}
use Rattle.numbers.proofs.sides.gap.Goals as goal

pub returns : goal.returns
returns c = gap_told _ _ _ _ c.requires c.pattern_count.ensures.count _ _ _ refl c.position_of.ensures c.unwrap_or.ensures
