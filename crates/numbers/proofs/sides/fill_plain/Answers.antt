-- `sides::fill_plain` meets its contract: three parts are filled one after the other.
use Rattle.numbers.proofs.SideLines.{side_second, side_gaps, side_plain}
use Rattle.numbers.proofs.sides.fill_plain.Goals as goal

pub fill_accesses-requires : goal.fill_accesses-requires
fill_accesses-requires c = side_second _ c.requires.proper _ _ c.requires.room _ c.fill_covers.ensures

pub fill_gaps-requires : goal.fill_gaps-requires
fill_gaps-requires c = side_gaps _ c.requires.proper _ _ c.requires.room _ c.fill_covers.ensures _ c.fill_accesses.ensures _ c.requires

pub returns : goal.returns
returns c = side_plain _ c.requires.proper _ _ c.requires.room _ c.fill_covers.ensures _ c.fill_accesses.ensures _ c.fill_gaps.ensures
