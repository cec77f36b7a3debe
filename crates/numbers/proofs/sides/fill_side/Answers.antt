-- `sides::fill_side` meets its contract: the roles, in new's numbers, beside the rest.
use borrow.Author.Rules.{rules}
use Rattle.numbers.proofs.SideLines.{side_third, side_written}
use Rattle.numbers.proofs.sides.fill_side.Goals as goal

pub fill_roles-requires : goal.fill_roles-requires
fill_roles-requires c = (side_third _ c.requires.proper _ _ c.requires.room _ c.fill_plain.ensures, (search rules, c.fill_map-n.ensures.few))

pub returns : goal.returns
returns c = side_written _ c.requires.proper _ _ c.requires.room _ c.fill_plain.ensures _ _ _ c.fill_map-n.ensures.indices c.fill_map-n.ensures.count _ c.fill_roles.ensures
