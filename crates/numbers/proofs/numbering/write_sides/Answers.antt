-- `numbering::write_sides` meets its contract: one side behind the other, by the numbers of the first lines behind the tables.
use mathlib.Core.Path.{refl, sym}
use native.Mathlib.Omega.{arith}
use lib.Seq.{length-take-le}
use Rattle.numbers.proofs.Numberings.{old_lent, new_lent, sides_written}
use Rattle.numbers.proofs.numbering.write_sides.Goals as goal

pub fill_side-requires : goal.fill_side-requires
fill_side-requires c = let s = c.split_at_mut-tables.ensures in rw (s.front, s.back) (old_lent _ _ _ _ c.requires)

pub slice_bounds-fill_side-end-3 : goal.slice_bounds-fill_side-end-3
slice_bounds-fill_side-end-3 c = sym (length-take-le _ _ (omega (arith, c.split_at_mut-tables.ensures.back_len, c.requires.laid.room)))

pub fill_side-requires-2 : goal.fill_side-requires-2
fill_side-requires-2 c = let s = c.split_at_mut-tables.ensures in rw s.back (new_lent _ _ _ _ c.requires _ (rw s.front at c.fill_side.ensures))

pub returns : goal.returns
returns c =
    let s = c.split_at_mut-tables.ensures in
    rw s.back (sides_written _ _ _ _ c.requires _ (rw s.front at c.fill_side.ensures) _ c.fill_side-2.ensures _ refl)
