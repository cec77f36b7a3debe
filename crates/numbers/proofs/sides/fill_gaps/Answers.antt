-- `sides::fill_gaps` meets its contract: as many numbers as the view has lines.
use Rattle.std.proofs.Common.{rules}
use Rattle.grants.specs.Sides.{gap_at}
use Rattle.numbers.proofs.Writings.{lines_all}
use Rattle.numbers.proofs.sides.fill_gaps.Goals as goal

pub returns : goal.returns
returns c = lines_all _ gap_at _ _ _ _ c.pattern_count.ensures.count (c.fill_each.ensures _ (λ k r h e. search rules))
