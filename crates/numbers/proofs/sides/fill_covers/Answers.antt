-- `sides::fill_covers` meets its contract: as many numbers as the view has lines.
use Rattle.std.proofs.Common.{rules}
use Rattle.reading.specs.Views.{cover_at}
use Rattle.numbers.proofs.Writings.{lines_all}
use Rattle.numbers.proofs.sides.fill_covers.Goals as goal

pub returns : goal.returns
returns c = lines_all _ cover_at _ _ _ _ c.pattern_count.ensures.count (c.fill_each.ensures _ (λ k r h e. search rules))
