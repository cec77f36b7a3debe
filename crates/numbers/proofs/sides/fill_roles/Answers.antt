-- `sides::fill_roles` meets its contract: as many numbers as the view has lines.
use Rattle.std.proofs.Common.{rules}
use Rattle.numbers.specs.Writes.{roles_by}
use Rattle.numbers.proofs.Writings.{lines_all}
use Rattle.numbers.proofs.sides.fill_roles.Goals as goal

pub returns : goal.returns
returns c = lines_all _ (roles_by c.args.map.now c.args.n) _ _ _ _ c.pattern_count.ensures.count (c.fill_each.ensures _ (λ k r h e. search rules))
