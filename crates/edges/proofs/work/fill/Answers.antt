use Rattle.std.proofs.Common.{rules}
use Rattle.edges.specs.Garbage.{garbage}
use Rattle.edges.proofs.Numbers.{fill_step}
use Rattle.edges.proofs.work.fill.Goals as goal

pub loop-i-init : goal.loop-i-init
unfolding garbage
loop-i-init c = search rules

pub loop-i-preserved : goal.loop-i-preserved
loop-i-preserved c = search (rules, fill_step)
