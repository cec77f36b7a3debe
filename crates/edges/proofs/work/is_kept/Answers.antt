use Rattle.std.proofs.Common.{rules}
use Rattle.edges.specs.Garbage.{garbage_at}
use Rattle.edges.proofs.Numbers.{agrees_differs, agrees_step, agrees_end}
use Rattle.edges.proofs.work.is_kept.Goals as goal

pub returns-then-w-i : goal.returns-then-w-i
returns-then-w-i c = search (rules, agrees_differs garbage_at)

pub loop-i-preserved : goal.loop-i-preserved
loop-i-preserved c = search (rules, agrees_step garbage_at)

pub returns : goal.returns
returns c = search (rules, agrees_end garbage_at)
