use Rattle.std.proofs.Common.{rules}
use Rattle.compare.proofs.Filled.{reads_more}
use Rattle.compare.proofs.files.read_whole.Goals as goal

pub loop-done-preserved : goal.loop-done-preserved
loop-done-preserved g c = (search rules, reads_more _ _ _ _ _ _ _ _ (search rules) (search rules) c.loop-done.invariant.1 c.in-Ok.ensures.bytes.0)
