use borrow.Author.Rules.{rules}
use Rattle.writing.proofs.Puts.{put_step}
use Rattle.writing.proofs.put.Goals as goal

pub loop-i-preserved : goal.loop-i-preserved
loop-i-preserved c = search (rules, put_step)
