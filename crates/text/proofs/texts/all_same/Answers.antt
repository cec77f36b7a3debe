use borrow.Author.Rules.{rules}
use Rattle.text.proofs.Spans.{alike_step, alike_end}
use Rattle.text.proofs.texts.all_same.Goals as goal

pub loop-i-preserved : goal.loop-i-preserved
loop-i-preserved c = search (rules, alike_step)

pub returns : goal.returns
returns c = search (rules, alike_end)
