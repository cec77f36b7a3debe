use borrow.Author.Rules.{rules}
use Rattle.grants.proofs.Judgings.{look_found, look_on, look_end}
use Rattle.grants.proofs.judging.judge.Goals as goal

pub returns-then-fresh-ne0 : goal.returns-then-fresh-ne0
returns-then-fresh-ne0 c = search (rules, look_found)

pub loop-method-preserved : goal.loop-method-preserved
loop-method-preserved c = search (rules, look_on)

pub returns : goal.returns
returns c = search (rules, look_end)
