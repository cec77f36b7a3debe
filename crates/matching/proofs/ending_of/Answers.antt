use borrow.Author.Rules.{rules}
use Rattle.matching.proofs.Endings.{plain_end, plain_step, ends_dotted, ends_plain, ends_whole}
use Rattle.matching.proofs.ending_of.Goals as goal

pub loop-i-init : goal.loop-i-init
loop-i-init c = search (rules, plain_end)

pub returns-in-46 : goal.returns-in-46
returns-in-46 c = search (rules, ends_dotted)

pub returns-in-47 : goal.returns-in-47
returns-in-47 c = search (rules, ends_plain)

pub loop-i-preserved : goal.loop-i-preserved
loop-i-preserved c = search (rules, plain_step)

pub returns : goal.returns
returns c = search (rules, ends_whole)
