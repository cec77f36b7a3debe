use borrow.Author.Rules.{rules}
use Rattle.firsts.proofs.Enterings.{finding_start, finding_next, finding_found, finding_further, finding_own}
use Rattle.firsts.proofs.entering.first_of.Goals as goal

pub loop-i-init : goal.loop-i-init
loop-i-init c = search (rules, finding_start)

pub share_line-requires : goal.share_line-requires
share_line-requires c = search (rules, finding_next)

pub returns-then-share_line : goal.returns-then-share_line
returns-then-share_line c = search (rules, finding_found)

pub loop-i-preserved : goal.loop-i-preserved
loop-i-preserved c = search (rules, finding_further)

pub returns : goal.returns
returns c = search (rules, finding_own)
