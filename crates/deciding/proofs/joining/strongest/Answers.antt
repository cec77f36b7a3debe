use borrow.Author.Rules.{rules}
use Rattle.matching.proofs.Matchings.{lead_none, lead_step, lead_count, lead_all}
use Rattle.deciding.proofs.Shorts.{lead_few, lead_short}
use Rattle.deciding.proofs.joining.strongest.Goals as goal

pub loop-k-init : goal.loop-k-init
loop-k-init c = search (rules, lead_none)

pub lead_with-x-requires : goal.lead_with-x-requires
lead_with-x-requires c = search (rules, lead_few, lead_short)

pub loop-k-preserved : goal.loop-k-preserved
loop-k-preserved c = search (rules, lead_step, lead_count)

pub returns : goal.returns
returns c = search (rules, lead_all)
