use borrow.Author.Rules.{rules}
use Rattle.grants.proofs.Stores.{mixed_listed}
use Rattle.grants.proofs.Granting.{grant_start, grant_more}
use Rattle.grants.proofs.rosters.grant_roster.Goals as goal

pub loop-number-init : goal.loop-number-init
loop-number-init c = search (rules, grant_start)

pub loop-number-preserved : goal.loop-number-preserved
loop-number-preserved c = search (rules, grant_more)

pub returns : goal.returns
returns c = search (rules, mixed_listed)
