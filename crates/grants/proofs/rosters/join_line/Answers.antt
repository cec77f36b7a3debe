use borrow.Author.Rules.{rules}
use Rattle.grants.proofs.Stores.{mixed_listed}
use Rattle.grants.proofs.Granting.{line_start, line_more}
use Rattle.grants.proofs.rosters.join_line.Goals as goal

pub loop-m-init : goal.loop-m-init
loop-m-init c = search (rules, line_start)

pub loop-m-preserved : goal.loop-m-preserved
loop-m-preserved c = search (rules, line_more)

pub returns : goal.returns
returns c = search (rules, mixed_listed)
