use borrow.Author.Rules.{rules}
use Rattle.grants.proofs.Granting.{along_start, along_more, along_end, joining_size, clear_size}
use Rattle.grants.proofs.rosters.join_along.Goals as goal

pub loop-k-init : goal.loop-k-init
loop-k-init c = search (rules, along_start)

pub join_line-requires : goal.join_line-requires
join_line-requires c = search (rules, joining_size)

pub loop-k-preserved : goal.loop-k-preserved
loop-k-preserved c = search (rules, along_more)

pub shape_of-roster : goal.shape_of-roster
shape_of-roster c = search (rules, joining_size, clear_size)

pub returns : goal.returns
returns c = search (rules, along_end)
