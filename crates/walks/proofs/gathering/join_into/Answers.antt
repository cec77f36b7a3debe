use borrow.Author.Rules.{rules}
use Rattle.walks.proofs.Gatherings.{join_start, join_more, join_all}
use Rattle.walks.proofs.gathering.join_into.Goals as goal

pub loop-m-init : goal.loop-m-init
loop-m-init g c = (search rules, λ op k. search (rules, join_start))

pub loop-m-preserved : goal.loop-m-preserved
loop-m-preserved g c = (search rules, λ op k. search (rules, join_more, c.loop-m.invariant.1 op k, k))

pub returns : goal.returns
returns g c = λ op k. search (rules, join_all, c.loop-m.invariant.1 op k)
