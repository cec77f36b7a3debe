use borrow.Author.Rules.{rules}
use Rattle.walks.proofs.Gatherings.{roster_of_none, roster_of_line, gather_none, gather_more, gather_pass, gather_all}
use Rattle.walks.proofs.gathering.gather.Goals as goal

pub loop-i-init : goal.loop-i-init
loop-i-init g c = (search rules, search (rules, roster_of_none), λ op k. search (rules, gather_none))

pub loop-i-preserved-then-not-is_of_sort : goal.loop-i-preserved-then-not-is_of_sort
loop-i-preserved-then-not-is_of_sort g c = (search rules, search rules, λ op k. search (rules, gather_pass, c.loop-i.invariant.2 op k))

pub loop-i-preserved : goal.loop-i-preserved
loop-i-preserved g c = (search rules, search (rules, roster_of_line), λ op k. search (rules, gather_more, c.loop-i.invariant.2 op k, c.join_into.ensures op k))

pub returns : goal.returns
returns g c = λ op k. search (rules, gather_all, c.loop-i.invariant.2 op k)
