use borrow.Author.Rules.{rules}
use Rattle.matching.proofs.Droppings.{left_start, left_more, left_all}
use Rattle.matching.proofs.drop_into.Goals as goal

pub loop-b-init : goal.loop-b-init
loop-b-init c = search (rules, left_start)

pub loop-b-preserved : goal.loop-b-preserved
loop-b-preserved c = search (rules, left_more)

pub returns-clause-bytes : goal.returns-clause-bytes
returns-clause-bytes c = search (rules, left_all)
