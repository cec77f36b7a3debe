use borrow.Author.Rules.{rules}
use Rattle.forming.proofs.Lefts.{left_all, done_place, done_bytes}
use Rattle.forming.proofs.Orders.{record_behind, turn_low, allow_turn, allows_stop, allows_over}
use Rattle.forming.proofs.arranging.put_allows.Goals as goal

pub loop-x-init : goal.loop-x-init
loop-x-init c = search (rules, left_all)

pub returns-then-is_constraint-clause-place : goal.returns-then-is_constraint-clause-place
returns-then-is_constraint-clause-place c = search (rules, done_place, allows_stop)

pub returns-then-is_constraint-clause-bytes : goal.returns-then-is_constraint-clause-bytes
returns-then-is_constraint-clause-bytes c = search (rules, done_bytes, allows_stop)

pub put_if-e-requires : goal.put_if-e-requires
put_if-e-requires c = search (rules, record_behind, turn_low)

pub loop-x-preserved : goal.loop-x-preserved
loop-x-preserved c = search (rules, allow_turn)

pub returns-clause-place : goal.returns-clause-place
returns-clause-place c = search (rules, done_place, allows_over)

pub returns-clause-bytes : goal.returns-clause-bytes
returns-clause-bytes c = search (rules, done_bytes, allows_over)
