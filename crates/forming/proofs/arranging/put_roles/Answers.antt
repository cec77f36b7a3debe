use borrow.Author.Rules.{rules}
use Rattle.forming.proofs.Lefts.{left_all, done_place, done_bytes}
use Rattle.forming.proofs.Orders.{record_writable, turn_low, role_turn, roles_over}
use Rattle.forming.proofs.arranging.put_roles.Goals as goal

pub loop-x-init : goal.loop-x-init
loop-x-init c = search (rules, left_all)

pub put_if-e-requires : goal.put_if-e-requires
put_if-e-requires c = search (rules, record_writable, turn_low)

pub loop-x-preserved : goal.loop-x-preserved
loop-x-preserved c = search (rules, role_turn)

pub returns-clause-place : goal.returns-clause-place
returns-clause-place c = search (rules, done_place, roles_over)

pub returns-clause-bytes : goal.returns-clause-bytes
returns-clause-bytes c = search (rules, done_bytes, roles_over)
