-- `View::access` meets its contract: the line's constraint has the number of its access and its set in the table.
use borrow.Author.Rules.{rules}
use Rattle.reading.proofs.Holdings.{near, rule_near, parent_near, access_open, access_closed, access_by_role}
use Rattle.reading.proofs.held.View.access.Goals as goal

pub overflow_add-c : goal.overflow_add-c
overflow_add-c c = search (rules, near, rule_near)

pub offset_bounds-table-k : goal.offset_bounds-table-k
offset_bounds-table-k c = search (rules, near, rule_near)

pub bounds-table-k : goal.bounds-table-k
bounds-table-k c = search (rules, near, rule_near)

pub overflow_add-c-2 : goal.overflow_add-c-2
overflow_add-c-2 c = search (rules, near, parent_near)

pub offset_bounds-table-c : goal.offset_bounds-table-c
offset_bounds-table-c c = search (rules, near, parent_near)

pub bounds-table-c : goal.bounds-table-c
bounds-table-c c = search (rules, near, parent_near)

pub overflow_add-result : goal.overflow_add-result
overflow_add-result c = search (rules, near, parent_near)

pub offset_bounds-table-c-in_default : goal.offset_bounds-table-c-in_default
offset_bounds-table-c-in_default c = search (rules, near, parent_near)

pub bounds-table-c-in_default : goal.bounds-table-c-in_default
bounds-table-c-in_default c = search (rules, near, parent_near)

pub returns-in-0 : goal.returns-in-0
returns-in-0 c = search (rules, access_open)

pub returns-in-1 : goal.returns-in-1
returns-in-1 c = search (rules, access_closed)

pub returns-in_default : goal.returns-in_default
returns-in_default c = search (rules, access_by_role)
