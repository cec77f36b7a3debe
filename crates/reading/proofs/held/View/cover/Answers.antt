-- `View::cover` meets its contract: the line's collection has its set in the table.
use borrow.Author.Rules.{rules}
use Rattle.reading.proofs.Holdings.{near, rule_near, owner_near, rule_cover}
use Rattle.reading.proofs.held.View.cover.Goals as goal

pub overflow_add-c : goal.overflow_add-c
overflow_add-c c = search (rules, near, rule_near)

pub offset_bounds-table-k : goal.offset_bounds-table-k
offset_bounds-table-k c = search (rules, near, rule_near)

pub bounds-table-k : goal.bounds-table-k
bounds-table-k c = search (rules, near, rule_near)

pub overflow_add-result : goal.overflow_add-result
overflow_add-result c = search (rules, near, owner_near)

pub offset_bounds-table-c : goal.offset_bounds-table-c
offset_bounds-table-c c = search (rules, near, owner_near)

pub bounds-table-c : goal.bounds-table-c
bounds-table-c c = search (rules, near, owner_near)

pub returns : goal.returns
returns c = search (rules, rule_cover)
