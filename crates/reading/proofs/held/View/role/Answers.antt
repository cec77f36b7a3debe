-- `held::role` meets its contract: the number at the role's index names its text.
use borrow.Author.Rules.{rules}
use Rattle.reading.proofs.Holdings.{near, role_near, role_text}
use Rattle.reading.proofs.held.View.role.Goals as goal

pub overflow_add-i : goal.overflow_add-i
overflow_add-i c = search (rules, near, role_near)

pub offset_bounds-self-inside-i : goal.offset_bounds-self-inside-i
offset_bounds-self-inside-i c = search (rules, near, role_near)

pub bounds-self-inside-i : goal.bounds-self-inside-i
bounds-self-inside-i c = search (rules, near, role_near)

pub returns : goal.returns
returns c = search (rules, role_text)
