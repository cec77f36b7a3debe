-- `held::method` meets its contract: the number at the method's index names its text.
use borrow.Author.Rules.{rules}
use Rattle.reading.proofs.Holdings.{near, method_near, method_text}
use Rattle.reading.proofs.held.View.method.Goals as goal

pub overflow_add-i : goal.overflow_add-i
overflow_add-i c = search (rules, near, method_near)

pub offset_bounds-self-inside-i : goal.offset_bounds-self-inside-i
offset_bounds-self-inside-i c = search (rules, near, method_near)

pub bounds-self-inside-i : goal.bounds-self-inside-i
bounds-self-inside-i c = search (rules, near, method_near)

pub returns : goal.returns
returns c = search (rules, method_text)
