-- `held::pattern` meets its contract: the number at the line's index spans its text.
use borrow.Author.Rules.{rules}
use Rattle.reading.proofs.Holdings.{near, rule_near, rule_text}
use Rattle.reading.proofs.held.View.pattern.Goals as goal

pub overflow_add-k : goal.overflow_add-k
overflow_add-k c = search (rules, near, rule_near)

pub offset_bounds-self-inside-k : goal.offset_bounds-self-inside-k
offset_bounds-self-inside-k c = search (rules, near, rule_near)

pub bounds-self-inside-k : goal.bounds-self-inside-k
bounds-self-inside-k c = search (rules, near, rule_near)

pub returns : goal.returns
returns c = search (rules, rule_text)
