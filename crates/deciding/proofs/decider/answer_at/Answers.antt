-- `decider::answer_at` meets its contract: the line that leads, then what is joined for its text.
use borrow.Author.Rules.{rules}
use Rattle.deciding.proofs.Calls.{method_near, open_answer, leader_near, joined_answer_lem}
use Rattle.deciding.proofs.decider.answer_at.Goals as goal

pub returns-then-best-eq0 : goal.returns-then-best-eq0
returns-then-best-eq0 c = search (rules, open_answer)

pub pattern-requires : goal.pattern-requires
pattern-requires c = search (rules, leader_near)

pub join_lines-j-requires : goal.join_lines-j-requires
join_lines-j-requires c = search (rules, method_near)

pub returns : goal.returns
returns c = search (rules, joined_answer_lem)
