-- `decider::decide_held` meets its contract: a refusal for each test, then the answer.
use borrow.Author.Rules.{rules}
use Rattle.deciding.proofs.Calls.{path_good, path_refused, method_refused, caller_refused, request_answered}
use Rattle.deciding.proofs.decider.decide_held.Goals as goal

pub returns-then-not-is_path : goal.returns-then-not-is_path
returns-then-not-is_path c = search (rules, path_refused)

pub returns-then-not-is_method_name : goal.returns-then-not-is_method_name
returns-then-not-is_method_name c = search (rules, method_refused)

pub answer_for-requires : goal.answer_for-requires
answer_for-requires c = search (rules, path_good)

pub returns-in_default : goal.returns-in_default
returns-in_default c = search (rules, caller_refused)

pub returns : goal.returns
returns c = search (rules, request_answered)
