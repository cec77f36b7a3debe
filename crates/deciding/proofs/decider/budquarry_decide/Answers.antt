-- `decider::budquarry_decide` meets its contract: a table that is too short, or what `decide_with` ensures.
use borrow.Author.Rules.{rules}
use Rattle.worktable.proofs.Lengths.{long_enough}
use Rattle.deciding.proofs.Calls.{decide_short, decide_long}
use Rattle.deciding.proofs.decider.budquarry_decide.Goals as goal

pub returns-then-is_short : goal.returns-then-is_short
returns-then-is_short c = search (rules, decide_short)

pub decide_with-requires : goal.decide_with-requires
decide_with-requires c = search (rules, long_enough)

pub returns : goal.returns
returns c = search (rules, decide_long)
