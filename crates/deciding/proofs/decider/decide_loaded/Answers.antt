-- `decider::decide_loaded` meets its contract: by what reading answered.
use borrow.Author.Rules.{rules}
use Rattle.deciding.proofs.Calls.{loaded_table, loaded_viewed, loaded_decided, loaded_refused}
use Rattle.deciding.proofs.decider.decide_loaded.Goals as goal

pub new-requires : goal.new-requires
new-requires c = search (rules, loaded_table)

pub decide_held-requires : goal.decide_held-requires
decide_held-requires c = search (rules, loaded_viewed)

pub returns-in-Err : goal.returns-in-Err
returns-in-Err c = search (rules, loaded_refused)

pub returns-in-Ok : goal.returns-in-Ok
returns-in-Ok c = search (rules, loaded_decided)
