-- `decider::decide_with` meets its contract: the first n numbers hold the listing until they are zero.
use borrow.Author.Rules.{rules}
use Rattle.worktable.proofs.Lent.{lent_length, lent_room, back_length, back_same, back_zeroed}
use Rattle.deciding.proofs.Calls.{back_outcome}
use Rattle.deciding.proofs.decider.decide_with.Goals as goal

pub slice_bounds-load-end-2 : goal.slice_bounds-load-end-2
slice_bounds-load-end-2 c = search (rules, lent_length)

pub load-l-requires : goal.load-l-requires
load-l-requires c = search (rules, lent_room)

pub slice_bounds-decide_loaded-end-2 : goal.slice_bounds-decide_loaded-end-2
slice_bounds-decide_loaded-end-2 c = search (rules, back_length)

pub decide_loaded-d-requires : goal.decide_loaded-d-requires
decide_loaded-d-requires c = search (rules, back_outcome)

pub shape_of-w : goal.shape_of-w
shape_of-w c = search (rules, back_same)

pub returns-clause-handed : goal.returns-clause-handed
returns-clause-handed c = search (rules, back_zeroed)

pub returns-clause-work : goal.returns-clause-work
returns-clause-work c = search (rules, back_zeroed)
