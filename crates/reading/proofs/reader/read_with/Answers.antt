-- `reader::read_with` meets its contract: the first n numbers hold the listing until they are zero.
use borrow.Author.Rules.{rules}
use Rattle.worktable.proofs.Lent.{lent_length, lent_room, back_same, back_zeroed}
use Rattle.reading.proofs.Loads.{loaded_reported}
use Rattle.reading.proofs.reader.read_with.Goals as goal

pub slice_bounds-load-end-2 : goal.slice_bounds-load-end-2
slice_bounds-load-end-2 c = search (rules, lent_length)

pub load-loaded-requires : goal.load-loaded-requires
load-loaded-requires c = search (rules, lent_room)

pub shape_of-w : goal.shape_of-w
shape_of-w c = search (rules, back_same)

pub returns-clause-handed : goal.returns-clause-handed
returns-clause-handed c = search (rules, loaded_reported)

pub returns-clause-work : goal.returns-clause-work
returns-clause-work c = search (rules, back_zeroed)
