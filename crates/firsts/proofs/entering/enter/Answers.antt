-- `entering::enter` meets its contract, by its three calls.
use borrow.Author.Rules.{rules}
use Rattle.firsts.proofs.Enterings.{enter_room, enter_few, enter_first, entered}
use Rattle.firsts.proofs.entering.enter.Goals as goal

pub near_of-p-requires : goal.near_of-p-requires
near_of-p-requires c = ((search (rules, enter_room), search (rules, enter_few)), search (rules, enter_first))

pub put_near-requires : goal.put_near-requires
put_near-requires c = ((search (rules, enter_room), search (rules, enter_few)), (search rules, search (rules, enter_first)))

pub returns : goal.returns
returns c = search (rules, entered)
