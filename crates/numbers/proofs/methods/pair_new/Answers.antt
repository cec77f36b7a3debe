use borrow.Author.Rules.{rules}
use Rattle.numbers.proofs.PairsPut.{pairing_more, pairing_room, pairing_small}
use Rattle.numbers.proofs.methods.pair_new.Goals as goal

pub put_pair-requires : goal.put_pair-requires
put_pair-requires c = ((search rules, search (rules, pairing_room)), (search (rules, pairing_small), search rules))

pub loop-i-preserved : goal.loop-i-preserved
loop-i-preserved c = search (rules, pairing_more)
