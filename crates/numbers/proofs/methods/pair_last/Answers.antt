-- `methods::pair_last` meets its contract: neither view names the filler method.
use borrow.Author.Rules.{rules}
use Rattle.numbers.proofs.PairsPut.{olds_small, news_small, last_room, last_put}
use Rattle.numbers.proofs.methods.pair_last.Goals as goal

pub put_pair-requires : goal.put_pair-requires
put_pair-requires c = ((search rules, search (rules, last_room)), (search (rules, olds_small), search (rules, news_small)))

pub returns : goal.returns
returns c = search (rules, last_put)
