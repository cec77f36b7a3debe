-- `methods::pair_up` meets its contract: those of new, further ones of old, the filler method.
use borrow.Author.Rules.{rules}
use Rattle.numbers.proofs.PairsPut.{new_lent, old_lent, all_methods}
use Rattle.numbers.proofs.methods.pair_up.Goals as goal

pub pair_old-count-requires : goal.pair_old-count-requires
pair_old-count-requires c = (search (rules, new_lent), search rules)

pub pair_last-requires : goal.pair_last-requires
pair_last-requires c = (old_lent _ _ _ _ c.requires _ c.pair_new.ensures _ c.pair_old-count.ensures.paired, (search rules, search rules))

pub returns : goal.returns
returns c = search (rules, all_methods)
