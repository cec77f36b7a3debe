-- `stems::stem_of` meets its contract, by the listing.
use borrow.Author.Rules.{rules}
use Rattle.numbers.proofs.Stemmings.{fresh_old, fresh_new, fresh_is}
use Rattle.numbers.proofs.stems.stem_of.Goals as goal

pub best_at-requires : goal.best_at-requires
best_at-requires c = search (rules, fresh_old)

pub best_at-requires-2 : goal.best_at-requires-2
best_at-requires-2 c = search (rules, fresh_new)

pub returns : goal.returns
returns c = search (rules, fresh_is)
