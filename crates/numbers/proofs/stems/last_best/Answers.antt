-- `stems::last_best` meets its contract, by the search.
use borrow.Author.Rules.{rules}
use Rattle.numbers.proofs.Stemmings.{led_small, searched_last}
use Rattle.numbers.proofs.stems.last_best.Goals as goal

pub best_number-requires : goal.best_number-requires
best_number-requires c = search (rules, led_small)

pub returns : goal.returns
returns c = search (rules, searched_last)
