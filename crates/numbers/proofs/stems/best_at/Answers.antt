-- `stems::best_at` meets its contract: by the root, by its own line, or by a search.
use borrow.Author.Rules.{rules}
use Rattle.numbers.proofs.Stemmings.{led_small, line_few, soft_is, own_none, own_is, firm_text, searched}
use Rattle.numbers.proofs.stems.best_at.Goals as goal

pub soft_best-requires : goal.soft_best-requires
soft_best-requires c = search (rules, line_few)

pub returns-then-not-is_firm : goal.returns-then-not-is_firm
returns-then-not-is_firm c = search (rules, soft_is)

pub own_best-requires : goal.own_best-requires
own_best-requires c = search (rules, line_few)

pub strongest_at-requires : goal.strongest_at-requires
strongest_at-requires c = (search (rules, own_none), search (rules, firm_text))

pub best_number-requires : goal.best_number-requires
best_number-requires c = search (rules, led_small)

pub returns-in-Some : goal.returns-in-Some
returns-in-Some c = search (rules, own_is)

pub returns-in-None : goal.returns-in-None
returns-in-None c = search (rules, searched)
