-- `searching::strongest_at` meets its contract, by the kind of the text.
use borrow.Author.Rules.{rules}
use Rattle.numbers.proofs.Searchings.{lacks_ended, found_empty, found_prefix, found_exact, found_longer}
use Rattle.numbers.proofs.searching.strongest_at.Goals as goal

pub returns-then-is_empty : goal.returns-then-is_empty
returns-then-is_empty c = search (rules, found_empty)

pub strongest_above-requires : goal.strongest_above-requires
strongest_above-requires c = search (rules, lacks_ended)

pub strongest_exact-requires : goal.strongest_exact-requires
strongest_exact-requires c = (search rules, search (rules, found_longer))

pub returns-in-Some : goal.returns-in-Some
returns-in-Some c = search (rules, found_prefix)

pub returns : goal.returns
returns c = search (rules, found_exact)
