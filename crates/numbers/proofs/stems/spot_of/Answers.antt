-- `stems::spot_of` meets its contract, by the listing that the first line is of.
use borrow.Author.Rules.{rules}
use Rattle.numbers.proofs.Stemmings.{spot_old, spot_find, spot_new}
use Rattle.numbers.proofs.stems.spot_of.Goals as goal

pub returns-then-n-first : goal.returns-then-n-first
returns-then-n-first c = search (rules, spot_old)

pub line_of-requires : goal.line_of-requires
line_of-requires c = search (rules, spot_find)

pub returns : goal.returns
returns c = search (rules, spot_new)
