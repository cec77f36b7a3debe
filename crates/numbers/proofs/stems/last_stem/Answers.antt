-- `stems::last_stem` meets its contract, by its two calls.
use borrow.Author.Rules.{rules}
use Rattle.numbers.proofs.StemsPut.{last_is}
use Rattle.numbers.proofs.stems.last_stem.Goals as goal

pub returns : goal.returns
returns c = search (rules, last_is)
