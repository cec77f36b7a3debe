-- `stems::stem_at` meets its contract, by whether its text stands before.
use borrow.Author.Rules.{rules}
use Rattle.numbers.proofs.Stemmings.{stem_there, stem_again, stem_spot, stem_fresh, stem_new}
use Rattle.numbers.proofs.stems.stem_at.Goals as goal

pub bounds-firsts-j : goal.bounds-firsts-j
bounds-firsts-j c = search (rules, stem_there)

pub returns-then-f-j : goal.returns-then-f-j
returns-then-f-j c = search (rules, stem_again)

pub spot_of-spot-requires : goal.spot_of-spot-requires
spot_of-spot-requires c = search (rules, stem_spot)

pub stem_of-requires : goal.stem_of-requires
stem_of-requires c = search (rules, stem_fresh)

pub returns : goal.returns
returns c = search (rules, stem_new)
