-- `stems::sort_of` meets its contract, test by test.
use borrow.Author.Rules.{rules}
use Rattle.text.proofs.Truths.{ladder}
use Rattle.numbers.proofs.Stemmings.{sort_is}
use Rattle.numbers.proofs.stems.sort_of.Goals as goal

pub returns-then-starts_with : goal.returns-then-starts_with
returns-then-starts_with c = search (rules, ladder, sort_is)

pub returns-then-not-starts_with : goal.returns-then-not-starts_with
returns-then-not-starts_with c = search (rules, ladder, sort_is)

pub returns-then-ends_with : goal.returns-then-ends_with
returns-then-ends_with c = search (rules, ladder, sort_is)

pub returns : goal.returns
returns c = search (rules, ladder, sort_is)
