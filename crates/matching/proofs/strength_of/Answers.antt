-- `matching::strength_of` meets its contract, test by test.
use borrow.Author.Rules.{rules}
use Rattle.text.proofs.Truths.{ladder}
use Rattle.matching.proofs.Matchings.{strength_is}
use Rattle.matching.proofs.strength_of.Goals as goal

pub returns-then-are_same : goal.returns-then-are_same
returns-then-are_same c = search (rules, ladder, strength_is)

pub returns-else-are_same : goal.returns-else-are_same
returns-else-are_same c = search (rules, ladder, strength_is)

pub returns-then-are_same-2 : goal.returns-then-are_same-2
returns-then-are_same-2 c = search (rules, ladder, strength_is)

pub returns-then-starts_with : goal.returns-then-starts_with
returns-then-starts_with c = search (rules, ladder, strength_is)

pub returns : goal.returns
returns c = search (rules, ladder, strength_is)
