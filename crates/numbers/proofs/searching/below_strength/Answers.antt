-- `searching::below_strength` meets its contract, test by test.
use borrow.Author.Rules.{rules}
use Rattle.text.proofs.Truths.{ladder}
use Rattle.numbers.proofs.Searchings.{below_is, below_other, below_ended}
use Rattle.numbers.proofs.searching.below_strength.Goals as goal

pub returns-then-not-starts_with : goal.returns-then-not-starts_with
returns-then-not-starts_with c = search (rules, ladder, below_is)

pub returns-then-are_same : goal.returns-then-are_same
returns-then-are_same c = search (rules, ladder, below_is)

pub returns-in_default : goal.returns-in_default
returns-in_default c = search (rules, ladder, below_other)

pub returns-then-is_above : goal.returns-then-is_above
returns-then-is_above c = search (rules, ladder, below_ended)

pub returns-else-is_above : goal.returns-else-is_above
returns-else-is_above c = search (rules, ladder, below_ended)
