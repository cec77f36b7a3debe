-- `matching::rooted_strength` meets its contract, test by test.
use borrow.Author.Rules.{rules}
use Rattle.text.proofs.Truths.{ladder}
use Rattle.matching.proofs.Matchings.{rooted_ended, rooted_other}
use Rattle.matching.proofs.rooted_strength.Goals as goal

pub returns-then-is_under : goal.returns-then-is_under
returns-then-is_under c = search (rules, ladder, rooted_ended)

pub returns-else-is_under : goal.returns-else-is_under
returns-else-is_under c = search (rules, ladder, rooted_ended)

pub returns-then-are_same : goal.returns-then-are_same
returns-then-are_same c = search (rules, ladder, rooted_other)

pub returns-else-are_same : goal.returns-else-are_same
returns-else-are_same c = search (rules, ladder, rooted_other)
