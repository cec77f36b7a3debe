-- `stems::is_firm` meets its contract, test by test.
use borrow.Author.Rules.{rules}
use Rattle.numbers.proofs.Searchings.{firm_empty, firm_default, firm_rooted}
use Rattle.numbers.proofs.stems.is_firm.Goals as goal

pub returns-then-is_empty : goal.returns-then-is_empty
returns-then-is_empty c = search (rules, firm_empty)

pub returns-then-not-are_same : goal.returns-then-not-are_same
returns-then-not-are_same c = search (rules, firm_rooted)

pub returns-else-not-are_same : goal.returns-else-not-are_same
returns-else-not-are_same c = search (rules, firm_default)
