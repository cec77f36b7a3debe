-- `matching::is_under` meets its contract: the path starts with P, and ends there or goes on with `/`.
use borrow.Author.Rules.{rules}
use Rattle.names.proofs.Namings.{tests}
use Rattle.matching.proofs.Matchings.{under_not, under_rest}
use Rattle.matching.proofs.is_under.Goals as goal

pub returns-in_default : goal.returns-in_default
returns-in_default c = search (rules, under_not)

pub returns-then-is_empty : goal.returns-then-is_empty
returns-then-is_empty c = search (rules, tests, under_rest)

pub returns-else-is_empty : goal.returns-else-is_empty
returns-else-is_empty c = search (rules, tests, under_rest)
