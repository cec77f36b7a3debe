-- `searching::exact_strength` meets its contract: by the first byte.
use borrow.Author.Rules.{rules}
use Rattle.numbers.proofs.Searchings.{exact_rooted, exact_starred}
use Rattle.numbers.proofs.searching.exact_strength.Goals as goal

pub returns-then-starts_with : goal.returns-then-starts_with
returns-then-starts_with c = search (rules, exact_rooted)

pub returns : goal.returns
returns c = search (rules, exact_starred)
