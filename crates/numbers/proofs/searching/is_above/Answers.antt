-- `searching::is_above` meets its contract: by the byte behind P, then by those before it.
use borrow.Author.Rules.{rules}
use Rattle.numbers.proofs.Searchings.{above_same, above_apart, above_alike}
use Rattle.numbers.proofs.searching.is_above.Goals as goal

pub returns-then-path-n : goal.returns-then-path-n
returns-then-path-n c = search (rules, above_same)

pub returns-then-path-n-eq47 : goal.returns-then-path-n-eq47
returns-then-path-n-eq47 c = search (rules, above_alike)

pub returns-else-path-n-eq47 : goal.returns-else-path-n-eq47
returns-else-path-n-eq47 c = search (rules, above_apart)
