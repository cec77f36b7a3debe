-- `searching::above_strength` meets its contract: by the lengths, or as below any P.
use borrow.Author.Rules.{rules}
use Rattle.numbers.proofs.Searchings.{above_none}
use Rattle.numbers.proofs.searching.above_strength.Goals as goal

pub returns-then-p-u : goal.returns-then-p-u
returns-then-p-u c = search (rules, above_none)
