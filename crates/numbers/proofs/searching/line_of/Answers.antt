-- `searching::line_of` meets its contract: the number stands where the text does.
use Rattle.std.proofs.Common.{rules}
use Rattle.numbers.proofs.Searchings.{line_told}
use Rattle.numbers.proofs.searching.line_of.Goals as goal

pub returns : goal.returns
returns c = search (rules, line_told)
