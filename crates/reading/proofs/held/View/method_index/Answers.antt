-- `held::method_index` meets its contract: the search goes over the texts that the table names, which are the methods.
use borrow.Author.Rules.{rules}
use Rattle.entries.proofs.Regions.{found_or}
use Rattle.reading.proofs.Holdings.{method_indexed}
use Rattle.reading.proofs.held.View.method_index.Goals as goal

pub returns : goal.returns
returns c = search (rules, method_indexed, found_or)
