-- `held::role_index` meets its contract: the search goes over the texts that the table names, which are the roles.
use borrow.Author.Rules.{rules}
use Rattle.entries.proofs.Regions.{found_or}
use Rattle.reading.proofs.Holdings.{role_indexed}
use Rattle.reading.proofs.held.View.role_index.Goals as goal

pub returns : goal.returns
returns c = search (rules, role_indexed, found_or)
