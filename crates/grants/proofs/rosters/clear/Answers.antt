-- `rosters::clear` meets its contract.
use borrow.Author.Rules.{rules}
use Rattle.grants.proofs.Granting.{clear_all}
use Rattle.grants.proofs.rosters.clear.Goals as goal

pub returns : goal.returns
returns c = search (rules, clear_all)
