-- `searching::find` meets its contract: by what `index` ensures.
use borrow.Author.Rules.{rules}
use Rattle.ledger.proofs.Stamps.{found_by}
use Rattle.ledger.proofs.searching.find.Goals as goal

pub returns : goal.returns
returns c = search (rules, found_by)
