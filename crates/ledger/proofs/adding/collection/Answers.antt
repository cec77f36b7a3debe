-- `adding::collection` meets its contract: a law of Effects for each return.
use borrow.Author.Rules.{rules}
use Rattle.ledger.proofs.Effects.{collection_past, collection_kept}
use Rattle.ledger.proofs.adding.collection.Goals as goal

pub returns-then-most-count : goal.returns-then-most-count
returns-then-most-count c = search (rules, collection_past)

pub returns : goal.returns
returns c = search (rules, collection_kept)
