-- `steps::collection` meets its contract: a law of Effects for each return.
use borrow.Author.Rules.{rules}
use Rattle.entries.proofs.Effects.{collection_past, collection_next}
use Rattle.entries.proofs.steps.collection.Goals as goal

pub returns-then-most-n : goal.returns-then-most-n
returns-then-most-n c = search (rules, collection_past)

pub returns : goal.returns
returns c = search (rules, collection_next)
