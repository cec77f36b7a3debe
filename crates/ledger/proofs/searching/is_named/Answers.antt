-- `searching::is_named` meets its contract: another stamp, another name; with that stamp, the text that stands there.
use borrow.Author.Rules.{rules}
use Rattle.ledger.proofs.Stamps.{stamp_differs, stamp_same}
use Rattle.ledger.proofs.searching.is_named.Goals as goal

pub returns-then-x-key : goal.returns-then-x-key
returns-then-x-key c = search (rules, stamp_differs)

pub returns : goal.returns
returns c = search (rules, stamp_same)
