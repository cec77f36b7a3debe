-- `searching::is_text_at` meets its contract: by what `gather` ensures.
use borrow.Author.Rules.{rules}
use Rattle.ledger.proofs.Letters.{text_past, text_refused, text_longer, text_gathered}
use Rattle.ledger.proofs.searching.is_text_at.Goals as goal

pub returns-then-s-at : goal.returns-then-s-at
returns-then-s-at c = search (rules, text_past)

pub returns-in_default : goal.returns-in_default
returns-in_default c = search (rules, text_refused)

pub returns-then-g-t : goal.returns-then-g-t
returns-then-g-t c = search (rules, text_gathered)

pub returns-else-g-t : goal.returns-else-g-t
returns-else-g-t c = search (rules, text_longer)
