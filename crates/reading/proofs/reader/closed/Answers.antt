-- `reader::closed` meets its contract.
use borrow.Author.Rules.{rules}
use Rattle.reading.specs.Fillings.{closed_at}
use Rattle.text.proofs.Truths.{ladder}
use Rattle.reading.proofs.reader.closed.Goals as goal

pub returns-then-c-s : goal.returns-then-c-s
unfolding closed_at
returns-then-c-s c = search (rules, ladder)

pub returns : goal.returns
unfolding closed_at
returns c = search (rules, ladder)
