-- `texts::ends_same` meets its contract: first bytes and last ones are all.
use borrow.Author.Rules.{rules}
use Rattle.text.proofs.Spans.{same_ends}
use Rattle.text.proofs.texts.ends_same.Goals as goal

pub returns : goal.returns
returns c = search (rules, same_ends)
