-- `quote` meets its contract.
use borrow.Author.Rules.{rules}
use Rattle.markup.proofs.Places.{quote_is}
use Rattle.markup.proofs.attributes.quote.Goals as goal

pub returns-clause-exact : goal.returns-clause-exact
returns-clause-exact c = search (rules, quote_is)
