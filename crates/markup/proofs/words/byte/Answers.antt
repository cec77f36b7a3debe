-- `byte` meets its contract.
use borrow.Author.Rules.{rules}
use Rattle.markup.proofs.Places.{byte_is}
use Rattle.markup.proofs.words.byte.Goals as goal

pub returns-clause-exact : goal.returns-clause-exact
returns-clause-exact c = search (rules, byte_is)
