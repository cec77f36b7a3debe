-- `prolog` meets its contract.
use borrow.Author.Rules.{rules}
use Rattle.markup.proofs.Blames.{blamed_within, within_on}
use Rattle.markup.proofs.Surroundings.{prolog_none, prolog_read}
use Rattle.markup.proofs.around.prolog.Goals as goal

pub returns-in_default-clause-exact : goal.returns-in_default-clause-exact
returns-in_default-clause-exact c = search (rules, prolog_none, c.in_default.ensures.exact)

pub returns-clause-within : goal.returns-clause-within
returns-clause-within c = search (rules, blamed_within, within_on)

pub returns-clause-exact : goal.returns-clause-exact
returns-clause-exact c = search (rules, prolog_read, c.in-Ok.ensures.exact)
