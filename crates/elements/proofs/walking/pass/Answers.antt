-- `walking::pass` meets its contract.
use borrow.Author.Rules.{rules}
use Rattle.elements.proofs.Passings.{pass_plain, pass_white}
use Rattle.elements.proofs.walking.pass.Goals as goal

pub returns-in-PassedOver-clause-exact : goal.returns-in-PassedOver-clause-exact
returns-in-PassedOver-clause-exact c = search (rules, pass_plain)

pub returns-in_default-clause-exact : goal.returns-in_default-clause-exact
returns-in_default-clause-exact c = search (rules, pass_white)
