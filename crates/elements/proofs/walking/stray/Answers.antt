-- `walking::stray` meets its contract: a letter, and whether it may stand there.
use borrow.Author.Rules.{rules}
use Rattle.elements.proofs.Goings.{shown_passed}
use Rattle.elements.proofs.Walks.{stray_stops, stray_passed, stray_white, stray_wrong}
use Rattle.elements.proofs.walking.stray.Goals as goal

pub returns-in_err-b-clause-exact : goal.returns-in_err-b-clause-exact
returns-in_err-b-clause-exact c = λ x. shown_passed _ _ c.from_residual.ensures.1 (search (rules, stray_stops))

pub returns-in-PassedOver-clause-exact : goal.returns-in-PassedOver-clause-exact
returns-in-PassedOver-clause-exact c = λ x. search (rules, stray_passed)

pub returns-in_default : goal.returns-in_default
returns-in_default c = record { within = search rules; exact = λ x. search (rules, stray_white) }

pub returns-in_default-2 : goal.returns-in_default-2
returns-in_default-2 c = record { within = search rules; exact = λ x. search (rules, stray_wrong) }
