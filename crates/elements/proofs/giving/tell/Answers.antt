-- `giving::tell` meets its contract.
use borrow.Author.Rules.{rules}
use Rattle.elements.proofs.Goings.{shown_passed_as}
use Rattle.elements.proofs.Givings.{tagged_begun, tell_size, tell_none, tell_stands, tell_stops, tell_unclosed, tell_closes}
use Rattle.elements.proofs.giving.tell.Goals as goal

pub gather-requires : goal.gather-requires
gather-requires c = search (rules, tagged_begun)

pub returns-in_err-g-clause-exact : goal.returns-in_err-g-clause-exact
returns-in_err-g-clause-exact c = shown_passed_as _ _ c.from_residual.ensures.1 (search (rules, tell_stops))

pub returns-in_err-g-clause-text : goal.returns-in_err-g-clause-text
returns-in_err-g-clause-text c = (λ l. search (rules, tell_none))

pub returns-in_err-next-clause-exact : goal.returns-in_err-next-clause-exact
returns-in_err-next-clause-exact c = shown_passed_as _ _ c.from_residual-in_err-next.ensures.1 (search (rules, tell_unclosed))

pub returns-in_err-next-clause-text : goal.returns-in_err-next-clause-text
returns-in_err-next-clause-text c = search (rules, tell_stands)

pub returns-clause-exact : goal.returns-clause-exact
returns-clause-exact c = search (rules, tell_closes)

pub returns-clause-size : goal.returns-clause-size
returns-clause-size c = search (rules, tell_size)

pub returns-clause-text : goal.returns-clause-text
returns-clause-text c = search (rules, tell_stands)
