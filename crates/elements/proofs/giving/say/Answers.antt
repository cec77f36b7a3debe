-- `giving::say` meets its contract.
use borrow.Author.Rules.{rules}
use Rattle.elements.proofs.Goings.{gone_passed}
use Rattle.elements.proofs.Givings.{say_stops, say_goes}
use Rattle.elements.proofs.giving.say.Goals as goal

pub returns-in_err-give : goal.returns-in_err-give
returns-in_err-give c = gone_passed c.from_residual.ensures.1 (say_stops _ _ _ _ _ _ _ c.requires _ _ c.in_err-give.ensures)

pub returns : goal.returns
returns c = search (rules, say_goes)
