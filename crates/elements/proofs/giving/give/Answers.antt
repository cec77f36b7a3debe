-- `giving::give` meets its contract: what adding the record comes to.
use borrow.Author.Rules.{rules}
use Rattle.elements.proofs.Givings.{given_by}
use Rattle.elements.proofs.giving.give.Goals as goal

pub returns : goal.returns
returns c = given_by _ _ _ _ _ _ _ _ (search rules) c.add.ensures _ (λ d b h. search rules) c.map_err.ensures.cases
