use borrow.Author.Rules.{rules}
use Rattle.numbers.proofs.SideLines.{role_small, own_few}
use Rattle.numbers.proofs.sides.fill_map.Goals as goal

pub overflow_cast-map : goal.overflow_cast-map
overflow_cast-map c = search (rules, role_small)

pub returns-clause-few : goal.returns-clause-few
returns-clause-few c = search (rules, own_few)
