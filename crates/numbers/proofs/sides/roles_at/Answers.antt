-- `sides::roles_at` meets its contract, by its four calls.
use borrow.Author.Rules.{rules}
use Rattle.numbers.proofs.SideLines.{roles_are}
use Rattle.numbers.proofs.sides.roles_at.Goals as goal

pub returns : goal.returns
returns c = search (rules, roles_are)
