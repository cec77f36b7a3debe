-- `sides::access_number_at` meets its contract, by its two calls.
use borrow.Author.Rules.{rules}
use Rattle.numbers.proofs.SideLines.{access_is}
use Rattle.numbers.proofs.sides.access_number_at.Goals as goal

pub returns : goal.returns
returns c = search (rules, access_is)
