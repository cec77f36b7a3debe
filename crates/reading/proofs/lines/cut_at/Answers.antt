-- `lines::cut_at` meets its contract.
use borrow.Author.Rules.{rules}
use Rattle.std.specs.Prelude.{Some, None}
use Rattle.reading.proofs.Linecuts.{cut_is}
use Rattle.reading.proofs.lines.cut_at.Goals as goal

pub returns-in-Some : goal.returns-in-Some
returns-in-Some c = cut_is _ _ _ (Some c.in-Some.head) _ c.head.ensures.is c.in-Some.is c.cut_from.ensures

pub returns-in-None : goal.returns-in-None
returns-in-None c = cut_is _ _ _ None _ c.head.ensures.is c.in-None.is c.cut_from-in-None.ensures
