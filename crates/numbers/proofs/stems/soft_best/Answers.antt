-- `stems::soft_best` meets its contract, case by case.
use borrow.Author.Rules.{rules}
use Rattle.numbers.proofs.Stemmings.{soft_firm, soft_slash, soft_none, soft_some}
use Rattle.numbers.proofs.stems.soft_best.Goals.{then-root-eq1-via-then-root-eq1, then-root-eq1-via-else-root-eq1+then-are_same}
use Rattle.numbers.proofs.stems.soft_best.Goals as goal

pub returns-then-root-eq1 : goal.returns-then-root-eq1
returns-then-root-eq1 c = elim c.then-root-eq1.branch [
  | then-root-eq1-via-then-root-eq1 w ↦ soft_firm _ _ _ w.if-root-eq1.true
  | then-root-eq1-via-else-root-eq1+then-are_same w ↦ soft_slash _ _ _ _ w.are_same.ensures w.if-are_same.true
]

pub returns-in-Some : goal.returns-in-Some
returns-in-Some c = search (rules, soft_some)

pub returns-in-None : goal.returns-in-None
returns-in-None c = search (rules, soft_none)
