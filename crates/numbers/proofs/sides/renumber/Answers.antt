use borrow.Author.Rules.{rules}
use Rattle.numbers.proofs.SideLines.{set_start, set_has, set_misses, set_lacks}
use Rattle.numbers.proofs.sides.renumber.Goals.{then-j-own+then-set-j-eq1, else-j-own, else-j-own-via-then-j-own+else-set-j-eq1, else-j-own-via-else-j-own}
use Rattle.numbers.proofs.sides.renumber.Goals as goal

pub loop-i-init : goal.loop-i-init
loop-i-init c = search (rules, set_start)

pub loop-i-preserved : goal.loop-i-preserved
loop-i-preserved c = elim c.if-j-own.branch [
  | then-j-own+then-set-j-eq1 w ↦ rw w.out-is (set_has _ _ _ _ _ _ c.loop-i.invariant c.loop-i-test.true _ (search rules) w.if-j-own.true c.requires.1.1 c.requires.1.0 w.if-set-j-eq1.true)
  | else-j-own w ↦ rw w.out-is (elim w.else-j-own.branch [
    | else-j-own-via-then-j-own+else-set-j-eq1 v ↦ search (rules, set_misses, v.if-set-j-eq1)
    | else-j-own-via-else-j-own v ↦ search (rules, set_lacks, v.if-j-own)
  ])
]
