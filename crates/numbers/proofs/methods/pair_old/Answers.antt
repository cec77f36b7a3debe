use borrow.Author.Rules.{rules}
use Rattle.numbers.proofs.PairsPut.{further_start, further_known, further_more}
use Rattle.numbers.proofs.methods.pair_old.Goals.{then-own-method_index, else-own-method_index}
use Rattle.numbers.proofs.methods.pair_old.Goals as goal

pub loop-j-init : goal.loop-j-init
loop-j-init c = search (rules, further_start)

pub loop-j-preserved : goal.loop-j-preserved
loop-j-preserved c = elim c.if-own-method_index.branch [
  | then-own-method_index w ↦ rw (w.w-is, w.count-is)
      (further_more _ _ _ _ _ _ _ _ _ c.loop-j.invariant c.loop-j-test.true _ c.method.ensures _ c.method_index.ensures.index _ w.if-own-method_index.true w.put_pair.ensures)
  | else-own-method_index w ↦ rw (w.w-is, w.count-is)
      (further_known _ _ _ _ _ _ _ _ _ c.loop-j.invariant c.loop-j-test.true _ c.method.ensures _ c.method_index.ensures.index w.if-own-method_index.false)
]
