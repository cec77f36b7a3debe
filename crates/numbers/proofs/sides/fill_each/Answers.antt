use native.Mathlib.Omega.{arith}
use Rattle.numbers.proofs.Writings.{wrote_none, wrote_more}
use Rattle.numbers.proofs.sides.fill_each.Goals as goal

pub loop-k-init : goal.loop-k-init
loop-k-init g c = λ f tells. wrote_none _ f _

pub loop-k-preserved : goal.loop-k-preserved
loop-k-preserved g c = λ f tells.
    let so_far = c.loop-k.invariant f tells in
    wrote_more _ _ _ f _ _ so_far (omega (arith, c.loop-k-test.true, c.requires.room, so_far.kept.size)) (tells _ _ c.loop-k-test.true c.number.ensures)
