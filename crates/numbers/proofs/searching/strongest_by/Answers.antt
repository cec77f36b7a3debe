use Rattle.std.proofs.Common.{rules, []}
use Rattle.numbers.proofs.Searchings.{by_none, by_step, by_count}
use Rattle.numbers.proofs.searching.strongest_by.Goals as goal

pub loop-k-init : goal.loop-k-init
loop-k-init g c = (λ f tells. by_none f [], search rules)

pub loop-k-preserved : goal.loop-k-preserved
loop-k-preserved g c =
    let so_far = c.loop-k.invariant in (
      λ f tells.
          by_step f _ _ _ (so_far.0 f tells) _ _ _ _ c.pattern_count-k-end.ensures.count c.loop-k-test.true c.pattern.ensures
          (tells _ _ _ (search rules) c.pattern.ensures c.strength.ensures) c.with-x.ensures,
      by_count c.loop-k.x c.strength.result _ _ so_far.1 c.with-x.ensures,
    )
