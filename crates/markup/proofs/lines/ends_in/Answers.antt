-- `ends_in` meets its contract.
use borrow.Author.Rules.{rules}
use mathlib.Core.Path.{refl}
use Rattle.markup.proofs.Counts.{counted_on, counted_fits, counted_all}
use Rattle.markup.proofs.lines.ends_in.Goals as goal

pub loop-b-init : goal.loop-b-init
loop-b-init c = refl

pub overflow_add-n : goal.overflow_add-n
overflow_add-n c = record { fits = counted_fits c.args.t.now c.loop-b.b-index c.loop-b.n c.from-n.result c.loop-b.invariant c.loop-b-test.true c.from-n.ensures (search rules) }

pub loop-b-preserved : goal.loop-b-preserved
loop-b-preserved c = counted_on c.args.t.now c.loop-b.b-index c.loop-b.n c.from-n.result c.loop-b.invariant c.loop-b-test.true c.from-n.ensures

pub returns : goal.returns
returns c = counted_all c.args.t.now c.loop-b.b-index c.loop-b.n c.loop-b.invariant (search rules)
