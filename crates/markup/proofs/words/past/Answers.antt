use borrow.Author.Rules.{rules}
use mathlib.Core.Bool.{true, false}
use mathlib.Core.Path.{sym}
use lib.ListN.{length, get_or}
use Rattle.markup.proofs.Places.{run_stops, run_goes, run_ends}
use Rattle.markup.proofs.words.past.Goals as goal

pub returns-then-not-kind-clause-exact : goal.returns-then-not-kind-clause-exact
returns-then-not-kind-clause-exact g c = λ p h.
    run_stops p c.args.s.now c.args.at c.loop-n.n (c.loop-n.invariant p h) (search rules) (sym (h (get_or c.args.s.now c.loop-n.n 0) false (search rules) (search rules)))

pub loop-n-preserved : goal.loop-n-preserved
loop-n-preserved g c = λ p h.
    run_goes p c.args.s.now c.args.at c.loop-n.n (c.loop-n.invariant p h) (search rules) (sym (h (get_or c.args.s.now c.loop-n.n 0) true (search rules) (search rules)))

pub returns-clause-exact : goal.returns-clause-exact
returns-clause-exact g c = λ p h. run_ends p c.args.s.now c.args.at (length c.args.s.now) (search rules) (search rules)
