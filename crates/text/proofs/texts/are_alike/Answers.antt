use borrow.Author.Rules.{rules}
use mathlib.Core.Path.{sym, ◌∙◌}
use native.Mathlib.Omega.{arith}
use lib.Seq.{length-take-le}
use Rattle.text.proofs.Spans.{same_lengths, parts_differ, alike_begin, alike_more, alike_first}
use Rattle.text.proofs.texts.are_alike.Goals as goal

pub returns-then-n-u : goal.returns-then-n-u
returns-then-n-u c = search (rules, same_lengths)

pub loop-i-init : goal.loop-i-init
loop-i-init c = search (rules, alike_begin)

pub returns-then-not-all_same : goal.returns-then-not-all_same
returns-then-not-all_same c = search (rules, parts_differ)

pub loop-i-preserved : goal.loop-i-preserved
loop-i-preserved c = search (rules, alike_more)

pub slice_bounds-all_same-end-3 : goal.slice_bounds-all_same-end-3
slice_bounds-all_same-end-3 c = sym (length-take-le 32 c.args.u.now (omega (arith, c.if-n-u.false, c.if-n-lt32.false)))

pub all_same-requires-2 : goal.all_same-requires-2
all_same-requires-2 c =
    length-take-le 32 c.args.t.now (omega (arith, c.if-n-lt32.false))
    ∙ sym (length-take-le 32 c.args.u.now (omega (arith, c.if-n-u.false, c.if-n-lt32.false)))

pub returns : goal.returns
returns c = search (rules, alike_first)
