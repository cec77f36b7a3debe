use borrow.Author.Rules.{rules}
use Rattle.fillers.proofs.MarkingTexts.{text_starts, text_ends, text_turns, text_skips}
use Rattle.fillers.proofs.finding.mark_text.Goals as goal

pub loop-b-init : goal.loop-b-init
loop-b-init c = search (rules, text_starts)

pub loop-b-preserved-then-b-eq113 : goal.loop-b-preserved-then-b-eq113
loop-b-preserved-then-b-eq113 c =
    let at = c.loop-b.invariant in
    let number = c.mark_number-k.ensures in
    (search rules, text_turns _ _ _ _ at.1 _ _ c.in-Some.ensures.cases.0 c.if-b-eq113.true _ _ number.marked number.passed)

pub loop-b-preserved : goal.loop-b-preserved
loop-b-preserved c = let at = c.loop-b.invariant in (at.0, text_skips _ _ _ _ at.1 _ _ c.in-Some.ensures.cases.0 c.if-b-eq113.false)

pub returns : goal.returns
returns c = text_ends _ _ _ _ c.loop-b.invariant.1 (rw c.in_default.is at c.split_first.ensures.cases)
