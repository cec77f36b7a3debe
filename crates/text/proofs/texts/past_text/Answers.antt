use borrow.Author.Rules.{rules}
use Rattle.text.proofs.Spans.{none_all, pass_begin, pass_four}
use Rattle.text.proofs.texts.past_text.Goals as goal

pub returns-in_default-clause-clean : goal.returns-in_default-clause-clean
returns-in_default-clause-clean c = search (rules, none_all)

pub loop-four-init : goal.loop-four-init
loop-four-init c = let found = c.in-Some.ensures.lookup.0 in pass_begin _ _ _ found.2 found.0

pub loop-four-preserved : goal.loop-four-preserved
loop-four-preserved c =
    let cut = c.in-Some-split_first_chunk.ensures.cases in
    pass_four _ _ _ _ _ c.loop-four.invariant cut.0 cut.1 cut.2 _ c.all_text.ensures c.if-not-all_text.false
