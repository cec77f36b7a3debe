-- `finding::filler_number` meets its contract: the marks are cleared, those of new and of old are set, and the first number without one is taken.
use lib.ListN.{length}
use borrow.Author.Rules.{rules}
use Rattle.fillers.proofs.FirstFiller.{filler_found, filler_small}
use Rattle.fillers.proofs.finding.filler_number.Goals as goal

pub returns-clause-number : goal.returns-clause-number
returns-clause-number c = search (rules, filler_found)

pub returns-clause-small : goal.returns-clause-small
returns-clause-small c =
    let new = c.mark_lines.ensures in
    let old = c.mark_lines-2.ensures in
    let first = c.first_unmarked.ensures in
    filler_small _ _ old.proper new.proper (length c.args.marks.now) _ _ _ (search rules) new.marked old.marked _ first.below first.here
