use borrow.Author.Count.{below_more}
use borrow.Author.Rules.{rules}
use Rattle.fillers.proofs.Marking.{digit_unmarked, digit_marked}
use Rattle.fillers.proofs.finding.first_unmarked.Goals as goal

pub returns-then-marks-n-eq0-clause-here : goal.returns-then-marks-n-eq0-clause-here
returns-then-marks-n-eq0-clause-here c = (λ h. search (rules, digit_unmarked), search rules)

pub loop-n-preserved : goal.loop-n-preserved
loop-n-preserved c = below_more _ _ (search rules) (search (rules, digit_marked))
