use mathlib.Core.Path.{sym, ◌∙◌}
use borrow.Author.Count.{below_more}
use borrow.Author.Rules.{rules}
use Rattle.fillers.proofs.Unnamed.{method_found, method_last, method_small}
use Rattle.fillers.proofs.finding.method_number.Goals as goal

pub returns-then-is_unnamed : goal.returns-then-is_unnamed
returns-then-is_unnamed c = (search (rules, method_found), search (rules, method_small))

pub loop-n-preserved : goal.loop-n-preserved
loop-n-preserved c = below_more _ _ (search rules) (sym c.is_unnamed.ensures ∙ c.if-is_unnamed.false)

pub returns : goal.returns
returns c = (search (rules, method_last), search (rules, method_small))
