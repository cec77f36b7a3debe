-- `steps::step` meets its contract: in a wrong place, or by what `field` ensures.
use borrow.Author.Rules.{rules}
use Rattle.entries.proofs.Effects.{step_misplaced, step_placed}
use Rattle.entries.proofs.steps.step.Goals as goal

pub returns-then-not-may_follow : goal.returns-then-not-may_follow
returns-then-not-may_follow c = search (rules, step_misplaced)

pub returns : goal.returns
returns c = search (rules, step_placed)
