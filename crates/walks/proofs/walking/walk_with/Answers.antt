use borrow.Author.Rules.{rules}
use mathlib.Core.Path.{refl}
use Rattle.walks.proofs.Gatherings.{roster_of_none}
use Rattle.walks.proofs.Walkings.{ahead_start, ahead_past, ahead_found, ahead_on, ahead_end}
use Rattle.walks.proofs.walking.walk_with.Goals as goal

pub loop-j-init : goal.loop-j-init
loop-j-init c = search (rules, ahead_start, roster_of_none)

pub returns-in-Some : goal.returns-in-Some
returns-in-Some c = search (rules, ahead_found)

pub loop-j-preserved-then-is_of_sort : goal.loop-j-preserved-then-is_of_sort
loop-j-preserved-then-is_of_sort c = search (rules, ahead_past)

pub loop-j-preserved : goal.loop-j-preserved
loop-j-preserved c =
    ahead_on _ _ _ _ _ _ _ c.loop-j.invariant _ refl c.loop-j-test.true _ c.try_stem.ensures _ _ _ _ (search rules) (search rules) (search rules) (search rules) (search rules)

pub returns : goal.returns
returns c = search (rules, ahead_end)
