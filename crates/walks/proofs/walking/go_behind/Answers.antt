use borrow.Author.Rules.{rules}
use Rattle.walks.proofs.Walkings.{going_found, going_on, going_past, going_end}
use Rattle.walks.proofs.walking.go_behind.Goals as goal
use Rattle.walks.proofs.walking.go_behind.Goals.{then-is_of_sort+in_default, else-is_of_sort}

pub returns-in-Some : goal.returns-in-Some
returns-in-Some c = search (rules, going_found)

pub loop-i-preserved : goal.loop-i-preserved
loop-i-preserved c = elim c.if-is_of_sort.branch [ then-is_of_sort+in_default w ↦ search (rules, going_on) | else-is_of_sort w ↦ search (rules, going_past) ]

pub returns : goal.returns
returns c = search (rules, going_end)
