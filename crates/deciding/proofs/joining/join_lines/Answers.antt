use borrow.Author.Rules.{rules}
use Rattle.deciding.proofs.Turns.{join_start, join_past, join_takes}
use Rattle.deciding.proofs.joining.join_lines.Goals as goal
use Rattle.deciding.proofs.joining.join_lines.Goals.{then-is_line_for, else-is_line_for}

pub loop-k-init : goal.loop-k-init
loop-k-init c = search (rules, join_start)

pub loop-k-preserved : goal.loop-k-preserved
loop-k-preserved c =
    elim c.if-is_line_for.branch [
      | then-is_line_for w ↦ search (rules, join_takes)
      | else-is_line_for w ↦ search (rules, join_past)
    ]
