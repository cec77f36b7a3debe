use borrow.Author.Rules.{rules}
use Rattle.fillers.proofs.MarkingLines.{lines_start, lines_end, lines_turn}
use Rattle.fillers.proofs.finding.mark_lines.Goals as goal

pub loop-k-init : goal.loop-k-init
loop-k-init c = search (rules, lines_start)

pub loop-k-preserved : goal.loop-k-preserved
loop-k-preserved c = search (rules, lines_turn)

pub returns-clause-marked : goal.returns-clause-marked
returns-clause-marked c = search (rules, lines_end)
