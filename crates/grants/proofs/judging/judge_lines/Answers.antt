-- `judging::judge_lines` meets its contract: the rosters of both best lines are judged.
use borrow.Author.Rules.{rules}
use Rattle.grants.proofs.Judgings.{lines_judged}
use Rattle.grants.proofs.judging.judge_lines.Goals as goal

pub returns : goal.returns
returns c = search (rules, lines_judged)
