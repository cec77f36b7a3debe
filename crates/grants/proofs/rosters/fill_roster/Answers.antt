-- `rosters::fill_roster` meets its contract: nothing is joined where no line is the best match, else its lines are.
use borrow.Author.Rules.{rules}
use Rattle.grants.proofs.Granting.{roster_none, roster_line}
use Rattle.grants.proofs.rosters.fill_roster.Goals as goal

pub returns-then-line-eq0 : goal.returns-then-line-eq0
returns-then-line-eq0 c = search (rules, roster_none)

pub returns : goal.returns
returns c = search (rules, roster_line)
