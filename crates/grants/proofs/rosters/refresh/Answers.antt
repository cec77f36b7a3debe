-- `rosters::refresh` meets its contract: the roster stays where the line does.
use borrow.Author.Rules.{rules}
use Rattle.grants.proofs.Granting.{roster_size, roster_kept}
use Rattle.grants.proofs.rosters.refresh.Goals as goal

pub returns-then-had-line : goal.returns-then-had-line
returns-then-had-line c = search (rules, roster_kept)

pub fill_roster-requires : goal.fill_roster-requires
fill_roster-requires c = search (rules, roster_size)

pub shape_of-roster : goal.shape_of-roster
shape_of-roster c = search (rules, roster_size)
