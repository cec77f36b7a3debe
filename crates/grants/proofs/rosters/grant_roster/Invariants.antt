-- `rosters::grant_roster` meets its contract: one method more at each turn.
use Rattle.grants.specs.Codes.{grantees_at}
use Rattle.grants.proofs.Stores.{Mixing}
use Rattle.grants.proofs.rosters.grant_roster.Given as goal

abbrev pub invariant-loop-number : goal.invariant-loop-number
invariant-loop-number l = Mixing 32 (grantees_at l.initial.roster) l.initial.roster l.number-index l.roster
