-- `rosters::join_line` meets its contract: one method more at each turn.
use Rattle.grants.specs.Codes.{joined_with}
use Rattle.grants.proofs.Stores.{Mixing}
use Rattle.grants.proofs.rosters.join_line.Given as goal

abbrev pub invariant-loop-m : goal.invariant-loop-m
invariant-loop-m l = Mixing 32 (joined_with l.cover l.code l.initial.roster) l.initial.roster l.m l.roster
