-- `judging::judge` meets its contract: what is to come of the methods is the same at each turn.
use Rattle.grants.proofs.Judgings.{Looking}
use Rattle.grants.proofs.judging.judge.Given as goal

abbrev pub invariant-loop-method : goal.invariant-loop-method
invariant-loop-method l = Looking l.ro l.rn l.pairs l.count l.method
