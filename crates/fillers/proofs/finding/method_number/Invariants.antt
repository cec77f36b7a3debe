-- `finding::method_number` meets its contract: every number passed is that of a named method.
use Prim.Native.Nat.{ℕ, ◌<◌}
use mathlib.Core.Path.{◌≡◌}
use mathlib.Core.Bool.{false}
use mathlib.Core.List.{◌++◌}
use Rattle.trials.specs.Fillers.{is_unnamed}
use Rattle.fillers.proofs.finding.method_number.Given as goal

abbrev pub invariant-loop-n : goal.invariant-loop-n
invariant-loop-n l = (i : ℕ) → i < l.n → is_unnamed (l.new.methods ++ l.old.methods) i ≡ false
