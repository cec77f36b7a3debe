-- `joining::strongest` meets its contract: the patterns are gone through once.
use mathlib.Core.Path.{◌≡◌}
use lib.ListN.{take}
use Rattle.reading.specs.Views.{texts}
use Rattle.matching.specs.Strengths.{leading}
use Rattle.deciding.proofs.joining.strongest.Given as goal

abbrev pub invariant-loop-k : goal.invariant-loop-k
invariant-loop-k l = (l.x ≡ leading (take l.k (texts l.view)) l.path) × (l.x.seen ≡ l.k)
