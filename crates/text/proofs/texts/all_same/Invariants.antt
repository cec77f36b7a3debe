-- `texts::all_same` meets its contract. The loop's invariant: what is alike so far, and what is left of the two texts, decide.
use mathlib.Core.Path.{◌≡◌}
use mathlib.Core.Bool.{◌&&◌}
use lib.ListN.{drop}
use Rattle.text.specs.Texts.{same}
use Rattle.text.proofs.texts.all_same.Given as goal

abbrev pub invariant-loop-i : goal.invariant-loop-i
invariant-loop-i l = same l.t l.u ≡ (l.alike && same (drop l.i l.t) (drop l.i l.u))
