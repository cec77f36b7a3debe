-- `ends_in` meets its contract: so far it has counted the bytes before the turn's.
use mathlib.Core.Path.{◌≡◌}
use lib.Dec.{eqb}
use lib.ListN.{take}
use Rattle.std.specs.List.{count_by}
use Rattle.text.specs.Texts.{newline}
use Rattle.markup.proofs.lines.ends_in.Given as goal

abbrev pub invariant-loop-b : goal.invariant-loop-b
invariant-loop-b l = l.n ≡ count_by (λ b. eqb b newline) (take l.b-index l.t)
