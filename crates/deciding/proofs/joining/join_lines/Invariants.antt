-- `joining::join_lines` meets its contract: the loop keeps what the lines passed come to.
use mathlib.Core.Path.{◌≡◌}
use Rattle.deciding.specs.Joinings.{joined_up_to}
use Rattle.deciding.proofs.joining.join_lines.Given as goal

abbrev pub invariant-loop-k : goal.invariant-loop-k
invariant-loop-k l = l.j ≡ joined_up_to l.view l.text l.m l.k
