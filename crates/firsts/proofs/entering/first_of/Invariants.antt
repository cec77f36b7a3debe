-- `entering::first_of` meets its contract: no line passed has the text.
use Rattle.firsts.proofs.Enterings.{FindingTo}
use Rattle.firsts.proofs.entering.first_of.Given as goal

abbrev pub invariant-loop-i : goal.invariant-loop-i
invariant-loop-i l = FindingTo l.old l.new l.j l.i l.initial.w l.w
