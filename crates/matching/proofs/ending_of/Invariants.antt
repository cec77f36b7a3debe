-- `matching::ending_of` meets its contract: what is passed has no `.` and no `/`.
use Rattle.matching.proofs.Endings.{PlainFrom}
use Rattle.matching.proofs.ending_of.Given as goal

abbrev pub invariant-loop-i : goal.invariant-loop-i
invariant-loop-i l = PlainFrom l.path l.i
