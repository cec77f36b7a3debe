-- `texts::scan` meets its contract. The loop's invariant: the field's end is still to come, and its bytes so far are clean or not.
use Rattle.text.proofs.Spans.{Scanning}
use Rattle.text.proofs.texts.scan.Given as goal

abbrev pub invariant-loop-i : goal.invariant-loop-i
invariant-loop-i l = Scanning l.s l.at l.clean l.i
