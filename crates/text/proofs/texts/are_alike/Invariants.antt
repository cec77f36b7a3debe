-- `texts::are_alike` meets its contract: by the lengths, by the ends, or by 32 before 32. The loop's invariant: the last 32s so far are alike.
use Rattle.text.proofs.Spans.{Alike}
use Rattle.text.proofs.texts.are_alike.Given as goal

abbrev pub invariant-loop-i : goal.invariant-loop-i
invariant-loop-i l = Alike l.t l.u l.i
