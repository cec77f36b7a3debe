-- `texts::past_text` meets its contract: the invariant is that of the scan, up to what is left, and four bytes are passed at a time.
use lib.ListN.{length}
use Rattle.text.proofs.Spans.{Passing}
use Rattle.text.proofs.texts.past_text.Given as goal

abbrev pub invariant-loop-four : goal.invariant-loop-four
invariant-loop-four l = Passing l.s l.at l.rest

abbrev pub decreases-loop-four : goal.decreases-loop-four
decreases-loop-four l = length l.rest
