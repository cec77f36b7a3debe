-- `arranging::put_blocks` meets its contract: what is left to be put is what the records from i on put.
use mathlib.Core.Path.{◌≡◌}
use lib.ListN.{length, drop}
use Rattle.portals.specs.Listings.{blocks, lines_text}
use Rattle.ledger.specs.Places.{records_at}
use Rattle.forming.proofs.Lefts.{Left}
use Rattle.forming.proofs.arranging.put_blocks.Given as goal

abbrev pub invariant-loop-i : goal.invariant-loop-i
invariant-loop-i l =
    (length l.out ≡ length l.initial.out) × Left l.initial.out l.at (lines_text (blocks (records_at l.s (length l.records) l.records))) l.out l.e (lines_text (blocks (drop l.i (records_at l.s (length l.records) l.records))))
