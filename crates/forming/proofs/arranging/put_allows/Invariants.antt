-- `arranging::put_allows` meets its contract: what is left to be put is what the records from i on allow.
use mathlib.Core.Path.{◌≡◌}
use Prim.Native.Nat.{◌+◌}
use lib.ListN.{length, drop}
use Rattle.portals.specs.Listings.{allows, lines_text}
use Rattle.ledger.specs.Places.{records_at}
use Rattle.forming.proofs.Lefts.{Left}
use Rattle.forming.proofs.arranging.put_allows.Given as goal

abbrev pub invariant-loop-x : goal.invariant-loop-x
invariant-loop-x l =
    (length l.out ≡ length l.initial.out) × Left l.initial.out l.at (lines_text (allows (drop l.i (records_at l.s (length l.records) l.records)))) l.out l.e (lines_text (allows (drop (l.i + l.x-index) (records_at l.s (length l.records) l.records))))
