-- `arranging::put_roles` meets its contract: what is left to be put is what the records from i on put.
use mathlib.Core.Path.{◌≡◌}
use lib.ListN.{length, drop}
use Rattle.portals.specs.Listings.{roles_first, lines_text}
use Rattle.ledger.specs.Places.{records_at}
use Rattle.forming.proofs.Lefts.{Left}
use Rattle.forming.proofs.arranging.put_roles.Given as goal

abbrev pub invariant-loop-x : goal.invariant-loop-x
invariant-loop-x l =
    (length l.out ≡ length l.initial.out) × Left l.initial.out l.at (lines_text (roles_first (records_at l.s (length l.records) l.records))) l.out l.e (lines_text (roles_first (drop l.x-index (records_at l.s (length l.records) l.records))))
