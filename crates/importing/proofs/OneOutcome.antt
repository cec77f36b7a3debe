-- The statement of the call settles its outcome: two outcomes that both satisfy it are equal.
use mathlib.Core.Path.{◌≡◌, sym, ap, ◌∙◌}
use mathlib.Core.List.{List}
use Prim.Native.Nat.{ℕ}
use Rattle.text.specs.Texts.{Text}
use Rattle.listings.specs.Refusals.{report}
use Rattle.portals.specs.Outcomes.{Handed, FromOutcome}
use Rattle.importing.specs.declared.answers.Import.{Import}
use Rattle.importing.specs.Handed.{handed_by}

-- the struct is its four numbers
abbrev struct_of : Handed → Import
struct_of h = record { report = report h.number h.side h.line; length = h.length }

pub import_unique : (s out : Text) (work : List ℕ) (r r' : Import) (b b' : Text) (w w' : List ℕ)
    → FromOutcome s out work (handed_by r) b w → FromOutcome s out work (handed_by r') b' w' → (r ≡ r') × (b ≡ b') × (w ≡ w')
import_unique s out work r r' b b' w w' o o' = (ap struct_of (o.answer ∙ sym o'.answer), o.buffer ∙ sym o'.buffer, o.work ∙ sym o'.work)
