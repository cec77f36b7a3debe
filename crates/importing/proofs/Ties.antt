-- A file is read into the ledger as it is read into its records: the same fault at the same place, or the ledger keeps what the records are.
use mathlib.Core.Path.{◌≡◌, refl, sym, ap, ◌∙◌}
use mathlib.Core.List.{List}
use Prim.Native.Nat.{ℕ, ◌-◌}
use lib.ListN.{length}
use Rattle.std.specs.Prelude.{Result, Ok, Err}
use Rattle.text.specs.Texts.{Text}
use Rattle.documents.specs.Parts.{Got, got, fault}
use Rattle.listings.specs.Records.{Record}
use Rattle.portals.specs.Readings.{listed, kept_of, file_of}
use Rattle.markup.specs.declared.answers.Fault.{Fault as Blame}
use Rattle.markup.specs.Places.{cause_of, blame, placed_as, read_as}
use Rattle.markup.proofs.Steps.{not_both, same_value, same_fault, faulty}
use Rattle.portals.proofs.Keepings.{Tied, gets, fails, Alike, file_tied}
use Rattle.portals.proofs.Exactly.{accepts_exactly}
use Rattle.ledger.specs.Ledgers.{Ledger, no_records, ledgered}
use Rattle.ledger.specs.Places.{ledger_at, Fits}
use Rattle.ledger.proofs.Rules.{Pictured, same_rule, picture_added, picture_guarded, picture_none}
use Rattle.elements.specs.Goings.{Stood, stood, read_on, shown_by}
use Rattle.importing.specs.Calls.{ReadAs, FileRead}
use Rattle.importing.proofs.Meant.{meant_fit, meant_long}

-- ---- the two ways to keep a file's records
abbrev Pictures : Ledger → List Record → Type 0
Pictures L rs = Pictured rs L

alike : Alike ledgered listed Pictures
alike = record {
  breaks = λ L rs r p. same_rule rs L p r;
  adds = λ L rs r p e. picture_added rs L p r (sym (same_rule rs L p r) ∙ e);
  guards = λ L rs p. picture_guarded rs L p;
}

-- what the code hands back of a file that is read so: what is kept, or a fault at its place
abbrev Told : ℕ → Got Ledger → Result ℕ Blame → Ledger → Type 0
Told l (got L r) q M = ((p : ℕ) × (q ≡ Ok p)) × (M ≡ L)
Told l (fault e n) q M = q ≡ Err (blame (cause_of e) (l - n))

told_read : (s : Text) (q : Result ℕ Blame) (w : List ℕ) → Told (length s) (kept_of ledgered no_records s) q (ledger_at s w) → Fits w → FileRead s q w
told_read s q w T fits = record { answer = go (kept_of ledgered no_records s) (file_of s) refl (file_tied ledgered Pictures alike no_records s picture_none) T; fits = fits }
  where
    go : (g : Got Ledger) (h : Got (List Record)) → file_of s ≡ h → Tied Pictures g h → Told (length s) g q (ledger_at s w) → ReadAs s h q w
    go g h e (gets {a = L} {b = rs} {r = r} P) T =
        let m = (accepts_exactly.sound s rs r e).0 in
        (T.0, record { holds = T.1 ∙ P.is; fit = meant_fit s rs m; long = meant_long s rs m })
    go g h e fails T = T

-- as the reader of elements shows it
shown_told : (l : ℕ) (q : Result ℕ Blame) (M : Ledger) (g : Got Ledger) → shown_by q M ≡ placed_as stood l g → Told l g q M
shown_told l (Ok p) M (got L r) h = ((p, refl), ap (λ (z : Stood Ledger). z.value) (same_value h))
shown_told l (Ok p) M (fault d n) h = absurd (not_both h)
shown_told l (Err e) M (got L r) h = absurd (not_both (sym h))
shown_told l (Err e) M (fault d n) h = ap (faulty {B = ℕ}) (same_fault h)

pub file_read : (s : Text) (q : Result ℕ Blame) (w : List ℕ) → shown_by q (ledger_at s w) ≡ read_on (kept_of ledgered no_records) s 0 → Fits w → FileRead s q w
unfolding read_as
file_read s q w h fits = told_read s q w (shown_told (length s) q (ledger_at s w) (kept_of ledgered no_records s) h) fits
