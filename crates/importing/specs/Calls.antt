-- What the functions of the call hand to each other.
use Rattle.std.specs.Prelude.{Result, Ok, Err, ℕ, ◌-◌, ◌≤◌, ◌<◌, ◌≡◌, true, cond, List, ◌++◌, length, drop, eqb, ltb}
use Rattle.text.specs.Texts.{Text}
use Rattle.limits.specs.Limits.{most_bytes}
use Rattle.markup.specs.declared.answers.Fault.{Fault as Blame}
use Rattle.markup.specs.Places.{cause_of, blame}
use Rattle.documents.specs.Parts.{Got, got, fault}
use Rattle.listings.specs.Records.{Record}
use Rattle.portals.specs.Listings.{written}
use Rattle.portals.specs.Readings.{file_of}
use Rattle.portals.specs.Outcomes.{most_xml, Handed, handed, made_of, read_by, left_by}
use Rattle.ledger.specs.Ledgers.{Ledger, most_kept, ledger_of}
use Rattle.ledger.specs.Places.{ledger_at, Fits}
use Rattle.forming.specs.Formed.{fields_fit}

-- ---- a file that is read
-- the table w holds its records, each of which can be written; more than have room make a listing that is too long
pub record Accepted (s : Text) (rs : List Record) (w : List ℕ) : Type 0 where
  pub holds : ledger_at s w ≡ ledger_of rs
  pub fit : fields_fit rs ≡ true
  pub long : most_kept < length rs → most_bytes < length (written rs)

-- the file is accepted so; or there is a fault, put at its place
abbrev pub ReadAs : Text → Got (List Record) → Result ℕ Blame → List ℕ → Type 0
ReadAs s (got rs r) q w = ((p : ℕ) × (q ≡ Ok p)) × Accepted s rs w
ReadAs s (fault e n) q w = q ≡ Err (blame (cause_of e) (length s - n))

pub record FileRead (s : Text) (q : Result ℕ Blame) (w : List ℕ) : Type 0 where
  pub answer : ReadAs s (file_of s) q w
  pub fits : Fits w

-- ---- the listing for what the table holds
pub record Formable (s : Text) (w : List ℕ) : Type 0 where
  pub short : length s ≤ most_xml
  pub fits : Fits w
  pub fit : fields_fit (ledger_at s w).records ≡ true

-- what a buffer holds where a listing of text t is to be written into it
unfoldable pub made_in : Text → Text → Text
unfolding made_of
made_in t out = cond (eqb (made_of t (length out)).number 0) (t ++ drop (length t) out) out

unfoldable pub formed_of : Ledger → ℕ → Handed
unfolding made_of written
formed_of L room = cond (ltb most_kept L.size) (handed 2 1 0 0) (made_of (written L.records) room)

unfoldable pub formed_in : Ledger → Text → Text
unfolding made_in written
formed_in L out = cond (ltb most_kept L.size) out (made_in (written L.records) out)

-- what it holds where the file s has been read
unfoldable pub read_in : Text → Text → Text
unfolding file_of
read_in s out = cond (eqb (read_by s (file_of s) (length out)).number 0) (left_by (file_of s) out) out
