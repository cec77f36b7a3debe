-- What is asked of reading a web.xml, as types: proofs/ has the proofs.
use Rattle.std.specs.Prelude.{ℕ, ◌≤◌, ◌<◌, ◌≡◌, List, [], ◌++◌, ◌↔◌, length, take, drop, replicate}
use Rattle.text.specs.Texts.{Text}
use Rattle.limits.specs.Limits.{most_bytes}
use Rattle.worktable.specs.Work.{work_size}
use Rattle.documents.specs.Parts.{Fault, got, fault}
use Rattle.listings.specs.Records.{Record}
use Rattle.listings.specs.Refusals.{accepted, reading_of}
use Rattle.listings.specs.Listings.{listing_of}
use Rattle.portals.specs.Means.{Means}
use Rattle.portals.specs.Listings.{written}
use Rattle.portals.specs.Readings.{file_of}
use Rattle.portals.specs.Outcomes.{most_xml, fault_number, line_at, Handed, handed, FromOutcome}
use Rattle.portals.specs.Plainly.{roles_in, constraints_in}

-- the reader accepts exactly the files that mean something, with the records that they give, and reads them to their end
pub record AcceptsExactly : Type 0 where
  pub sound : (s : Text) (rs : List Record) (r : Text) → file_of s ≡ got rs r → Means s rs × (r ≡ [])
  pub complete : (s : Text) (rs : List Record) → Means s rs → file_of s ≡ got rs []

-- a file gives one listing
abbrev pub OneMeaning : Type 0
OneMeaning = (s : Text) (rs rs' : List Record) → Means s rs → Means s rs' → rs ≡ rs'

-- what is written, where it is not too long, is accepted by `budquarry_read`
abbrev pub WrittenIsAccepted : Type 0
WrittenIsAccepted = (s : Text) (rs : List Record) → Means s rs → length (written rs) ≤ most_bytes → reading_of (written rs) ≡ accepted

-- and its listing has exactly the file's roles and constraints, with their collections, patterns, methods, omissions and allowed names, in the file's order
pub record ListingExactly (s : Text) (rs : List Record) (m : Means s rs) : Type 0 where
  pub roles : (listing_of (written rs)).declared ≡ roles_in m.held
  pub constraints : (listing_of (written rs)).constraints ≡ constraints_in m.held

abbrev pub WrittenSaysTheFile : Type 0
WrittenSaysTheFile = (s : Text) (rs : List Record) (m : Means s rs) → ListingExactly s rs m

-- ---- what the call answers, over its outcomes, those that satisfy its statement
-- the file is looked at: the work table is long enough, and the file not too long
abbrev pub LookedAt : Text → List ℕ → Type 0
LookedAt s w = (work_size ≤ length w) × (length s ≤ most_xml)

-- reading stops at the first fault of the file: e, at line l
abbrev pub StopsAt : Text → Fault → ℕ → Type 0
StopsAt s e l = (n : ℕ) × (file_of s ≡ fault e n) × (l ≡ line_at s n)

-- it does exactly where the file means nothing
abbrev pub FaultsExactly : Type 0
FaultsExactly = (s : Text) → ((e : Fault) × (l : ℕ) × StopsAt s e l) ↔ ((rs : List Record) → Means s rs → ⊥)

-- the file means something, and t is the listing for it
abbrev pub ListedAs : Text → Text → Type 0
ListedAs s t = (rs : List Record) × Means s rs × (t ≡ written rs)

-- 02's refusals in their order, and the answer without one: what is handed back, and what the buffer then holds. With file s, buffer out and work table w
-- one row is given, and which one is told by what stands before its last arrow.
pub data Answered (s out : Text) (w : List ℕ) : Handed → Text → Type 0 where
  -- "work table below 4,096 numbers"
  table_too_short : length w < work_size → Answered s out w (handed 1 0 0 0) out
  -- "16 over 65,536 bytes"
  file_too_long : work_size ≤ length w → most_xml < length s → Answered s out w (handed 16 1 0 0) out
  -- 17, 18, 19, 6, 7, 9, 8
  faulty : {e : Fault} {l : ℕ} → LookedAt s w → StopsAt s e l → Answered s out w (handed (fault_number e) 1 l 0) out
  -- "2 where the listing made passes 24,576 bytes"
  listing_too_long : {t : Text} → LookedAt s w → ListedAs s t → most_bytes < length t → Answered s out w (handed 2 1 0 0) out
  -- 15, with the length needed
  buffer_too_small : {t : Text} → LookedAt s w → ListedAs s t → length t ≤ most_bytes → length out < length t → Answered s out w (handed 15 0 0 (length t)) out
  -- the listing, and behind it the buffer's tail as it was
  listing : {t : Text} → LookedAt s w → ListedAs s t → length t ≤ most_bytes → length t ≤ length out
      → Answered s out w (handed 0 0 0 (length t)) (t ++ drop (length t) out)

-- what is asked of one outcome: with file s, buffer out and work table w, r is handed back, and buffer and work table are left
pub record DefiniteListing (s out : Text) (w : List ℕ) (r : Handed) (out' : Text) (w' : List ℕ) : Type 0 where
  -- no other outcome satisfies the statement
  pub settled : (q : Handed) (b : Text) (v : List ℕ) → FromOutcome s out w q b v → (r ≡ q) × (out' ≡ b) × (w' ≡ v)
  -- any other work table that is long enough gives the same, whatever stands in it
  pub alike : (z : List ℕ) (q : Handed) (b : Text) (v : List ℕ) → work_size ≤ length w → work_size ≤ length z → FromOutcome s out z q b v → (r ≡ q) × (out' ≡ b)
  -- what is handed back and what the buffer holds are those of the row that is given, and no others
  pub row : (q : Handed) (b : Text) → ((r ≡ q) × (out' ≡ b)) ↔ Answered s out w q b
  -- each number by itself, and exactly where it is given
  pub refuses_table : (r.number ≡ 1) ↔ (length w < work_size)
  pub refuses_file : (r.number ≡ 16) ↔ ((work_size ≤ length w) × (most_xml < length s))
  pub refuses_at : (e : Fault) (l : ℕ) → ((r.number ≡ fault_number e) × (r.line ≡ l)) ↔ (LookedAt s w × StopsAt s e l)
  pub refuses_listing : (r.number ≡ 2) ↔ (LookedAt s w × ((t : Text) × ListedAs s t × (most_bytes < length t)))
  pub refuses_buffer : (r.number ≡ 15) ↔ (LookedAt s w × ((t : Text) × ListedAs s t × (length t ≤ most_bytes) × (length out < length t)))
  pub accepts : (r.number ≡ 0) ↔ (LookedAt s w × ((t : Text) × ListedAs s t × (length t ≤ most_bytes) × (length t ≤ length out)))
  -- beside 15 the length needed; beside 0 the listing's, and the buffer holds the listing and then its tail as it was
  pub needed : (t : Text) → ListedAs s t → r.number ≡ 15 → r.length ≡ length t
  pub stands : (t : Text) → ListedAs s t → r.number ≡ 0 → (r.length ≡ length t) × (out' ≡ t ++ drop (length t) out)
  -- beside a refusal the buffer is unchanged; its length never changes
  pub silent : 1 ≤ r.number → out' ≡ out
  pub room : length out' ≡ length out
  -- "After every call the first 4,096 work numbers are zero and the rest as before; with refusal 1 none changes."
  pub table_kept : length w < work_size → w' ≡ w
  pub table_zeroed : work_size ≤ length w → w' ≡ replicate work_size 0 ++ drop work_size w

-- whatever the file, the buffer and the work table, there is an outcome, and every outcome is definite
pub record EveryListingIsDefinite : Type 0 where
  pub answered : (s out : Text) (w : List ℕ) → (r : Handed) × (out' : Text) × (w' : List ℕ) × FromOutcome s out w r out' w'
  pub definite : (s out : Text) (w : List ℕ) (r : Handed) (out' : Text) (w' : List ℕ) → FromOutcome s out w r out' w' → DefiniteListing s out w r out' w'

-- where nothing is refused, what stands in the buffer is a listing that `budquarry_read` accepts
abbrev pub EveryListingIsAccepted : Type 0
EveryListingIsAccepted =
    (s out : Text) (w : List ℕ) (r : Handed) (out' : Text) (w' : List ℕ) → FromOutcome s out w r out' w' → r.number ≡ 0 → reading_of (take r.length out') ≡ accepted
