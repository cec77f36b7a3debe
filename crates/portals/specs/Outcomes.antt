-- What `budquarry_from_web_xml` hands back, and what it leaves in the listing's buffer and in the work table.
use Rattle.std.specs.Prelude.{ℕ, suc, ◌-◌, ◌≡◌, cond, List, [], ◌∷◌, ◌++◌, length, take, drop, eqb, ltb}
use Rattle.text.specs.Texts.{Text, newline}
use Rattle.limits.specs.Limits.{most_bytes}
use Rattle.worktable.specs.Work.{is_short, work_after}
use Rattle.documents.specs.Parts.{Fault, malformed, deep, unwanted, bad_name, bad_pattern, role_twice, past_most, Got, got, fault}
use Rattle.listings.specs.Records.{Record}
use Rattle.portals.specs.Listings.{written}
use Rattle.portals.specs.Readings.{file_of}

-- "16 over 65,536 bytes"
abbrev pub most_xml : ℕ
most_xml = 65536

-- 02's numbers
abbrev pub fault_number : Fault → ℕ
fault_number malformed = 17
fault_number deep = 18
fault_number unwanted = 19
fault_number bad_name = 6
fault_number bad_pattern = 7
fault_number role_twice = 9
fault_number past_most = 8

-- how many of the bytes end a line
unfoldable pub line_ends : Text → ℕ
line_ends [] = 0
line_ends (b ∷ s) = cond (eqb b newline) (suc (line_ends s)) (line_ends s)

-- the line of the byte at which so many are left, "or the last where the file runs out": that of the last byte
unfoldable pub line_at : Text → ℕ → ℕ
unfolding line_ends
line_at s n = suc (line_ends (take (length s - cond (eqb n 0) 1 n) s))

-- number, side, line and length
pub record Handed : Type 0 where
  pub number : ℕ
  pub side : ℕ
  pub line : ℕ
  pub length : ℕ

abbrev pub handed : ℕ → ℕ → ℕ → ℕ → Handed
handed number side line length = record { number = number; side = side; line = line; length = length }

-- a listing of text t is to be written into a buffer of so many bytes
unfoldable pub made_of : Text → ℕ → Handed
made_of t room = cond (ltb most_bytes (length t)) (handed 2 1 0 0) (cond (ltb room (length t)) (handed 15 0 0 (length t)) (handed 0 0 0 (length t)))

abbrev pub read_by : Text → Got (List Record) → ℕ → Handed
read_by s (got rs r) room = made_of (written rs) room
read_by s (fault e n) room = handed (fault_number e) 1 (line_at s n) 0

-- "16 comes right after 1, and 2 and then 15 after all, these with line 0"
unfoldable pub handed_of : Text → ℕ → List ℕ → Handed
unfolding made_of line_at file_of
handed_of s room w = cond (is_short w) (handed 1 0 0 0) (cond (ltb most_xml (length s)) (handed 16 1 0 0) (read_by s (file_of s) room))

-- the listing in the buffer, and its tail as it was; "the listing buffer is then unchanged"
abbrev pub left_by : Got (List Record) → Text → Text
left_by (got rs r) out = written rs ++ drop (length (written rs)) out
left_by (fault e n) out = out

unfoldable pub buffer_after : Text → Text → List ℕ → Text
unfolding handed_of file_of written
buffer_after s out w = cond (eqb (handed_of s (length out) w).number 0) (left_by (file_of s) out) out

-- the whole outcome of the call on file s, buffer out and work table w
pub record FromOutcome (s out : Text) (w : List ℕ) (r : Handed) (out' : Text) (w' : List ℕ) : Type 0 where
  pub answer : r ≡ handed_of s (length out) w
  pub buffer : out' ≡ buffer_after s out w
  pub work : w' ≡ work_after w
