-- The reader, past the first line. `proofs/Loads.antt` shows that from the begin on this is the reading of Refusals.
use Rattle.std.specs.Prelude.{ℕ, ◌+◌, ◌≤◌, cond, not, List, length, drop, ltb, Result, Ok, Err}
use Rattle.text.specs.Texts.{Text, bytes, starts_with}
use Rattle.limits.specs.Limits.{most_bytes}
use Rattle.listings.specs.declared.answers.Fault.{Fault}
use Rattle.listings.specs.declared.answers.Fault.TheVariants.{LongListing, BadFirstLine}
use Rattle.entries.specs.Room.{listing_room}
use Rattle.reading.specs.declared.reader.Reader.{Reader}
use Rattle.reading.specs.declared.reader.Refusal.{Refusal}

-- where the lines begin: the offset stands in the text, which is short enough, and the table has room for a listing
pub record Ready (s : Text) (at : ℕ) (w : List ℕ) : Type 0 where
  pub within : at ≤ length s
  pub short : length s ≤ most_bytes
  pub room : listing_room ≤ length w

-- the same reader at another offset
abbrev pub standing_at : Reader → ℕ → Reader
standing_at d at = record { text = d.text; at = at }

-- a refusal before any record is read
abbrev pub stopped : Fault → ℕ → Result Reader Refusal
stopped f n = Err (record { fault = f; line = n })

-- the reader d, whose text is s and whose offset is at: behind the first line, its byte 10 too, if the text is not too long and that stands there
unfoldable pub gone_first : Reader → Text → ℕ → Result Reader Refusal
unfolding starts_with
gone_first d s at =
    cond (ltb most_bytes (length s)) (stopped LongListing 0)
    (cond (not (starts_with (bytes "constraints\t1\n") (drop at s))) (stopped BadFirstLine 1)
    (Ok (standing_at d (at + 14))))
