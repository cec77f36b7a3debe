-- The line at an offset of the text, cut as the reader does. `proofs/Linecuts.antt` shows that by it the line of Lines and its record are read.
use Rattle.std.specs.Prelude.{ℕ, ◌+◌, drop, get_or, eqb, Option, Some, None}
use Rattle.text.specs.Texts.{Text, newline, part, all}
use Rattle.text.specs.Bytes.{is_text}
use Rattle.text.specs.Lines.{to_field_end}
use Rattle.listings.specs.Heads.{head_of}
use Rattle.listings.specs.declared.records.Kind.{Kind}
use Rattle.listings.specs.declared.records.Headed.{Headed}
use Rattle.reading.specs.declared.lines.Cut.{Cut}

-- where the field ends that begins at a
abbrev pub end_of : Text → ℕ → ℕ
end_of s a = a + to_field_end (drop a s)

-- the record that a line names whose head is that
abbrev pub kind_in : Option Headed → Option Kind
kind_in None = None
kind_in (Some h) = Some h.kind

-- where its field begins, if it begins at `at`: a line without a head is all field
abbrev pub from_in : ℕ → Option Headed → ℕ
from_in at None = at
from_in at (Some h) = at + h.size

-- a line that names the record k and whose field begins at a: that record, where the field begins and ends, whether that is all text,
-- and whether a byte 10 stands behind it
abbrev pub cut_by : Text → Option Kind → ℕ → Cut
cut_by s k a = record {
  kind = k;
  field = record { from = a; end = end_of s a; clean = all is_text (part a (end_of s a) s) };
  whole = eqb (get_or s (end_of s a) 0) newline;
}

-- the line at an offset of s
unfoldable pub cut_of : Text → ℕ → Cut
unfolding head_of to_field_end all is_text
cut_of s at = cut_by s (kind_in (head_of (drop at s))) (from_in at (head_of (drop at s)))
