-- The line that the reader cuts: that the pieces are the definition's, and what the line comes to by them.
use mathlib.Core.Path.{◌≡◌, refl, sym, ap, ◌∙◌}
use mathlib.Core.Bool.{Bool, true, false}
use mathlib.Core.List.{List}
use Prim.Native.Nat.{ℕ, ◌+◌, ◌≤◌, ◌<◌}
use native.Mathlib.Omega.{arith}
use native.Mathlib.Decide.{dec_lt}
use lib.ListN.{length, drop, get_or, get_or-eq_default}
use lib.Dec.{eqb}
use borrow.Author.Tests.{ne_eqb, eqb-true, eqb-false}
use Rattle.text.specs.Texts.{Text, newline, part, all}
use Rattle.text.specs.Bytes.{is_text}
use Rattle.text.specs.Lines.{lines_of, to_field_end}
use Rattle.listings.specs.Records.{record_named}
use Rattle.listings.specs.Heads.{head_of}
use Rattle.entries.specs.Tables.{Tables}
use Rattle.reading.specs.Fillings.{line_with, line_from, LineOutcome}
use Rattle.reading.specs.Cuts.{kind_in, from_in, cut_by, cut_of}
use Rattle.listings.specs.declared.records.Kind.{Kind}
use Rattle.listings.specs.declared.records.Headed.{Headed}
use Rattle.reading.specs.declared.lines.Cut.{Cut}
use Rattle.reading.specs.declared.reader.Cursor.{Cursor}
use Rattle.reading.specs.declared.reader.Lined.{Lined}
use Rattle.listings.specs.declared.answers.Fault.{Fault}
use Rattle.std.specs.Prelude.{Option, Some, None, is_some, Result, Err}
use Rattle.listings.specs.declared.answers.Fault.TheVariants.{BadForm}
use Rattle.text.proofs.Truths.{never}
use Rattle.text.proofs.Spans.{from_on}
use Rattle.reading.proofs.Lineheads.{head_none, head_unended, head_tabbed, head_whole}

-- ---- the pieces
-- no byte 10 stands behind the text
pub none_behind : (s : Text) (e : ℕ) → length s ≤ e → false ≡ eqb (get_or s e 0) newline
none_behind s e h = sym (rw (get_or-eq_default s 0 h) (ne_eqb 0 10 (λ q. omega arith)))

pub cut_is : (s : Text) (at : ℕ) (d x : Option Headed) (r : Cut) → d ≡ head_of (part at (length s) s) → d ≡ x → r ≡ cut_by s (kind_in x) (from_in at x) → r ≡ cut_of s at
unfolding cut_of
cut_is s at d x r h q e = e ∙ ap (λ (y : Option Headed). cut_by s (kind_in y) (from_in at y)) (sym q ∙ h ∙ ap head_of (from_on at s))

-- ---- what the line comes to
module _ (s : Text) (c : Cursor) (r : Cut) (is : r ≡ cut_of s c.at) where
  abbrev head : Option Headed
  head = head_of (drop c.at s)

  cut_end : r.field.end ≡ from_in c.at head + to_field_end (drop (from_in c.at head) s)
  unfolding cut_of
  cut_end = rw is

  cut_kind : r.kind ≡ kind_in head
  unfolding cut_of
  cut_kind = rw is

  cut_from : r.field.from ≡ from_in c.at head
  unfolding cut_of
  cut_from = rw is

  -- a line that names no record has no head
  headless : (d : Option Headed) → kind_in d ≡ None → d ≡ None
  headless None e = refl
  headless (Some d) e = absurd (never true refl (ap (λ (k : Option Kind). is_some k) e))

  from_behind : (d : Option Headed) → c.at ≤ from_in c.at d
  from_behind None = omega arith
  from_behind (Some d) = omega arith

  -- the field's end lies behind its begin, and behind the line's
  pub cut_field : r.field.from ≤ r.field.end
  cut_field = omega (arith, cut_end, cut_from)

  pub cut_behind : c.at ≤ r.field.end
  cut_behind = omega (arith, cut_end, from_behind head)

  pub cut_clean : r.field.clean ≡ all is_text (part r.field.from r.field.end s)
  unfolding cut_of
  cut_clean = rw is

  cut_stop : r.whole ≡ eqb (get_or s r.field.end 0) newline
  unfolding cut_of
  cut_stop = rw is

  cut_newline : r.whole ≡ true → get_or s r.field.end 0 ≡ 10
  cut_newline g = eqb-true (get_or s r.field.end 0) newline (sym cut_stop ∙ g)

  -- a whole line's end is a byte of the text
  pub cut_here : r.whole ≡ true → r.field.end < length s
  cut_here g = how (dec_lt r.field.end (length s))
    where
      how : Dec (r.field.end < length s) → r.field.end < length s
      how (yes i) = i
      how (no i) = absurd (never r.whole g (cut_stop ∙ sym (none_behind s r.field.end (omega arith))))

  pub cut_within : r.whole ≡ true → r.field.end ≤ length s
  cut_within g = omega (arith, cut_here g)

  module _ (T : Tables) (w : List ℕ) (h : c.at < length s) where
    -- no byte 10 ends it
    pub cut_unended : r.whole ≡ false → LineOutcome s c (line_from T (lines_of (drop c.at s))) (Err BadForm) w
    cut_unended g = how (dec_lt r.field.end (length s))
      where
        how : Dec (r.field.end < length s) → LineOutcome s c (line_from T (lines_of (drop c.at s))) (Err BadForm) w
        how (yes i) = head_tabbed s c T h w head r.field.end refl cut_end i (eqb-false (get_or s r.field.end 0) newline (sym cut_stop ∙ g))
        how (no i) = head_unended s c T h w head r.field.end refl cut_end (omega arith)

    -- it names no record
    pub cut_unnamed : r.kind ≡ None → LineOutcome s c (line_from T (lines_of (drop c.at s))) (Err BadForm) w
    cut_unnamed g = head_none s c T h w (headless head (sym cut_kind ∙ g))

    -- one or the other
    pub cut_bad : (r.whole ≡ true → r.kind ≡ None) → LineOutcome s c (line_from T (lines_of (drop c.at s))) (Err BadForm) w
    cut_bad g = how r.whole refl
      where
        how : (b : Bool) → r.whole ≡ b → LineOutcome s c (line_from T (lines_of (drop c.at s))) (Err BadForm) w
        how true e = cut_unnamed (g e)
        how false e = cut_unended e

    pub cut_whole : (l : Result Lined Fault) → r.whole ≡ true
        → LineOutcome s c (line_with T (record_named r.kind (part r.field.from r.field.end s)) (lines_of (drop (r.field.end + 1) s))) l w
        → LineOutcome s c (line_from T (lines_of (drop c.at s))) l w
    cut_whole l g o = head_whole s c T h w head r.field.end refl cut_end l (cut_here g) (cut_newline g) (as_head o)
      where
        as_head : LineOutcome s c (line_with T (record_named r.kind (part r.field.from r.field.end s)) (lines_of (drop (r.field.end + 1) s))) l w
            → LineOutcome s c (line_with T (record_named (kind_in head) (part (from_in c.at head) r.field.end s)) (lines_of (drop (r.field.end + 1) s))) l w
        as_head o = rw (cut_kind, cut_from) at o
