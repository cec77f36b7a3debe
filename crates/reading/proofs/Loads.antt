-- The whole of reading: from the lines behind the first to the answer for the text.
-- Assumes nothing.
use mathlib.Core.Path.{◌≡◌, refl, sym, ap, ◌∙◌}
use mathlib.Core.Bool.{Bool, true, false, not}
use mathlib.Core.List.{List, []}
use Prim.Native.Nat.{ℕ, ◌+◌, ◌≤◌, ◌<◌}
use native.Mathlib.Omega.{arith}
use native.Mathlib.Decide.{dec_le}
use lib.ListN.{length, drop}
use borrow.Author.Tests.{lt-ltb, le-ltb}
use Rattle.text.specs.Texts.{Text, same, part, starts_with}
use Rattle.text.specs.Lines.{Line, lines_of}
use Rattle.listings.specs.Refusals.{accepted, refusal, read_from, read_lines, reading_of, report}
use Rattle.listings.specs.Listings.{records_in, records_of}
use Rattle.entries.specs.Tables.{Tables, start_tables, tables_of}
use Rattle.reading.specs.Fillings.{Filling, filled, unfilled, fill_from, answer_of}
use Rattle.entries.specs.Room.{listing_room}
use Rattle.reading.specs.Readers.{Ready, standing_at, stopped, gone_first}
use Rattle.reading.specs.Holds.{reading_shown, LoadOutcome}
use Rattle.listings.specs.declared.answers.Fault.{Fault}
use Rattle.listings.specs.declared.answers.Fault.TheVariants.{LongListing, BadFirstLine}
use Rattle.entries.specs.declared.tables.Tally.{Tally}
use Rattle.reading.specs.declared.reader.Reader.{Reader}
use Rattle.reading.specs.declared.reader.Refusal.{Refusal}
use Rattle.std.specs.Prelude.{Result, Ok, Err}
use Rattle.worktable.specs.Work.{zeroed, work_after, is_short}
use Rattle.worktable.proofs.Lengths.{too_short, long_enough}
use Rattle.reading.specs.Outcomes.{report_of, read_report, ReadOutcome}
use Rattle.listings.specs.declared.answers.Report.{Report}
use Rattle.text.proofs.Spans.{from_on}
use Rattle.listings.proofs.Headers.{header, header_missing, header_there, header_length}
use Rattle.reading.proofs.Filling.{fill_reads, fill_tables, fill_sound}
use Rattle.listings.proofs.Sound.{Sound}

-- ---- a text that is short enough is read by its lines
short : (s : Text) → length s ≤ 24576 → reading_of s ≡ read_lines (lines_of s)
unfolding reading_of
short s h = rw (le-ltb _ _ h)

long : (s : Text) → 24576 < length s → reading_of s ≡ refusal LongListing 0
unfolding reading_of
long s h = rw (lt-ltb _ _ h)

not_ok : {r : Reader} {f : Refusal} → Ok r ≡ Err f → ⊥
not_ok e = let z : ◌≡◌ {A = ℕ} 0 1 = ap number e in omega arith
  where
    number : Result Reader Refusal → ℕ
    number (Ok x) = 0
    number (Err g) = 1

-- and one with the first line by those behind it
behind : (s : Text) → length s ≤ 24576 → starts_with header s ≡ true → reading_of s ≡ read_from [] 2 (lines_of (drop 14 s))
unfolding read_lines same
behind s h e = short s h ∙ ap read_lines (header_there s e)

records_behind : (s : Text) → starts_with header s ≡ true → records_of s ≡ records_in (lines_of (drop 14 s))
unfolding records_of
records_behind s e = ap (λ (ls : List Line). records_in (drop 1 ls)) (header_there s e)

-- ---- past the first line
module _ (d : Reader) (s : Text) (at most : ℕ) (m : most ≡ 24576) where
  pub gone_long : most < length s → stopped LongListing 0 ≡ gone_first d s at
  unfolding gone_first
  gone_long g = let h : 24576 < length s = omega (arith, m) in rw (lt-ltb _ _ h)

  module _ (g : length s ≤ most) (r : Bool) (e : r ≡ starts_with header (part at (length s) s)) where
    short_text : length s ≤ 24576
    short_text = omega (arith, m)

    pub gone_headless : not r ≡ true → stopped BadFirstLine 1 ≡ gone_first d s at
    unfolding gone_first
    gone_headless n = rw (le-ltb _ _ short_text, ← from_on at s, ← e, n)

    pub gone_on : not r ≡ false → Ok (standing_at d (at + 14)) ≡ gone_first d s at
    unfolding gone_first
    gone_on n = rw (le-ltb _ _ short_text, ← from_on at s, ← e, n)

-- ---- `load`: a reader that has gone on stands behind the first line of a short text, and one that has not has the reading's refusal
pub record Begins (d : Reader) (s : Text) (r : Reader) : Type 0 where
  pub is : r ≡ standing_at d 14
  pub short : length s ≤ 24576
  pub starts : starts_with header s ≡ true

module _ (d : Reader) (s : Text) (o : Result Reader Refusal) (is : o ≡ gone_first d s 0) where
  pub begins : (r : Reader) → o ≡ Ok r → Begins d s r
  unfolding gone_first
  begins r e = go (dec_le (length s) 24576) (starts_with header s) refl (sym e ∙ is)
    where
      go : Dec (length s ≤ 24576) → (b : Bool) → starts_with header s ≡ b → Ok r ≡ gone_first d s 0 → Begins d s r
      go (no h) b z q = absurd (let y : Ok r ≡ stopped LongListing 0 = rw (lt-ltb 24576 (length s) (omega arith)) at q in not_ok y)
      go (yes h) false z q = absurd (let y : Ok r ≡ stopped BadFirstLine 1 = rw (le-ltb 24576 (length s) h, z) at q in not_ok y)
      go (yes h) true z q =
          let y : Ok r ≡ Ok (standing_at d 14) = rw (le-ltb 24576 (length s) h, z) at q in
          record { is = cc; short = h; starts = z }

  pub begins_text : (r : Reader) → d.text.now ≡ s → o ≡ Ok r → r.text.now ≡ s
  begins_text r t e = ap (λ (x : Reader). x.text.now) (begins r e).is ∙ t

  pub begins_ready : (r : Reader) (w : List ℕ) → listing_room ≤ length w → d.text.now ≡ s → o ≡ Ok r → Ready r.text.now r.at w
  begins_ready r w h t e =
      let b = begins r e in
      rw (begins_text r t e, b.is) (record { within = header_length s b.starts; short = b.short; room = h })

  pub refused_read : (f : Refusal) → o ≡ Err f → refusal f.fault f.line ≡ reading_of s
  unfolding gone_first
  refused_read f e = go (dec_le (length s) 24576) (starts_with header s) refl (sym e ∙ is)
    where
      go : Dec (length s ≤ 24576) → (b : Bool) → starts_with header s ≡ b → Err f ≡ gone_first d s 0 → refusal f.fault f.line ≡ reading_of s
      go (no h) b z q =
          let y : Err f ≡ stopped LongListing 0 = rw (lt-ltb 24576 (length s) (omega arith)) at q in
          let k : f ≡ record { fault = LongListing; line = 0 } = cc in
          rw k (sym (long s (omega arith)))
      go (yes h) false z q =
          let y : Err f ≡ stopped BadFirstLine 1 = rw (le-ltb 24576 (length s) h, z) at q in
          let k : f ≡ record { fault = BadFirstLine; line = 1 } = cc in
          rw k (sym (short s h ∙ header_missing s z))
      go (yes h) true z q = absurd (let y : Err f ≡ Ok (standing_at d 14) = rw (le-ltb 24576 (length s) h, z) at q in not_ok (sym y))

-- the filling from there on is the reading
module _ (s : Text) (h : length s ≤ 24576) (e : starts_with header s ≡ true) where
  pub filling_read : answer_of (fill_from start_tables 2 (lines_of (drop 14 s))) ≡ reading_of s
  filling_read = fill_reads (lines_of (drop 14 s)) ∙ sym (behind s h e)

  -- and where it is filled, with the tables of the text's records
  pub filling_tables : (T : Tables) → fill_from start_tables 2 (lines_of (drop 14 s)) ≡ filled T → T ≡ tables_of (records_of s)
  filling_tables T q = fill_tables (lines_of (drop 14 s)) T q ∙ ap tables_of (sym (records_behind s e))

-- ---- the records of an accepted text are sound
pub accepted_sound : (s : Text) → reading_of s ≡ accepted → Sound (records_of s)
accepted_sound s a = by_size (dec_le (length s) 24576)
  where
    refused : (f : Fault) (n : ℕ) → refusal f n ≡ accepted → ⊥
    refused f n e = let z : ◌≡◌ {A = ℕ} 0 1 = cc in omega arith

    by_filling : (F : Filling) → fill_from start_tables 2 (lines_of (drop 14 s)) ≡ F → answer_of F ≡ accepted → Sound (records_in (lines_of (drop 14 s)))
    by_filling (filled T) e h = fill_sound (lines_of (drop 14 s)) T e
    by_filling (unfilled f n) e h = absurd (refused f n h)

    by_header : (b : Bool) → starts_with header s ≡ b → length s ≤ 24576 → Sound (records_of s)
    by_header true e h = rw (records_behind s e) (by_filling _ refl (fill_reads (lines_of (drop 14 s)) ∙ sym (behind s h e) ∙ a))
    by_header false e h = absurd (refused BadFirstLine 1 (sym (short s h ∙ header_missing s e) ∙ a))

    by_size : Dec (length s ≤ 24576) → Sound (records_of s)
    by_size (yes h) = by_header (starts_with header s) refl h
    by_size (no h) =
        let l : 24576 < length s = omega arith in
        absurd (refused LongListing 0 (sym (long s l) ∙ a))

-- ---- what is handed back of a listing that is loaded
pub loaded_reported : (side : ℕ) (s : Text) (l : Result Tally Refusal) (w : List ℕ) (r : Report) → LoadOutcome s l w → r ≡ report_of side (reading_shown l) → r ≡ report_of side (reading_of s)
loaded_reported side s l w r L e = e ∙ ap (report_of side) L.answer

-- ---- the whole call
pub read_short : (s w : List ℕ) (x : Report) (b : Bool) → b ≡ is_short w → b ≡ true → x ≡ report 1 0 0 → ReadOutcome s w x w
unfolding read_report work_after
read_short s w x b is y e =
    let h = too_short w b is y in
    record { handed = e ∙ rw (lt-ltb _ _ h); work = rw (lt-ltb _ _ h) }

pub read_long : (s w w' : List ℕ) (r : Report) (b : Bool) → b ≡ is_short w → b ≡ false → (r ≡ report_of 1 (reading_of s)) × (w' ≡ zeroed 4096 w) → ReadOutcome s w r w'
unfolding read_report work_after
read_long s w w' r b is n e =
    let h = long_enough w b is n in
    record { handed = rw (le-ltb _ _ h) e.0; work = rw (le-ltb _ _ h) e.1 }
