-- From a record's step to its line, and from the lines to the whole reading.
-- Assumes nothing.
use mathlib.Core.Path.{◌≡◌, refl, sym, ap, ◌∙◌, subst}
use mathlib.Core.Bool.{Bool, true, false, cond}
use mathlib.Core.List.{List, [], ◌∷◌}
use mathlib.Core.Option.{Option, none, some}
use Prim.Native.Nat.{ℕ, suc, ◌+◌, ◌-◌, ◌≤◌, ◌<◌}
use native.Mathlib.Omega.{arith}
use native.Mathlib.Decide.{dec_lt}
use lib.Dec.{eqb, ltb}
use borrow.Author.Tests.{lt-ltb, le-ltb}
use lib.Seq.{drop-cons}
use lib.ListN.{length, drop, get_or, drop_of_length-le}
use Rattle.text.specs.Texts.{Text, newline}
use Rattle.text.specs.Lines.{Line, before, lines_of}
use Rattle.listings.specs.Records.{Record, is_kind, formed}
use Rattle.entries.specs.Tables.{Tables, Fits, Stepping, next, wrong, start_tables, region, texts_at, spans_at, step_from, tables_at}
use Rattle.reading.specs.Fillings.{Lining, bad, moved, ended, Filling, unfilled, closing, fill_from, fill_shown, FillFits, FillOutcome, closed_at, line_shown, lined_by, line_with, line_from, Gone, LineFits, LineOutcome}
use Rattle.reading.specs.Readers.{Ready}
use Rattle.entries.specs.Tallies.{start_tally}
use Rattle.reading.specs.declared.reader.Refusal.{Refusal}
use Rattle.listings.specs.declared.records.Kind.TheVariants.{End}
use Rattle.listings.specs.declared.answers.Fault.{Fault}
use Rattle.listings.specs.declared.answers.Fault.TheVariants.{NoEnd}
use Rattle.entries.specs.declared.tables.Tally.{Tally}
use Rattle.std.specs.Prelude.{Result, Ok, Err}
use Rattle.reading.specs.declared.reader.Cursor.{Cursor}
use Rattle.reading.specs.declared.reader.Lined.{Lined}
use Rattle.reading.specs.declared.reader.Lined.TheVariants.{Moved, Ended}

-- ---- the line at the cursor
pub line_bad : (s : Text) (c : Cursor) (due : Lining) (f : Fault) (w : List ℕ) → due ≡ bad f → LineOutcome s c due (Err f) w
line_bad s c due f w e = record { answer = sym e; fits = tt }

pub line_by : (s : Text) (c : Cursor) (due got : Lining) (r : Result Lined Fault) (w : List ℕ) → due ≡ got → LineOutcome s c got r w → LineOutcome s c due r w
line_by s c due got r w e o = record { answer = o.answer ∙ sym e; fits = o.fits }

-- ---- all lines
-- what reading comes to, by what its first line comes to
fill_lining : ℕ → Lining → Filling
fill_lining n (bad f) = unfilled f n
fill_lining n (moved T ls) = fill_from T (suc n) ls
fill_lining n (ended T ls) = closing T (suc n) ls

by_line : (T : Tables) (n : ℕ) (ls : List Line) → fill_from T n ls ≡ fill_lining n (line_from T ls)
unfolding fill_from line_from fill_lining
by_line T n [] = refl
by_line T n (l ∷ ls) = go (formed l)
  where
    go : (o : Option Record) → elim (line_with T o ls) [ bad f ↦ unfilled f n | moved U ks ↦ fill_from U (suc n) ls | ended U ks ↦ closing U (suc n) ls ] ≡ fill_lining n (line_with T o ls)
    go none = refl
    go (some r) = at_end (is_kind End r) (step_from T r)
      where
        at_end : (b : Bool) (o : Stepping) → elim (lined_by b o ls) [ bad f ↦ unfilled f n | moved U ks ↦ fill_from U (suc n) ls | ended U ks ↦ closing U (suc n) ls ] ≡ fill_lining n (lined_by b o ls)
        at_end b (wrong f) = refl
        at_end true (next U) = refl
        at_end false (next U) = refl

lines_some : (x : ℕ) (t : Text) → (l : Line) × (ls : List Line) × (lines_of (x ∷ t) ≡ l ∷ ls)
unfolding lines_of before
lines_some x t = go (eqb x newline) (lines_of t)
  where
    go : (b : Bool) (ks : List Line) → (l : Line) × (ls : List Line) × (cond b (record { bytes = []; ended = true } ∷ ks) (before x ks) ≡ l ∷ ls)
    go true ks = (record { bytes = []; ended = true }, ks, refl)
    go false [] = (record { bytes = x ∷ []; ended = false }, [], refl)
    go false (k ∷ ks) = (record { bytes = x ∷ k.bytes; ended = k.ended }, ks, refl)

-- what stands behind the `end` line
closed_shown : (s : Text) (t : Tally) (d : Cursor) (w : List ℕ) → fill_shown s (closed_at s t d) w ≡ closing (tables_at s t w) d.line (lines_of (drop d.at s))
unfolding closed_at lines_of
closed_shown s t d w = go (dec_lt d.at (length s))
  where
    go : Dec (d.at < length s) → fill_shown s (closed_at s t d) w ≡ closing (tables_at s t w) d.line (lines_of (drop d.at s))
    go (yes h) =
        let k = lines_some (get_or s d.at 0) (drop (suc d.at) s) in
        rw (lt-ltb _ _ h, drop-cons s d.at 0 h, k.2)
    go (no h) =
        let k : length s ≤ d.at = omega arith in
        rw (le-ltb _ _ k, drop_of_length-le s k)

closed_fits : (s : Text) (t : Tally) (d : Cursor) (w : List ℕ) → Fits s t w → FillFits s (closed_at s t d) w
unfolding closed_at
closed_fits s t d w f = go (ltb d.at (length s))
  where
    go : (b : Bool) → FillFits s (cond b (Err (record { fault = NoEnd; line = d.line })) (Ok t)) w
    go true = tt
    go false = f

-- the loop: the reading from the offset where it began is that from the cursor on
pub record Walking (s : Text) (at : ℕ) (w₀ : List ℕ) (w : List ℕ) (t : Tally) (c : Cursor) : Type 0 where
  pub due : fill_from start_tables 2 (lines_of (drop at s)) ≡ fill_from (tables_at s t w) c.line (lines_of (drop c.at s))
  pub fits : Fits s t w
  pub within : c.at ≤ length s
  pub few : c.line ≤ c.at + 2
  pub same : length w ≡ length w₀

pub walk_starts : (s w : List ℕ) (at : ℕ) (t : Tally) → t ≡ start_tally → Ready s at w → Walking s at w w t (record { at = at; line = 2 })
unfolding tables_at region texts_at spans_at
walk_starts s w at t e r =
    rw e (record {
      due = refl;
      fits = record { short = r.short; room = r.room; declared = omega arith; roles = omega arith; methods = omega arith; patterns = omega arith; lines = omega arith; collections = omega arith; constraints = omega arith };
      within = r.within;
      few = omega arith;
      same = refl;
    })

module _ (s : List ℕ) (at : ℕ) (w₀ w : List ℕ) (t : Tally) (c : Cursor) (v : Walking s at w₀ w t c) (out : Result Lined Fault) (w' : List ℕ) (o : LineOutcome s c (line_from (tables_at s t w) (lines_of (drop c.at s))) out w') where
  line_comes : fill_from start_tables 2 (lines_of (drop at s)) ≡ fill_lining c.line (line_shown s out w')
  line_comes = v.due ∙ by_line (tables_at s t w) c.line (lines_of (drop c.at s)) ∙ sym (ap (fill_lining c.line) o.answer)

  pub walk_bad : (f : Fault) → out ≡ Err f → FillOutcome s (fill_from start_tables 2 (lines_of (drop at s))) (Err (record { fault = f; line = c.line })) w'
  unfolding fill_lining
  walk_bad f e = record { answer = sym (line_comes ∙ rw e); fits = tt }

  pub walk_closed : (l : Lined) (u : Tally) (d : Cursor) (r : Result Tally Refusal) → out ≡ Ok l → l ≡ Ended u d → r ≡ closed_at s u d → FillOutcome s (fill_from start_tables 2 (lines_of (drop at s))) r w'
  unfolding fill_lining
  walk_closed l u d r x y q =
      let e : out ≡ Ok (Ended u d) = x ∙ ap Ok y in
      let g : Gone s c u d w' = subst (λ (x : Result Lined Fault). LineFits s c x w') e o.fits in
      let n : c.line + 1 ≡ d.line = sym g.counted in
      let m : suc c.line ≡ d.line = omega arith in
      let k : fill_from start_tables 2 (lines_of (drop at s)) ≡ closing (tables_at s u w') d.line (lines_of (drop d.at s)) = line_comes ∙ rw (e, m) in
      rw q (record { answer = closed_shown s u d w' ∙ sym k; fits = closed_fits s u d w' g.fits })

  pub walk_on : (l : Lined) (u : Tally) (d : Cursor) → out ≡ Ok l → l ≡ Moved u d → length w' ≡ length w → Walking s at w₀ w' u d
  unfolding fill_lining
  walk_on i u d x y l =
      let e : out ≡ Ok (Moved u d) = x ∙ ap Ok y in
      let g : Gone s c u d w' = subst (λ (x : Result Lined Fault). LineFits s c x w') e o.fits in
      let n : c.line + 1 ≡ d.line = sym g.counted in
      let m : suc c.line ≡ d.line = omega arith in
      record {
        due = line_comes ∙ rw (e, m);
        fits = g.fits;
        within = g.within;
        few = omega (arith, v.few, g.on);
        same = l ∙ v.same;
      }

  pub walk_falls : (l : Lined) (u : Tally) (d : Cursor) → out ≡ Ok l → l ≡ Moved u d → length s - d.at < length s - c.at
  walk_falls l u d x y =
      let e : out ≡ Ok (Moved u d) = x ∙ ap Ok y in
      let g : Gone s c u d w' = subst (λ (x : Result Lined Fault). LineFits s c x w') e o.fits in
      omega (arith, g.on, g.within)

-- the text runs out
pub walk_ends : (s : List ℕ) (at : ℕ) (w₀ w : List ℕ) (t : Tally) (c : Cursor) → Walking s at w₀ w t c → length s ≤ c.at → FillOutcome s (fill_from start_tables 2 (lines_of (drop at s))) (Err (record { fault = NoEnd; line = c.line })) w
unfolding fill_from lines_of
walk_ends s at w₀ w t c v h = record { answer = sym (v.due ∙ rw (drop_of_length-le s h)); fits = tt }
