-- Reading over tables is reading: it answers the same, and where it accepts, the tables are those of the records, which are sound.
use mathlib.Core.Path.{◌≡◌, refl, sym, ap, ◌∙◌}
use mathlib.Core.Bool.{Bool, true, false}
use mathlib.Core.List.{List, [], ◌∷◌, ◌++◌, append_assoc}
use mathlib.Core.Option.{Option, none, some}
use Prim.Native.Nat.{ℕ, suc}
use native.Mathlib.Omega.{arith}
use Rattle.text.specs.Texts.{run}
use Rattle.text.specs.Lines.{Line}
use Rattle.listings.specs.Records.{Record, formed, is_kind}
use Rattle.listings.specs.Refusals.{refusal, first_broken, after_end, read_from}
use Rattle.listings.specs.Listings.{records_in}
use Rattle.entries.specs.Tables.{Tables, start_tables, tables_with, tables_of, check_record, step_from}
use Rattle.reading.specs.Fillings.{Filling, filled, unfilled, closing, fill_from, answer_of}
use Rattle.listings.specs.declared.records.Kind.TheVariants.{End}
use Rattle.listings.specs.declared.answers.Fault.{Fault}
use Rattle.listings.specs.declared.answers.Fault.TheVariants.{BadForm, NoEnd}
use Rattle.reading.proofs.Countings.{tables_snoc}
use Rattle.listings.proofs.Sound.{Sound, sound_none, sound_more, passes}
use Rattle.reading.proofs.Keeping.{check_first, kept}

-- ---- one line
-- filled: of no record, refused, `end`, or another record
module _ (T : Tables) (n : ℕ) (l : Line) (ls : List Line) where
  fill_bad : formed l ≡ none → fill_from T n (l ∷ ls) ≡ unfilled BadForm n
  unfolding fill_from
  fill_bad e = rw (e, fill_from)

  module _ (r : Record) (e : formed l ≡ some r) where
    fill_wrong : (f : Fault) → check_record T r ≡ some f → fill_from T n (l ∷ ls) ≡ unfilled f n
    unfolding fill_from step_from
    fill_wrong f c = rw (e, c, fill_from)

    fill_end : check_record T r ≡ none → is_kind End r ≡ true → fill_from T n (l ∷ ls) ≡ closing (tables_with T r) (suc n) ls
    unfolding fill_from step_from
    fill_end c b = rw (e, c, b, fill_from)

    fill_next : check_record T r ≡ none → is_kind End r ≡ false → fill_from T n (l ∷ ls) ≡ fill_from (tables_with T r) (suc n) ls
    unfolding fill_from step_from
    fill_next c b = rw (e, c, b, fill_from)

-- and the same line read
module _ (before : List Record) (n : ℕ) (l : Line) (ls : List Line) where
  pub read_bad : formed l ≡ none → read_from before n (l ∷ ls) ≡ refusal BadForm n
  unfolding read_from
  read_bad e = rw (e, read_from)

  module _ (r : Record) (e : formed l ≡ some r) where
    pub read_wrong : (f : Fault) → first_broken before r ≡ some f → read_from before n (l ∷ ls) ≡ refusal f n
    unfolding read_from
    read_wrong f c = rw (e, c, read_from)

    pub read_end : first_broken before r ≡ none → is_kind End r ≡ true → read_from before n (l ∷ ls) ≡ after_end (suc n) ls
    unfolding read_from
    read_end c b = rw (e, c, b, read_from)

    pub read_next : first_broken before r ≡ none → is_kind End r ≡ false → read_from before n (l ∷ ls) ≡ read_from (before ++ r ∷ []) (suc n) ls
    unfolding read_from
    read_next c b = rw (e, c, b, read_from)

-- a line with a record gives it to the records
pub records_more : (l : Line) (ls : List Line) (r : Record) → formed l ≡ some r → records_in (l ∷ ls) ≡ r ∷ records_in ls
unfolding records_in
records_more l ls r e = rw (e, records_in)

-- ---- all the lines
-- from some line on: filling answers as reading does; and where it fills, the tables are those of the records, which are sound
record Fills (before : List Record) (n : ℕ) (ls : List Line) (F : Filling) : Type 0 where
  reads : answer_of F ≡ read_from before n ls
  holds : (T : Tables) → F ≡ filled T → (T ≡ tables_of (before ++ records_in ls)) × Sound (before ++ records_in ls)

-- what is refused is not filled
unfilled_not : (f : Fault) (n : ℕ) (T : Tables) → unfilled f n ≡ filled T → ⊥
unfilled_not f n T e = let z : ◌≡◌ {A = ℕ} 0 1 = cc in omega arith

-- the lines behind `end` are answered the same
closing_answer : (T : Tables) (n : ℕ) (ls : List Line) → answer_of (closing T n ls) ≡ after_end n ls
closing_answer T n [] = refl
closing_answer T n (l ∷ ls) = refl

-- where they fill there are none
closing_filled : (T U : Tables) (n : ℕ) (ls : List Line) → closing T n ls ≡ filled U → (records_in ls ≡ []) × (U ≡ T)
unfolding records_in
closing_filled T U n [] e = (refl, cc)
closing_filled T U n (l ∷ ls) e = absurd (unfilled_not NoEnd n U e)

module _ (before : List Record) (n : ℕ) (l : Line) (ls : List Line) (s : Sound before)
    (again : (r : Record) → Sound (before ++ r ∷ []) → Fills (before ++ r ∷ []) (suc n) ls (fill_from (tables_of (before ++ r ∷ [])) (suc n) ls)) where
  -- a line with a record, by the first rule that it breaks
  fills_record : (r : Record) → formed l ≡ some r → (o : Option Fault) → first_broken before r ≡ o →
      Fills before n (l ∷ ls) (fill_from (tables_of before) n (l ∷ ls))
  fills_record r e (some f) c =
      let q = fill_wrong (tables_of before) n l ls r e f (check_first before (tables_of before) (kept before s) r ∙ c) in
      record { reads = ap answer_of q ∙ sym (read_wrong before n l ls r e f c); holds = λ T h. absurd (unfilled_not f n T (sym q ∙ h)) }
  fills_record r e none c = go (is_kind End r) refl
    where
      t : Sound (before ++ r ∷ [])
      t = sound_more before r s (passes before r c)

      d : check_record (tables_of before) r ≡ none
      d = check_first before (tables_of before) (kept before s) r ∙ c

      go : (b : Bool) → is_kind End r ≡ b → Fills before n (l ∷ ls) (fill_from (tables_of before) n (l ∷ ls))
      go true b =
          let q = fill_end (tables_of before) n l ls r e d b in
          record {
            reads = ap answer_of q ∙ closing_answer (tables_with (tables_of before) r) (suc n) ls ∙ sym (read_end before n l ls r e c b);
            holds = λ T h.
                let w = closing_filled (tables_with (tables_of before) r) T (suc n) ls (sym q ∙ h) in
                rw (records_more l ls r e, w.0) (w.1 ∙ sym (tables_snoc before r), t);
          }
      go false b =
          let q = fill_next (tables_of before) n l ls r e d b ∙ ap (λ (T : Tables). fill_from T (suc n) ls) (sym (tables_snoc before r)) in
          record {
            reads = ap answer_of q ∙ (again r t).reads ∙ sym (read_next before n l ls r e c b);
            holds = λ T h. rw (records_more l ls r e, ← append_assoc before (r ∷ []) (records_in ls)) ((again r t).holds T (sym q ∙ h));
          }

  -- a line, by its record
  fills_line : (o : Option Record) → formed l ≡ o → Fills before n (l ∷ ls) (fill_from (tables_of before) n (l ∷ ls))
  fills_line none e =
      let q = fill_bad (tables_of before) n l ls e in
      record { reads = ap answer_of q ∙ sym (read_bad before n l ls e); holds = λ T h. absurd (unfilled_not BadForm n T (sym q ∙ h)) }
  fills_line (some r) e = fills_record r e (first_broken before r) refl

-- behind sound records, from any line on
fills : (before : List Record) (n : ℕ) (ls : List Line) → Sound before → Fills before n ls (fill_from (tables_of before) n ls)
unfolding fill_from read_from
fills before n [] s = record { reads = refl; holds = λ T e. absurd (unfilled_not NoEnd n T e) }
fills before n (l ∷ ls) s = fills_line before n l ls s (λ r t. fills (before ++ r ∷ []) (suc n) ls t) (formed l) refl

-- the first tables are those of no record
start : start_tables ≡ tables_of []
unfolding tables_of run
start = refl

-- filling answers what reading answers
pub fill_reads : (ls : List Line) → answer_of (fill_from start_tables 2 ls) ≡ read_from [] 2 ls
fill_reads ls = rw start (fills [] 2 ls sound_none).reads

module _ (ls : List Line) (T : Tables) (e : fill_from start_tables 2 ls ≡ filled T) where
  filled_holds : (T ≡ tables_of (records_in ls)) × Sound (records_in ls)
  filled_holds = (fills [] 2 ls sound_none).holds T (rw start at e)

  -- the tables that it fills are those of the records
  pub fill_tables : T ≡ tables_of (records_in ls)
  fill_tables = filled_holds.0

  -- and the records are sound
  pub fill_sound : Sound (records_in ls)
  fill_sound = filled_holds.1
