-- The laws of gathering at places: one for each way out of a step and of the loop.
use mathlib.Core.Path.{◌≡◌, refl, sym, ap, subst, ◌∙◌}
use mathlib.Core.Bool.{Bool, true, false, cond, ◌&&◌, and-false, false≢true}
use mathlib.Core.List.{[], ◌∷◌}
use Prim.Native.Nat.{ℕ, suc, ◌+◌, ◌-◌, ◌≤◌, ◌<◌}
use native.Mathlib.Numerals.{add-one}
use native.Mathlib.Omega.{arith}
use lib.Dec.{eqb}
use borrow.Author.Tests.{eq-eqb, ne_eqb}
use lib.ListN.{length, take, drop, get_or, set, length-drop}
use Rattle.text.specs.Texts.{Text, run}
use Rattle.documents.specs.Chars.{is_white, is_char, is_plain, next}
use Rattle.documents.specs.Parts.{Got, got, Reader, ◌>>=◌, ◌>>◌, return, blamed, letter_of, comment, goes_on, letters, trimmed}
use Rattle.documents.proofs.Steps.{Ok as Accepts, accepted, ok_got, ok_then, ok_whether, ok_blamed, run_then, run_true, run_false, run_blamed}
use Rattle.documents.proofs.Loops.{Less}
use Rattle.documents.proofs.Chars.{plain_not}
use Rattle.documents.proofs.Leaves.{Leaves, comment_leaves, letter_leaves, comment_less, letter_less}
use Rattle.documents.proofs.Letters.{goes_none}
use Rattle.documents.proofs.Alike.{Alike, both, neither, alike_got}
use Rattle.std.specs.Prelude.{Ok, Err}
use Rattle.markup.specs.declared.answers.Fault.{Fault as Blame}
use Rattle.markup.specs.declared.answers.Letter.{Letter}
use Rattle.markup.specs.declared.gathering.Gathered.{Gathered}
use Rattle.markup.specs.declared.gathering.Kept.{Kept}
use Rattle.markup.specs.declared.gathering.Taken.{Taken}
use Rattle.markup.specs.Places.{placed_as, read_as, read_at, read_or, Within, letter}
use Rattle.markup.specs.Gatherings.{Tally, nothing_kept, keeps, keep_one, keep_all}
use Rattle.markup.specs.Tallies.{Tallied, tally, tallied, gathered}
use Rattle.markup.proofs.Places.{place, here}
use Rattle.markup.proofs.Steps.{fine, not_both, carried, went_as, stops, mapped, as_well, read_less, walk_over, walk_stops, walk_turns}
use Rattle.markup.proofs.Values.{plain_read, got_as, got_value, same_as}
use Rattle.markup.proofs.Tallied.{Tallies, tally_size, tally_text, gathers_alike}

-- ---- one letter more
module _ (k : Kept) (o : Text) (b : ℕ) (w : Bool) (e : w ≡ is_white b) where
  pub keep_none : k.kept ≡ 0 → w ≡ true → tally k o ≡ keeps (tally k o) b
  unfolding keeps
  keep_none h t = rw (eq-eqb k.kept 0 h, sym e, t)

  module _ (o' : Text) (p : o' ≡ set o k.kept b) where
    pub keep_white : (k.kept ≡ 0 → ⊥) → w ≡ true → record { kept = k.kept + 1; size = k.size; out = o' } ≡ keeps (tally k o) b
    unfolding keeps
    keep_white h t = rw (ne_eqb k.kept 0 h, sym e, t, p, add-one k.kept)

    pub keep_other : w ≡ false → record { kept = k.kept + 1; size = k.kept + 1; out = o' } ≡ keeps (tally k o) b
    unfolding keeps
    keep_other t = rw (sym e, t, and-false (eqb k.kept 0), p, add-one k.kept)

-- ---- a letter or a comment
module _ (n : ℕ) (z : Tally) where
  pub keep_one_leaves : Leaves (keep_one n z)
  unfolding keep_one
  keep_one_leaves x =
      ok_whether _ _ _ x (λ e. ok_then _ _ x (comment_leaves x) (λ u r h. accepted h))
      (λ e. ok_then _ _ x (ok_blamed n letter_of x (letter_leaves x)) (λ b r h. accepted h))

  pub keep_one_less : (x : Text) → Less x (keep_one n z x)
  unfolding keep_one
  keep_one_less x =
      ok_whether _ _ _ x (λ e. ok_then _ _ x (comment_less x) (λ u r h. accepted h))
      (λ e. ok_then _ _ x (ok_blamed n letter_of x (letter_less x)) (λ b r h. accepted h))

  module _ (s : Text) (i : ℕ) (t : Bool) (e : t ≡ next (eqb 60) (drop i s)) where
    module _ (h : t ≡ true) where
      noted : keep_one n z (drop i s) ≡ (comment >> return z) (drop i s)
      unfolding keep_one
      noted = run_true _ _ _ _ (sym e ∙ h) refl

      pub comment_stops : (d : Blame) → Err d ≡ read_at comment s i → Err d ≡ read_as tallied (keep_one n z) s i
      comment_stops d f = stops comment s i (λ u. return z) (λ a k. k) tallied d f ∙ sym (same_as (keep_one n z) s i (comment >> return z) noted tallied)

      pub comment_read : (k : ℕ) → Ok k ≡ read_at comment s i → Ok (tallied z k) ≡ read_as tallied (keep_one n z) s i
      comment_read k f =
          as_well comment s i (λ a j. j) (tallied z) k f ∙ sym (mapped comment s i (λ u. z) tallied) ∙ sym (same_as (keep_one n z) s i (comment >> return z) noted tallied)

    module _ (h : t ≡ false) where
      abbrev keep_letter : Reader Tally
      keep_letter = blamed n letter_of >>= λ b. return (keeps z b)

      lettered : keep_one n z (drop i s) ≡ keep_letter (drop i s)
      unfolding keep_one
      lettered = run_false _ _ _ _ (sym e ∙ h) refl

      pub letter_stops : (d : Blame) → Err d ≡ read_as letter (blamed n letter_of) s i → Err d ≡ read_as tallied (keep_one n z) s i
      letter_stops d f = stops (blamed n letter_of) s i (λ b. return (keeps z b)) letter tallied d f ∙ sym (same_as (keep_one n z) s i keep_letter lettered tallied)

      pub letter_kept : (l : Letter) (z' : Tally) → Ok l ≡ read_as letter (blamed n letter_of) s i → z' ≡ keeps z l.byte → Ok (tallied z' l.next) ≡ read_as tallied (keep_one n z) s i
      letter_kept l z' f q =
          ap (λ (y : Tally). fine (tallied y l.next)) q
          ∙ as_well (blamed n letter_of) s i letter (λ (x : Letter). tallied (keeps z x.byte) x.next) l f
          ∙ sym (mapped (blamed n letter_of) s i (keeps z) tallied)
          ∙ sym (same_as (keep_one n z) s i keep_letter lettered tallied)

-- ---- the loop
-- where one is at fault the other is
alike_fault : {A B C D : Type 0} {R : A → B → Type 0} (f : A → ℕ → C) (h : B → ℕ → D) (l : ℕ) (d : Blame) (g : Got A) (g' : Got B) → Alike R g g' → Err d ≡ placed_as h l g' → Err d ≡ placed_as f l g
alike_fault f h l d g g' (both i) e = absurd (not_both (sym e))
alike_fault f h l d g g' neither e = carried e

-- n bytes are read, and k is kept of them
pub record Gathers (s : Text) (i here : ℕ) (o₀ o : Text) (n : ℕ) (k : Kept) : Type 0 where
  pub low : i ≤ n
  pub high : n ≤ length s
  pub few : k.kept ≤ n
  pub room : length o ≡ length o₀
  pub goes : keep_all (length s - here) (nothing_kept o₀) (drop i s) ≡ keep_all (length s - here) (tally k o) (drop n s)

-- one letter more is kept at most
kept_one : (z : Tally) (b : ℕ) → (keeps z b).kept ≤ z.kept + 1
unfolding keeps
kept_one z b = go (eqb z.kept 0 && is_white b)
  where
    go : (t : Bool) → (cond t z (record { kept = suc z.kept; size = cond (is_white b) z.size (suc z.kept); out = set z.out z.kept b })).kept ≤ z.kept + 1
    go true = omega arith
    go false = omega arith

kept_most : (n : ℕ) (z : Tally) (x : Text) → Accepts (λ y r. y.kept ≤ z.kept + 1) (keep_one n z x)
unfolding keep_one
kept_most n z x =
    ok_whether _ _ _ x (λ e. ok_then _ _ x (comment_leaves x) (λ u r h. accepted (omega arith)))
    (λ e. ok_then _ _ x (ok_blamed n letter_of x (letter_leaves x)) (λ b r h. accepted (kept_one z b)))

module _ (s : Text) (i p : ℕ) (o₀ o : Text) (n : ℕ) (k : Kept) (v : Gathers s i p o₀ o n k) (t : Bool) (e : t ≡ goes_on (drop n s)) where
  abbrev step : Reader Tally
  step = keep_one (length s - p) (tally k o)

  less : (a : Tally) (x : Text) → goes_on x ≡ true → Less x (keep_one (length s - p) a x)
  less a x h = keep_one_less (length s - p) a x

  inside : t ≡ true → n < length s
  inside h = go (drop n s) refl
    where
      go : (x : Text) → drop n s ≡ x → n < length s
      go [] f = absurd (false≢true (sym goes_none ∙ sym (ap goes_on f) ∙ sym e ∙ h))
      go (b ∷ x) f = omega (arith, ap length f, length-drop n s)

  pub gather_inside : t ≡ true → n < length s
  gather_inside = inside

  pub gather_shorter : t ≡ true → length s - (n + 1) < length s - n
  gather_shorter h = omega (arith, inside h)

  -- a byte that stands for itself is kept
  module _ (h : t ≡ true) (u : Bool) (y : u ≡ is_plain (get_or s n 0)) (x : u ≡ true) where
    plain_step : step (drop n s) ≡ got (keeps (tally k o) (get_or s n 0)) (drop (n + 1) s)
    unfolding keep_one is_plain is_char is_white
    plain_step =
        let first : next (eqb 60) (drop n s) ≡ false = rw (here s n (inside h)) (plain_not 60 refl (get_or s n 0) (sym y ∙ x)) in
        run_false _ _ _ _ first (run_then (blamed (length s - p) letter_of) _ (drop n s) (run_blamed _ letter_of (drop n s) (plain_read s n u (inside h) y x)) refl)

    pub gather_plain : (z : Kept) (o' : Text) → tally z o' ≡ keeps (tally k o) (get_or s n 0) → length o' ≡ length o → Gathers s i p o₀ o' (n + 1) z
    unfolding keep_all
    gather_plain z o' q l =
        let one : z.kept ≤ k.kept + 1 = subst (λ (w : Tally). w.kept ≤ k.kept + 1) (sym q) (kept_one (tally k o) (get_or s n 0)) in
        record {
          low = omega (arith, v.low);
          high = omega (arith, inside h);
          few = omega (arith, v.few, one);
          room = l ∙ v.room;
          goes = walk_turns goes_on (keep_one (length s - p)) goes_none less s i n (nothing_kept o₀) (tally k o) v.goes (tally z o') (n + 1) (sym e ∙ h)
              (plain_step ∙ ap (λ (w : Tally). got w (drop (n + 1) s)) (sym q));
        }

  pub gather_few : t ≡ true → length s ≤ 65536 → k.kept < 65536
  gather_few h l = omega (arith, inside h, v.few)

  module _ (h : t ≡ true) where
    module _ (r : Taken) (o' : Text) (g : Ok (tallied (tally r.kept o') r.next) ≡ read_as tallied step s n) where
      pub gather_less : length s - r.next < length s - n
      gather_less =
          read_less step s n (keep_one_leaves (length s - p) (tally k o)) (keep_one_less (length s - p) (tally k o)) r.next
          (as_well step s n tallied (λ (x : Tallied). x.next) (tallied (tally r.kept o') r.next) g)

      stepped : step (drop n s) ≡ got (tally r.kept o') (drop r.next s)
      stepped =
          let w = went_as step s n (keep_one_leaves (length s - p) (tally k o)) tallied (tallied (tally r.kept o') r.next) g in
          w.1.1.1 ∙ ap (λ (x : Tallied). got x.tally (drop x.next s)) (sym w.1.1.0)

      one_more_lem : r.kept.kept ≤ k.kept + 1
      one_more_lem = ok_got (subst (Accepts (λ y q. y.kept ≤ k.kept + 1)) stepped (kept_most (length s - p) (tally k o) (drop n s)))

      pub gather_on : Within s p r.next → length o' ≡ length o → Gathers s i p o₀ o' r.next r.kept
      unfolding keep_all
      gather_on b l = record {
        low = omega (arith, v.low, gather_less);
        high = b.high;
        few = omega (arith, v.few, one_more_lem, gather_less, inside h);
        room = l ∙ v.room;
        goes = walk_turns goes_on (keep_one (length s - p)) goes_none less s i n (nothing_kept o₀) (tally k o) v.goes (tally r.kept o') r.next (sym e ∙ h) stepped;
      }

    pub gather_stops : (d : Blame) → Err d ≡ read_as tallied step s n → Err d ≡ read_as gathered (letters (length s - p)) s i
    unfolding keep_all read_as
    gather_stops d g =
        alike_fault gathered (λ y j. j) (length s) d (letters (length s - p) (drop i s)) _ (gathers_alike (length s - p) o₀ (drop i s))
        (walk_stops goes_on (keep_one (length s - p)) goes_none less s i n (nothing_kept o₀) (tally k o) v.goes tallied (λ y j. j) d (sym e ∙ h) g)

  -- the next tag, or the end
  module _ (h : t ≡ false) where
    ended : keep_all (length s - p) (nothing_kept o₀) (drop i s) ≡ got (tally k o) (drop n s)
    unfolding keep_all
    ended = walk_over goes_on (keep_one (length s - p)) goes_none less s i n (nothing_kept o₀) (tally k o) v.goes (sym e ∙ h)

    read : (a : Text) × (letters (length s - p) (drop i s) ≡ got a (drop n s)) × (tally k o ≡ run keeps (nothing_kept o₀) a)
    read = alike_got (letters (length s - p) (drop i s)) (tally k o) (drop n s) (subst (Alike (Tallies (length s - p) o₀) (letters (length s - p) (drop i s))) ended (gathers_alike (length s - p) o₀ (drop i s)))

    value : read.0 ≡ read_or [] (letters (length s - p)) s i
    value = got_value (letters (length s - p)) s i [] read.1

    pub gather_ends : Ok (record { len = k.size; next = n }) ≡ read_as gathered (letters (length s - p)) s i
    gather_ends =
        ap (λ (x : Gathered). fine x) (ends_at k.size (length (trimmed read.0)) n _ (tally_size o₀ read.0 (tally k o) read.2) (sym (place s n v.high)))
        ∙ got_as (letters (length s - p)) s i gathered read.1
      where
        ends_at : (a b c d : ℕ) → a ≡ b → c ≡ d → Path Gathered (record { len = a; next = c }) (record { len = b; next = d })
        ends_at a b c d x y = λ j. record { len = x j; next = y j }

    pub gather_text : k.size ≤ length o → take k.size o ≡ trimmed (read_or [] (letters (length s - p)) s i)
    gather_text l = tally_text o₀ read.0 (tally k o) read.2 (omega (arith, v.room)) ∙ ap trimmed value
