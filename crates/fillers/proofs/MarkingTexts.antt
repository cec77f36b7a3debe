-- Marking the numbers of a text, byte by byte: those that it starts with, and those behind a `q` inside it.
use mathlib.Core.Path.{◌≡◌, refl, sym, ap, ◌∙◌}
use mathlib.Core.Bool.{false}
use mathlib.Core.List.{List, [], ◌∷◌}
use Prim.Native.Nat.{ℕ, ◌+◌, ◌-◌, ◌*◌, ◌≤◌, ◌<◌}
use native.Mathlib.Numerals.{add-one}
use native.Mathlib.Omega.{arith}
use lib.ListN.{length, drop, get_or, length-drop, drop_of_length-le}
use lib.Seq.{drop-cons, drop-drop, take_all}
use lib.Dec.{eqb}
use borrow.Author.Tests.{lt-ltb, le-ltb, eq-eqb, ne_eqb}
use Rattle.text.specs.Texts.{Text, part, starts_with}
use Rattle.text.proofs.Spans.{from_on}
use Rattle.trials.specs.Fillers.{occurs}
use Rattle.fillers.specs.Marks.{MarkedToo, Passed, leads, within}
use Rattle.fillers.proofs.LeadingNumbers.{starts_from, leads_from}
use Rattle.fillers.proofs.Marking.{Remaining, marking_starts, marking_ends, marking_turns, marking_skips}

-- from an index on stand its element and the next ones
next_drop : {A : Type 0} (l : List A) (i : ℕ) (d : A) → i < length l → drop i l ≡ get_or l i d ∷ drop (i + 1) l
next_drop l i d h = rw add-one (drop-cons l i d h)

-- ---- the numbers that a text starts with
pub number_starts : (t : Text) (ws : List ℕ) → Remaining (leads t) (starts_from 0 (drop 0 t)) ws ws
number_starts t ws = marking_starts (leads t) (starts_from 0 t) ws (λ n h. leads_from n h t)

module _ (t : Text) (before now : List ℕ) (v i : ℕ) (M : Remaining (leads t) (starts_from v (drop i t)) before now) where
  -- the text is at its end
  pub number_ends : length t ≤ i → MarkedToo (leads t) before now
  unfolding starts_from
  number_ends h = marking_ends (leads t) _ before now M (λ n l. rw (drop_of_length-le t h))

  module _ (within : i < length t) where
    -- the next byte is no digit
    pub number_below : get_or t i 0 < 48 → MarkedToo (leads t) before now
    unfolding starts_from
    number_below h = marking_ends (leads t) _ before now M (λ n l. rw (next_drop t i 0 within, lt-ltb _ 48 h))

    module _ (low : 48 ≤ get_or t i 0) where
      pub number_above : 57 < get_or t i 0 → MarkedToo (leads t) before now
      unfolding starts_from
      number_above h = marking_ends (leads t) _ before now M (λ n l. rw (next_drop t i 0 within, le-ltb _ 48 low, lt-ltb 57 _ h))

      module _ (high : get_or t i 0 ≤ 57) where
        -- the number is too large
        pub number_large : 65535 < v * 10 + (get_or t i 0 - 48) → MarkedToo (leads t) before now
        unfolding starts_from
        number_large h = marking_ends (leads t) _ before now M (λ n l. rw (next_drop t i 0 within, le-ltb _ 48 low, le-ltb 57 _ high, lt-ltb 65535 _ h))

        -- it is marked
        module _ (small : v * 10 + (get_or t i 0 - 48) ≤ 65535) (now' : List ℕ) (T : MarkedToo (λ m. eqb m (v * 10 + (get_or t i 0 - 48))) now now') where
          -- and is the last where it is 0
          pub number_zero : v * 10 + (get_or t i 0 - 48) ≡ 0 → MarkedToo (leads t) before now'
          unfolding starts_from
          number_zero h =
              marking_ends (leads t) (λ m. false) before now'
              (marking_turns (leads t) _ before now M _ (λ m. false) now' T
              (λ n l. rw (next_drop t i 0 within, le-ltb _ 48 low, le-ltb 57 _ high, le-ltb 65535 _ small, eq-eqb _ 0 h)))
              (λ n l. refl)

          -- or else the text goes on
          pub number_turns : (v * 10 + (get_or t i 0 - 48) ≡ 0 → ⊥) → Remaining (leads t) (starts_from (v * 10 + (get_or t i 0 - 48)) (drop (i + 1) t)) before now'
          unfolding starts_from
          number_turns h =
              marking_turns (leads t) _ before now M _ _ now' T
              (λ n l. rw (next_drop t i 0 within, le-ltb _ 48 low, le-ltb 57 _ high, le-ltb 65535 _ small, ne_eqb _ 0 h))

-- ---- digits passed by
pub passed_none : (t : Text) → Passed t 0
passed_none t = record { fits = omega arith; rest = λ n. refl }

pub passed_digit : (t : Text) (i : ℕ) → Passed t i → i < length t → 48 ≤ get_or t i 0 → get_or t i 0 ≤ 57 → Passed t (i + 1)
unfolding within occurs starts_with
passed_digit t i P h low high = record { fits = omega arith; rest = λ n. P.rest n ∙ rw (next_drop t i 0 h, ne_eqb 113 (get_or t i 0) (λ e. omega arith)) }

-- ---- the numbers behind a `q` inside a text
pub text_starts : (t : Text) (ws : List ℕ) → Remaining (within t) (within t) ws ws
text_starts t ws = marking_starts (within t) (within t) ws (λ n h. refl)

-- nothing is left of it
pub text_ends : (t r : Text) (before now : List ℕ) → Remaining (within t) (within r) before now → length r ≡ 0 → MarkedToo (within t) before now
unfolding within occurs starts_with
text_ends t [] before now M e = marking_ends (within t) _ before now M (λ n l. refl)
text_ends t (x ∷ xs) before now M e = absurd (omega arith)

module _ (t r : Text) (before now : List ℕ) (M : Remaining (within t) (within r) before now) (b : ℕ) (rest : Text) (next : r ≡ b ∷ rest) where
  -- the next byte is `q`, and the numbers behind it are marked and passed by
  pub text_turns : b ≡ 113 → (now' : List ℕ) (k : ℕ) → MarkedToo (leads rest) now now' → Passed rest k → Remaining (within t) (within (part k (length rest) rest)) before now'
  unfolding within occurs starts_with leads
  text_turns h now' k T P =
      rw (from_on k rest) (marking_turns (within t) _ before now M (leads rest) _ now' T (λ n l. rw (next, h, P.rest n)))

  -- or it is not
  pub text_skips : (b ≡ 113 → ⊥) → Remaining (within t) (within rest) before now
  unfolding within occurs starts_with
  text_skips h = marking_skips (within t) _ before now M _ (λ n l. rw (next, ne_eqb 113 b (λ e. h (sym e))))
