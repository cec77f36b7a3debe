-- The laws of what stands round the element.
use mathlib.Core.Path.{◌≡◌, refl, sym, ap, ◌∙◌}
use mathlib.Core.Bool.{Bool, true, false}
use mathlib.Core.List.{[], ◌∷◌}
use Prim.Native.Nat.{ℕ, ◌+◌, ◌-◌, ◌≤◌, ◌<◌}
use native.Mathlib.Omega.{arith}
use lib.Dec.{ltb}
use lib.ListN.{length, drop, get_or, length-drop}
use Rattle.std.proofs.lemmas.Bool.{le-ltb}
use Rattle.text.specs.Texts.{Text, bytes, starts_with}
use Rattle.documents.specs.Chars.{is_white}
use Rattle.documents.specs.Parts.{◌>>=◌, ◌>>◌, return, whether, blamed, word, comment, order_mark, prolog, is_aside, aside, asides}
use Rattle.documents.proofs.Leaves.{aside_leaves, aside_less}
use Rattle.std.specs.Prelude.{Result, Ok, Err}
use Rattle.std.specs.Result.{result_unwrap_or}
use Rattle.markup.specs.declared.answers.Fault.{Fault as Blame}
use Rattle.markup.specs.Places.{read_as, read_at, blame_at, declaration}
use Rattle.markup.proofs.Places.{here, nothing_left, good}
use Rattle.markup.proofs.Steps.{return_at, choose_hit, choose_miss, loop_over, loop_stops, loop_turns, read_less}
use Rattle.markup.proofs.Loops.{word_goes}
use Rattle.markup.proofs.Blames.{blamed_there}

-- ---- the byte order mark, which is no fault where it is missing
module _ (s : Text) (g : Result ℕ Blame) (e : g ≡ read_at (word (239 ∷ 187 ∷ 191 ∷ [])) s 0) where
  pub order_mark_at : Ok (result_unwrap_or g 0) ≡ read_at order_mark s 0
  unfolding order_mark
  order_mark_at = go g e
    where
      go : (r : Result ℕ Blame) → r ≡ read_at (word (239 ∷ 187 ∷ 191 ∷ [])) s 0 → Ok (result_unwrap_or r 0) ≡ read_at order_mark s 0
      go (Ok n) h = choose_hit (λ a k. k) _ (word (239 ∷ 187 ∷ 191 ∷ [])) (return tt) s 0 (Ok n) n h h
      go (Err d) h = choose_miss (λ a k. k) _ (word (239 ∷ 187 ∷ 191 ∷ [])) (return tt) s 0 (Ok 0) d h (return_at tt s 0 (omega arith))

-- ---- the declaration
module _ (s : Text) (i : ℕ) where
  pub prolog_none : (d : Blame) → Err d ≡ read_at (word (bytes "<?xml")) s i → i ≤ length s → Ok i ≡ read_at prolog s i
  unfolding prolog whether
  prolog_none d e h =
      choose_miss (λ a k. k) (bytes "<?xml") (λ x. blamed (length x) (word (bytes "<?xml") >> declaration) x) (return (tt {0})) s i (Ok i) d e (return_at (tt {0}) s i h)

  pub prolog_read : (n : ℕ) (g r : Result ℕ Blame) → Ok n ≡ read_at (word (bytes "<?xml")) s i → i ≤ length s → g ≡ read_at declaration s n → r ≡ blame_at i (length s) g → r ≡ read_at prolog s i
  unfolding prolog whether
  prolog_read n g r e h f z =
      choose_hit (λ a k. k) (bytes "<?xml") (λ x. blamed (length x) (word (bytes "<?xml") >> declaration) x) (return (tt {0})) s i r n e
      (z ∙ ap (blame_at i (length s)) (word_goes (λ a k. k) s i n g (bytes "<?xml") declaration e f) ∙ sym (blamed_there (λ a k. k) (word (bytes "<?xml") >> declaration) s i h))

-- ---- white space and comments
module _ (s : Text) (i : ℕ) where
  pub aside_none : (r : Result ℕ Blame) → length s ≤ i → r ≡ read_at comment s i → r ≡ read_at aside s i
  unfolding read_as aside comment blamed word ◌>>=◌
  aside_none r l f = f ∙ rw (nothing_left s i l)

  pub no_aside : length s ≤ i → ltb i (length s) ≡ is_aside (drop i s)
  unfolding starts_with
  no_aside l = le-ltb i (length s) l ∙ rw (nothing_left s i l)

  module _ (t : Bool) (l : i < length s) (e : t ≡ is_white (get_or s i 0)) where
    pub aside_white : t ≡ true → Ok (i + 1) ≡ read_at aside s i
    unfolding read_as aside whether
    aside_white h = rw (here s i l, sym e, h) (ap good (omega (arith, length-drop (i + 1) s)))

    pub aside_note : (r : Result ℕ Blame) → t ≡ false → r ≡ read_at comment s i → r ≡ read_at aside s i
    unfolding read_as aside whether
    aside_note r h f = f ∙ rw (here s i l, sym e, h)

pub asides_less : (s : Text) (n k : ℕ) → Ok k ≡ read_at aside s n → length s - k < length s - n
asides_less s n = read_less aside s n aside_leaves aside_less

module _ (s : Text) (n : ℕ) (t : Bool) (more : t ≡ is_aside (drop n s)) (i : ℕ) (inv : read_at asides s i ≡ read_at asides s n) where
  pub asides_over : n ≤ length s → t ≡ false → Ok n ≡ read_at asides s i
  unfolding asides starts_with
  asides_over h e = loop_over is_aside aside tt (λ a b. tt) refl (λ x y. aside_less x) s i n inv h (sym more ∙ e)

  pub asides_stops : (d : Blame) → t ≡ true → Err d ≡ read_at aside s n → Err d ≡ read_at asides s i
  unfolding asides starts_with
  asides_stops d e f = loop_stops is_aside aside tt (λ a b. tt) refl (λ x y. aside_less x) s i n inv (λ a k. k) d (sym more ∙ e) f

  pub asides_turns : (k : ℕ) → t ≡ true → Ok k ≡ read_at aside s n → read_at asides s i ≡ read_at asides s k
  unfolding asides starts_with
  asides_turns k e f = loop_turns is_aside aside tt (λ a b. tt) refl (λ x y. aside_less x) s i n inv aside_leaves k (sym more ∙ e) f
