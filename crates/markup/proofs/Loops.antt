-- The loops of the reader: words, values and attributes; and how reading goes on behind a part.
use mathlib.Core.Path.{◌≡◌, refl, sym, ap, subst, ◌∙◌}
use mathlib.Core.Bool.{Bool, true, false, not}
use mathlib.Core.List.{[], ◌∷◌, ◌++◌}
use Prim.Native.Nat.{ℕ, ◌+◌, ◌-◌, ◌≤◌, ◌<◌}
use native.Mathlib.Omega.{arith}
use lib.Dec.{eqb}
use lib.ListN.{length, drop, get_or, length-drop}
use lib.Seq.{get_or-drop}
use borrow.Author.Tests.{eq-eqb, ne_eqb}
use Rattle.std.specs.Prelude.{Result, Ok, Err}
use Rattle.text.specs.Texts.{Text}
use Rattle.documents.specs.Chars.{is_plain, is_quote, is_name_byte, next, front}
use Rattle.documents.specs.Parts.{Got, got, fault, Reader, ◌>>=◌, ◌>>◌, whether, wrong, word, name, quote_mark, letter_of, blamed, value, is_attribute, attribute, attributes}
use Rattle.documents.proofs.Steps.{Ok as Accepts, accepted, refused, ok_got, ok_whether}
use Rattle.documents.proofs.Loops.{Less}
use Rattle.documents.proofs.Sound.{quote_ok}
use Rattle.documents.proofs.Leaves.{word_leaves, name_leaves, quote_leaves, letter_leaves, value_leaves, attribute_leaves, attributes_leaves, letter_less, attribute_less}
use Rattle.markup.specs.declared.answers.Fault.{Fault as Blame}
use Rattle.markup.specs.declared.answers.Letter.{Letter}
use Rattle.markup.specs.Places.{read_as, read_at, letter}
use Rattle.markup.proofs.Places.{here, nothing_left, place, good}
use Rattle.markup.proofs.Steps.{went, loop_over, loop_stops, loop_turns, read_less, stops, goes, then_goes, as_well}
use Rattle.markup.proofs.Values.{same_as, letter_plain, letter_there}

-- ---- words, byte for byte
word_then : (b : ℕ) (w x : Text) → word (b ∷ w) x ≡ (word (b ∷ []) >> word w) x
unfolding word ◌>>=◌ whether
word_then b w [] = refl
word_then b w (y ∷ x) = go (eqb b y)
  where
    go : (t : Bool) → Path (Got (Unit {0})) (elim t as (λ z. Got (Unit {0})) [ true ↦ word w x | false ↦ wrong (y ∷ x) ])
        (elim (elim t as (λ z. Got (Unit {0})) [ true ↦ got tt x | false ↦ wrong (y ∷ x) ]) as (λ z. Got (Unit {0})) [ got a r ↦ word w r | fault d n ↦ fault d n ])
    go true = refl
    go false = refl

module _ (w s : Text) (i j n : ℕ) (inv : read_at (word w) s i ≡ read_at (word (drop j w)) s n) where
  split : j < length w → read_at (word w) s i ≡ read_at (word (get_or w j 0 ∷ []) >> word (drop (j + 1) w)) s n
  split h = inv ∙ ap (λ (x : Text). read_at (word x) s n) (here w j h) ∙ same_as _ s n _ (word_then (get_or w j 0) (drop (j + 1) w) (drop n s)) (λ a k. k)

  pub word_stops : (d : Blame) → j < length w → Err d ≡ read_at (word (get_or w j 0 ∷ [])) s n → Err d ≡ read_at (word w) s i
  word_stops d h e = stops (word (get_or w j 0 ∷ [])) s n (λ u. word (drop (j + 1) w)) (λ a k. k) (λ a k. k) d e ∙ sym (split h)

  pub word_turns : (k : ℕ) → j < length w → Ok k ≡ read_at (word (get_or w j 0 ∷ [])) s n → read_at (word w) s i ≡ read_at (word (drop (j + 1) w)) s k
  word_turns k h e = split h ∙ sym (then_goes (word (get_or w j 0 ∷ [])) s n (λ a q. q) (word_leaves (get_or w j 0 ∷ [])) (word (drop (j + 1) w)) k _ e refl)

  pub word_done : n ≤ length s → length w ≤ j → Ok n ≡ read_at (word w) s i
  unfolding read_as word
  word_done b h = sym (inv ∙ rw (nothing_left w j h) (ap good (place s n b)))

-- ---- values
module _ (q : ℕ) where
  abbrev inside : Text → Bool
  inside = next (λ b. not (eqb q b))

  less : (x : Text) → inside x ≡ true → Less x (letter_of x)
  less x e = letter_less x

  module _ (s : Text) (i n : ℕ) (inv : read_at (value q) s i ≡ read_at (value q) s n) where
    pub value_closes : n < length s → get_or s n 0 ≡ q → Ok n ≡ read_at (value q) s i
    unfolding value
    value_closes h e = loop_over inside letter_of tt (λ a b. tt) refl less s i n inv (omega arith) (rw (here s n h, eq-eqb q (get_or s n 0) (sym e)))

    pub value_ends : n ≤ length s → length s ≤ n → Ok n ≡ read_at (value q) s i
    unfolding value
    value_ends h l = loop_over inside letter_of tt (λ a b. tt) refl less s i n inv h (rw (nothing_left s n l))

    module _ (h : n < length s) (e : get_or s n 0 ≡ q → ⊥) where
      on : inside (drop n s) ≡ true
      on = rw (here s n h, ne_eqb q (get_or s n 0) (λ p. e (sym p)))

      pub value_stops : (d : Blame) → Err d ≡ read_as letter (blamed (length s - n) letter_of) s n → Err d ≡ read_at (value q) s i
      unfolding value
      value_stops d g = loop_stops inside letter_of tt (λ a b. tt) refl less s i n inv letter d on (letter_there letter s n (Err d) g)

      pub value_turns : (l : Letter) → Ok l ≡ read_as letter (blamed (length s - n) letter_of) s n → read_at (value q) s i ≡ read_at (value q) s l.next
      unfolding value
      value_turns l g = loop_turns inside letter_of tt (λ a b. tt) refl less s i n inv letter_leaves l.next on (letter_place l (letter_there letter s n (Ok l) g))
        where
          letter_place : (l : Letter) → Ok l ≡ read_as letter letter_of s n → Ok l.next ≡ read_at letter_of s n
          letter_place l k = as_well letter_of s n letter (λ z. z.next) l k

    -- a byte that stands for itself
    pub value_plain : (t : Bool) → n < length s → (get_or s n 0 ≡ q → ⊥) → t ≡ is_plain (get_or s n 0) → t ≡ true → read_at (value q) s i ≡ read_at (value q) s (n + 1)
    value_plain t h e f g = value_turns h e (letter (get_or s n 0) (n + 1)) (letter_plain s n t h f (length s - n) g)

pub value_less : (s : Text) (n : ℕ) (l : Letter) → Ok l ≡ read_as letter (blamed (length s - n) letter_of) s n → length s - l.next < length s - n
value_less s n l g = read_less letter_of s n letter_leaves letter_less l.next (as_well letter_of s n letter (λ z. z.next) l (letter_there letter s n (Ok l) g))

-- ---- steps
pub name_text : (x : Text) → Accepts (λ n r. n ≡ front is_name_byte x) (name x)
unfolding name
name_text x = ok_whether _ _ _ x (λ e. accepted refl) (λ e. refused)

quote_text : (x : Text) (q : ℕ) (r : Text) → quote_mark x ≡ got q r → Path Text x (q ∷ r)
quote_text x q r y = (ok_got (subst (Accepts (λ p t. (x ≡ (p ∷ []) ++ t) × (is_quote p ≡ true))) y (quote_ok x))).0

module _ {B D : Type 0} (h : B → ℕ → D) (s : Text) (i n : ℕ) (r : Result D Blame) where
  pub word_goes : (w : Text) (k : Reader B) → Ok n ≡ read_at (word w) s i → r ≡ read_as h k s n → r ≡ read_as h (word w >> k) s i
  word_goes w k = then_goes (word w) s i h (word_leaves w) k n r

  pub name_goes : (k : Text → Reader B) → Ok n ≡ read_at name s i → r ≡ read_as h (k (front is_name_byte (drop i s))) s n → r ≡ read_as h (name >>= k) s i
  name_goes k e f = goes name s i k h name_leaves n r e (λ m y. f ∙ ap (λ (z : Text). read_as h (k z) s n) (sym (read m _ y)))
    where
      read : (m t : Text) → name (drop i s) ≡ got m t → m ≡ front is_name_byte (drop i s)
      read m t y = ok_got (subst (Accepts (λ a r. a ≡ front is_name_byte (drop i s))) y (name_text (drop i s)))

  pub quote_goes : (k : ℕ → Reader B) → Ok n ≡ read_at quote_mark s i → r ≡ read_as h (k (get_or s i 0)) s n → r ≡ read_as h (quote_mark >>= k) s i
  quote_goes k e f = goes quote_mark s i k h quote_leaves n r e (λ q y. f ∙ ap (λ (z : ℕ). read_as h (k z) s n) (sym (read q _ y)))
    where
      read : (q : ℕ) (t : Text) → quote_mark (drop i s) ≡ got q t → q ≡ get_or s i 0
      read q t y = sym (ap (λ (z : Text). get_or z 0 0) (quote_text (drop i s) q t y)) ∙ get_or-drop i s 0 0 ∙ ap (λ (z : ℕ). get_or s z 0) (omega arith)

  pub value_goes : (q : ℕ) (k : Reader B) → Ok n ≡ read_at (value q) s i → r ≡ read_as h k s n → r ≡ read_as h (value q >> k) s i
  value_goes q k = then_goes (value q) s i h (value_leaves q) k n r

  pub attributes_goes : (k : Reader B) → Ok n ≡ read_at attributes s i → r ≡ read_as h k s n → r ≡ read_as h (attributes >> k) s i
  attributes_goes k = then_goes attributes s i h attributes_leaves k n r

pub quote_inside : (s : Text) (i n : ℕ) → Ok n ≡ read_at quote_mark s i → i < length s
quote_inside s i n e =
    let w = went quote_mark s i quote_leaves n e in
    let q = quote_text (drop i s) w.0 (drop n s) w.1 in
    omega (arith, ap length q, length-drop i s)

-- ---- attributes
module _ (s : Text) (n : ℕ) (t : Bool) (more : t ≡ is_attribute (drop n s)) where
  module _ (i : ℕ) (inv : read_at attributes s i ≡ read_at attributes s n) where
    pub attributes_over : n ≤ length s → t ≡ false → Ok n ≡ read_at attributes s i
    unfolding attributes
    attributes_over h e = loop_over is_attribute attribute tt (λ a b. tt) refl attribute_less s i n inv h (sym more ∙ e)

    pub attributes_stops : (d : Blame) → t ≡ true → Err d ≡ read_at attribute s n → Err d ≡ read_at attributes s i
    unfolding attributes
    attributes_stops d e f = loop_stops is_attribute attribute tt (λ a b. tt) refl attribute_less s i n inv (λ a k. k) d (sym more ∙ e) f

    pub attributes_turns : (k : ℕ) → t ≡ true → Ok k ≡ read_at attribute s n → read_at attributes s i ≡ read_at attributes s k
    unfolding attributes
    attributes_turns k e f = loop_turns is_attribute attribute tt (λ a b. tt) refl attribute_less s i n inv attribute_leaves k (sym more ∙ e) f

  pub attributes_less : (k : ℕ) → t ≡ true → Ok k ≡ read_at attribute s n → length s - k < length s - n
  attributes_less k e f =
      let w = went attribute s n attribute_leaves k f in
      let few : length (drop k s) < length (drop n s) = ok_got (subst (Accepts (λ a r. length r < length (drop n s))) w.1 (attribute_less (drop n s) (sym more ∙ e))) in
      omega (arith, length-drop n s, length-drop k s)
