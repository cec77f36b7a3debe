-- What the grammar spells, the readers of Parts accept, with that very value.
use mathlib.Core.Path.{◌≡◌, refl, sym, ap, ap₂, ◌∙◌}
use mathlib.Core.Bool.{Bool, true, false, not, ◌&&◌, ◌||◌, false≢true}
use mathlib.Core.List.{[], ◌∷◌, ◌++◌, append_assoc}
use Prim.Native.Nat.{ℕ, zero, suc, ◌≤◌}
use lib.Dec.{eqb}
use lib.ListN.{length, length-append}
use borrow.Author.Tests.{eq-eqb, eqb-true}
use native.Mathlib.Omega.{arith}
use Rattle.text.specs.Texts.{Text, bytes, all, starts_with}
use Rattle.text.proofs.Truths.{and_left, and_right, and_both}
use Rattle.documents.specs.Chars.{is_white, is_char, is_plain, is_name_start, is_name_byte, is_quote, is_space, is_tag_name, next}
use Rattle.documents.specs.Grammar.{Node, is_element, Many, no_more, more, Letter, itself, less, greater, ampersand, quote, apostrophe, InQuotes, inside, Attribute, attributed, Tag, tagged, Remark, ended, other, hyphen, SpellsNode, text, remarked, full, empty, Mark, unmarked, marked, Prolog, undeclared, declared, Aside, space, note}
use Rattle.documents.specs.Parts.{got, Reader, ◌>>=◌, whether, turns, many, word, white, name, quote_mark, entity, quote_entity, letter_of, remark, comment, value, quoted, is_attribute, attribute, attributes, tag, tag_end, Opened, start_tag, end_tag, second_tag, ends, order_mark, prolog, is_aside, aside, asides, ending}
use Rattle.documents.proofs.Chars.{white_no_name, name_start_not, start_not_white, of_white, front_run, after_run, next_run, quote_not_white, plain_not, name_next, gap_next}
use Rattle.documents.proofs.Steps.{run_then, run_true, run_false, run_blamed}
use Rattle.documents.proofs.Sound.{end_of}

-- ---- words
pub word_run : (t r : Text) → word t (t ++ r) ≡ got tt r
unfolding word
word_run [] r = refl
word_run (b ∷ t) r = run_true _ _ _ _ (eq-eqb b b refl) (word_run t r)

pub white_run : (w r : Text) → is_space w ≡ true → next is_white r ≡ false → white (w ++ r) ≡ got tt r
unfolding white
white_run w r e h = ap (got tt) (after_run is_white w r e h)

pub name_run : (n r : Text) → is_tag_name n ≡ true → next is_name_byte r ≡ false → name (n ++ r) ≡ got n r
unfolding name
name_run n r e h =
    let f = and_right (next is_name_start n) (all is_name_byte n) e in
    run_true _ _ _ _ (name_next is_name_start true (λ b x. x) n r e) (rw (front_run is_name_byte n r f h, after_run is_name_byte n r f h))

pub quote_run : (q : ℕ) (r : Text) → is_quote q ≡ true → quote_mark (q ∷ r) ≡ got q r
unfolding quote_mark
quote_run q r e = run_true _ _ _ _ e refl

pub letter_run : {b : ℕ} {u : Text} (r : Text) → Letter b u → letter_of (u ++ r) ≡ got b r
unfolding letter_of entity quote_entity is_plain is_char is_white whether starts_with word ◌>>=◌
letter_run r (itself h) = rw h
letter_run r less = refl
letter_run r greater = refl
letter_run r ampersand = refl
letter_run r quote = refl
letter_run r apostrophe = refl

pub remark_run : {t : Text} (r : Text) → Remark t → remark false (t ++ (bytes "-->" ++ r)) ≡ got tt r
unfolding remark
remark_run r ended = run_true _ _ _ _ refl (run_false _ _ _ _ refl (run_true _ _ _ _ refl (run_true _ _ _ _ refl (word_run (bytes ">") r))))
remark_run r (other c e h) = run_false _ _ _ _ e (run_true _ _ _ _ c (remark_run r h))
remark_run r (hyphen c e h) = run_true _ _ _ _ refl (run_false _ _ _ _ refl (run_false _ _ _ _ e (run_true _ _ _ _ c (remark_run r h))))

pub comment_run : (t r : Text) → Remark t → comment ((bytes "<!--" ++ t ++ bytes "-->") ++ r) ≡ got tt r
unfolding comment
comment_run t r m = run_blamed _ _ _ (run_then _ _ _ (word_run (bytes "<!--") _) (ap (remark false) (append_assoc t (bytes "-->") r) ∙ remark_run r m))

-- ---- any number of pieces
module _ {A : Type 0} (going : Text → Bool) (read : Reader A) (P : Text → Type 0)
    (on : (s r : Text) → P s → going (s ++ r) ≡ true) (one : (s r : Text) → P s → (a : A) × (read (s ++ r) ≡ got a r)) (some : (s : Text) → P s → 1 ≤ length s) where
  turns_run : (f : ℕ) {t : Text} (r : Text) → Many P t → going r ≡ false → length t ≤ f → turns going read (tt {0}) (λ a b. tt {0}) f (t ++ r) ≡ got tt r
  unfolding turns
  turns_run zero r no_more stop h = refl
  turns_run zero r (more {s = s} {t = t} p q) stop h = absurd (omega (arith, length-append s t, some s p))
  turns_run (suc f) r no_more stop h = run_false _ _ _ r stop refl
  turns_run (suc f) r (more {s = s} {t = t} p q) stop h =
      rw append_assoc (run_true _ _ _ _ (on s (t ++ r) p)
      (run_then _ _ _ (one s (t ++ r) p).1 (run_then _ _ _ (turns_run f r q stop (omega (arith, length-append s t, some s p))) refl)))

  pub many_run : {t : Text} (r : Text) → Many P t → going r ≡ false → many going read (tt {0}) (λ a b. tt {0}) (t ++ r) ≡ got tt r
  unfolding many
  many_run {t} r p stop = turns_run _ r p stop (omega (arith, length-append t r))

-- ---- tags
pub letter_some : {b : ℕ} {u : Text} → Letter b u → 1 ≤ length u
letter_some (itself h) = omega arith
letter_some less = omega arith
letter_some greater = omega arith
letter_some ampersand = omega arith
letter_some quote = omega arith
letter_some apostrophe = omega arith

unquoted : (q : ℕ) {b : ℕ} {u : Text} (r : Text) → Letter b u → next (eqb q) u ≡ false → next (λ x. not (eqb q x)) (u ++ r) ≡ true
unquoted q r (itself h) e = ap not e
unquoted q r less e = ap not e
unquoted q r greater e = ap not e
unquoted q r ampersand e = ap not e
unquoted q r quote e = ap not e
unquoted q r apostrophe e = ap not e

pub value_run : (q : ℕ) {t : Text} (r : Text) → Many (InQuotes q) t → value q (t ++ (q ∷ r)) ≡ got tt (q ∷ r)
unfolding value
value_run q r h = many_run _ letter_of (InQuotes q) on one some (q ∷ r) h (ap not (eq-eqb q q refl))
  where
    on : (s r : Text) → InQuotes q s → next (λ x. not (eqb q x)) (s ++ r) ≡ true
    on s r (inside l e) = unquoted q r l e

    one : (s r : Text) → InQuotes q s → (a : ℕ) × (letter_of (s ++ r) ≡ got a r)
    one s r (inside l e) = (_, letter_run r l)

    some : (s : Text) → InQuotes q s → 1 ≤ length s
    some s (inside l e) = letter_some l

pub quoted_run : (q : ℕ) {t : Text} (r : Text) → is_quote q ≡ true → Many (InQuotes q) t → quoted ((q ∷ []) ++ (t ++ ((q ∷ []) ++ r))) ≡ got tt r
unfolding quoted
quoted_run q r hq ht = run_then _ _ _ (quote_run q _ hq) (run_then _ _ _ (value_run q r ht) (word_run (q ∷ []) r))

pub attribute_run : {t : Text} (r : Text) → Attribute t → attribute (t ++ r) ≡ got tt r
unfolding attribute is_name_byte is_name_start is_white
attribute_run r (attributed w n u v t q hw hn hu hv hq ht) =
    simp append_assoc
    (run_then _ _ _ (white_run w _ (and_right (next is_white w) (all is_white w) hw) (name_next is_white false start_not_white n _ hn))
    (run_then _ _ _ (name_run n _ hn (next_run is_white is_name_byte white_no_name u _ hu refl))
    (run_then _ _ _ (white_run u _ hu refl)
    (run_then _ _ _ (word_run (bytes "=") _)
    (run_then _ _ _ (white_run v _ hv (quote_not_white q hq)) (quoted_run q r hq ht))))))

-- white space with no name behind it: no more attributes
pub attributes_stop : (w x : Text) → is_space w ≡ true → next is_white x ≡ false → next is_name_start x ≡ false → is_attribute (w ++ x) ≡ false
attributes_stop w x e h i = rw (after_run is_white w x e h, i) (neither (next is_white (w ++ x)))
  where
    neither : (b : Bool) → b && false ≡ false
    neither true = refl
    neither false = refl

pub attribute_some : (s : Text) → Attribute s → 1 ≤ length s
attribute_some s (attributed w n u v t q hw hn hu hv hq ht) = simp length-append (omega arith)

pub attributes_run : {a : Text} (x : Text) → Many Attribute a → is_attribute x ≡ false → attributes (a ++ x) ≡ got tt x
unfolding attributes
attributes_run x h stop = many_run is_attribute attribute Attribute on (λ s r h. (tt, attribute_run r h)) attribute_some x h stop
  where
    on : (s r : Text) → Attribute s → is_attribute (s ++ r) ≡ true
    on s r (attributed w n u v t q hw hn hu hv hq ht) =
        simp append_assoc
        (rw (after_run is_white w _ (and_right (next is_white w) (all is_white w) hw) (name_next is_white false start_not_white n _ hn))
        (and_both _ _ (gap_next is_white true (λ b e. e) w _ hw) (name_next is_name_start true (λ b e. e) n _ hn)))

-- behind a name, attributes start with white space
attributes_next : {a : Text} (y : Text) → Many Attribute a → next is_name_byte y ≡ false → next is_name_byte (a ++ y) ≡ false
attributes_next y no_more e = e
attributes_next y (more {t = z} (attributed w n u v t q hw hn hu hv hq ht) h) e = simp append_assoc (gap_next is_name_byte false white_no_name w _ hw)

-- what ends a tag: no white space, no name
pub record Ending (x : Text) : Type 0 where
  pub no_white : next is_white x ≡ false
  pub no_start : next is_name_start x ≡ false
  pub no_byte : next is_name_byte x ≡ false

pub tag_run : {n t : Text} (x : Text) → Ending x → Tag n t → tag (t ++ x) ≡ got n x
unfolding tag
tag_run {n} x stop (tagged a w hn ha hw) =
    simp append_assoc
    (run_then _ _ _ (word_run (bytes "<") _)
    (run_then _ _ _ (name_run n _ hn (attributes_next _ ha (next_run is_white is_name_byte white_no_name w x hw stop.no_byte)))
    (run_then _ _ _ (attributes_run _ ha (attributes_stop w x hw stop.no_white stop.no_start))
    (run_then _ _ _ (white_run w x hw stop.no_white) refl))))

pub end_ending : (f : Bool) (r : Text) → Ending (end_of f ++ r)
unfolding is_white is_name_start is_name_byte
end_ending true r = record { no_white = refl; no_start = refl; no_byte = refl }
end_ending false r = record { no_white = refl; no_start = refl; no_byte = refl }

pub tag_end_run : (f : Bool) (r : Text) → tag_end (end_of f ++ r) ≡ got f r
unfolding tag_end starts_with whether ◌>>=◌ word
tag_end_run true r = refl
tag_end_run false r = refl

-- a first tag, with its end
pub start_tag_run : (o : Opened) (t r : Text) → Tag o.name t → start_tag (t ++ (end_of o.full ++ r)) ≡ got o r
unfolding start_tag
start_tag_run o t r m =
    run_blamed _ _ _ (run_then _ _ _ (tag_run _ (end_ending o.full r) m) (run_then _ _ _ (tag_end_run o.full r) refl))

pub end_tag_run : (n w r : Text) → is_space w ≡ true → end_tag n (bytes "</" ++ (n ++ (w ++ (bytes ">" ++ r)))) ≡ got tt r
unfolding end_tag is_white
end_tag_run n w r e =
    run_then _ _ _ (word_run (bytes "</") _) (run_then _ _ _ (word_run n _) (run_then _ _ _ (white_run w _ e refl) (word_run (bytes ">") r)))

pub second_tag_run : (n w r : Text) → is_space w ≡ true → second_tag n (bytes "</" ++ (n ++ (w ++ (bytes ">" ++ r)))) ≡ got tt r
unfolding second_tag
second_tag_run n w r e = run_blamed _ _ _ (end_tag_run n w r e)

-- ---- how nodes begin
-- a tag starts with `<` and a name, and with nothing else that starts with `<`
pub tag_starts : {n t : Text} (r : Text) → Tag n t → (x : ℕ) (q : Text) → is_name_start x ≡ false → starts_with (60 ∷ x ∷ q) (t ++ r) ≡ false
unfolding starts_with
tag_starts {n = []} r (tagged a w hn ha hw) x q h = absurd (false≢true hn)
tag_starts {n = b ∷ n} r (tagged a w hn ha hw) x q h = rw (name_start_not x h b (and_left (is_name_start b) (all is_name_byte (b ∷ n)) hn))

pub tag_next : {n t : Text} (r : Text) → Tag n t → next (eqb 60) (t ++ r) ≡ true
tag_next r (tagged a w hn ha hw) = refl

pub tag_some : {n t : Text} → Tag n t → 1 ≤ length t
tag_some (tagged a w hn ha hw) = omega arith

-- and so does an element
pub element_starts : {x : Node} {s : Text} (r : Text) → SpellsNode x s → is_element x ≡ true → (y : ℕ) (q : Text) → is_name_start y ≡ false → starts_with (60 ∷ y ∷ q) (s ++ r) ≡ false
element_starts r (text l) i y q h = absurd (false≢true i)
element_starts r (remarked t m) i y q h = absurd (false≢true i)
element_starts r (full t u w m p e) i y q h = simp append_assoc (tag_starts _ m y q h)
element_starts r (empty t m) i y q h = simp append_assoc (tag_starts _ m y q h)

pub element_next : {x : Node} {s : Text} (r : Text) → SpellsNode x s → is_element x ≡ true → next (eqb 60) (s ++ r) ≡ true
element_next r (text l) i = absurd (false≢true i)
element_next r (remarked t m) i = absurd (false≢true i)
element_next r (full t u w m p e) i = simp append_assoc (tag_next _ m)
element_next r (empty t m) i = simp append_assoc (tag_next _ m)

-- a letter is no start of a tag, and no end of a content
pub letter_next : {b : ℕ} {u : Text} (r : Text) → Letter b u → next (eqb 60) (u ++ r) ≡ false
unfolding is_plain is_char is_white
letter_next r (itself {b = b} h) = plain_not 60 refl b h
letter_next r less = refl
letter_next r greater = refl
letter_next r ampersand = refl
letter_next r quote = refl
letter_next r apostrophe = refl

pub letter_ends : {b : ℕ} {u : Text} (r : Text) → Letter b u → ends (u ++ r) ≡ false
unfolding starts_with ends is_plain is_char is_white
letter_ends r (itself {b = b} h) = rw (plain_not 60 refl b h)
letter_ends r less = refl
letter_ends r greater = refl
letter_ends r ampersand = refl
letter_ends r quote = refl
letter_ends r apostrophe = refl

ends_not : (s : Text) → next (eqb 60) s ≡ true → starts_with (bytes "</") s ≡ false → ends s ≡ false
unfolding ends
ends_not [] e h = absurd (false≢true e)
ends_not (b ∷ s) e h = h

pub tag_ends : {n t : Text} (r : Text) → Tag n t → ends (t ++ r) ≡ false
unfolding is_name_start
tag_ends {t = t} r m = ends_not (t ++ r) (tag_next r m) (tag_starts r m 47 [] refl)

pub element_ends : {x : Node} {s : Text} (r : Text) → SpellsNode x s → is_element x ≡ true → ends (s ++ r) ≡ false
unfolding is_name_start
element_ends {s = s} r m i = ends_not (s ++ r) (element_next r m i) (element_starts r m i 47 [] refl)

-- a node is no end of a content, and not empty
pub node_ends : {x : Node} {s : Text} (r : Text) → SpellsNode x s → ends (s ++ r) ≡ false
unfolding starts_with ends
node_ends r (text l) = letter_ends r l
node_ends r (remarked t h) = refl
node_ends r (full t s w h k e) = element_ends r (full t s w h k e) refl
node_ends r (empty t h) = element_ends r (empty t h) refl

pub node_some : {x : Node} {s : Text} → SpellsNode x s → 1 ≤ length s
node_some (text l) = letter_some l
node_some (remarked t h) = omega arith
node_some (full t s w h k e) = simp length-append (omega (arith, tag_some h))
node_some (empty t h) = simp length-append (omega (arith, tag_some h))

-- ---- round the element
pub order_mark_run : {m : Text} (r : Text) → Mark m → starts_with (239 ∷ 187 ∷ 191 ∷ []) r ≡ false → order_mark (m ++ r) ≡ got tt r
unfolding order_mark starts_with
order_mark_run r unmarked e = run_false _ _ _ _ e refl
order_mark_run r marked e = run_true _ _ _ _ refl (word_run (239 ∷ 187 ∷ 191 ∷ []) r)

pub prolog_run : {p : Text} (r : Text) → Prolog p → starts_with (bytes "<?xml") r ≡ false → prolog (p ++ r) ≡ got tt r
unfolding prolog is_white is_name_start starts_with
prolog_run r undeclared e = run_false _ _ _ _ e refl
prolog_run r (declared a w ha hw) e =
    simp append_assoc (run_true _ _ _ _ refl
    (run_blamed _ _ _ (run_then _ _ _ (word_run (bytes "<?xml") _)
    (run_then _ _ _ (attributes_run _ ha (attributes_stop w _ hw refl refl))
    (run_then _ _ _ (white_run w _ hw refl) (word_run (bytes "?>") r))))))

pub aside_run : {s : Text} (r : Text) → Aside s → aside (s ++ r) ≡ got tt r
unfolding aside is_white
aside_run r (space e) = run_true _ _ _ _ e refl
aside_run r (note t m) = run_false _ _ _ _ refl (comment_run t r m)

pub aside_some : (s : Text) → Aside s → 1 ≤ length s
aside_some s (space e) = omega arith
aside_some s (note t m) = omega arith

pub asides_run : {a : Text} (r : Text) → Many Aside a → is_aside r ≡ false → asides (a ++ r) ≡ got tt r
unfolding asides is_white starts_with
asides_run r h stop = many_run is_aside aside Aside on (λ s r h. (tt, aside_run r h)) aside_some r h stop
  where
    on : (s r : Text) → Aside s → is_aside (s ++ r) ≡ true
    on s r (space e) = rw e
    on s r (note t m) = refl

-- what stands round an element begins with no declaration, and nothing before it with a byte order mark
pub asides_undeclared : {a : Text} (r : Text) → Many Aside a → starts_with (bytes "<?xml") r ≡ false → starts_with (bytes "<?xml") (a ++ r) ≡ false
unfolding starts_with is_white
asides_undeclared r no_more e = e
asides_undeclared r (more (space {b = b} h) q) e = rw (of_white (eqb 60) false refl refl refl refl b h)
asides_undeclared r (more (note t m) q) e = refl

pub asides_unmarked : {a : Text} (r : Text) → Many Aside a → next (eqb 239) r ≡ false → next (eqb 239) (a ++ r) ≡ false
unfolding is_white
asides_unmarked r no_more e = e
asides_unmarked r (more (space {b = b} h) q) e = of_white (eqb 239) false refl refl refl refl b h
asides_unmarked r (more (note t m) q) e = refl

pub prolog_unmarked : {p : Text} (r : Text) → Prolog p → next (eqb 239) r ≡ false → starts_with (239 ∷ 187 ∷ 191 ∷ []) (p ++ r) ≡ false
unfolding starts_with
prolog_unmarked [] undeclared e = refl
prolog_unmarked (b ∷ r) undeclared e = rw e
prolog_unmarked r (declared a w ha hw) e = refl

-- an element stands there, and nothing beside it
pub not_aside : (s : Text) → next (eqb 60) s ≡ true → starts_with (bytes "<!--") s ≡ false → is_aside s ≡ false
unfolding is_white
not_aside [] e h = absurd (false≢true e)
not_aside (b ∷ s) e h = ap₂ ◌||◌ (ap is_white (sym (eqb-true 60 b e))) h

pub ending_run : ending [] ≡ got tt []
unfolding ending
ending_run = refl
