-- What a reader leaves is an end of the text, and where something has to stand there, a shorter one.
use mathlib.Core.Path.{◌≡◌, ap, sym, ◌∙◌}
use mathlib.Core.Bool.{true}
use mathlib.Core.List.{[], ◌∷◌, ◌++◌, append_assoc}
use Prim.Native.Nat.{ℕ, ◌≤◌}
use native.Mathlib.Omega.{arith}
use lib.ListN.{length, length-append}
use Rattle.text.specs.Texts.{Text, bytes}
use Rattle.text.proofs.Truths.{and_left}
use Rattle.documents.specs.Chars.{is_white, is_name_start, next, after}
use Rattle.documents.specs.Parts.{Got, Reader, ◌>>=◌, word, white, name, quote_mark, letter_of, comment, value, quoted, is_attribute, attribute, attributes, tag, tag_end, start_tag, second_tag, piece, letters, order_mark, prolog, aside, asides}
use Rattle.documents.proofs.Steps.{Ok, ok_map, ok_then, Reads, Sound}
use Rattle.documents.proofs.Loops.{Less}
use Rattle.documents.proofs.Sound.{word_ok, white_ok, name_ok, quote_ok, letter_ok, comment_ok, value_ok, attribute_ok, attributes_ok, tag_ok, tag_end_ok, end_of, start_tag_ok, second_tag_ok, piece_ok, letters_ok, order_mark_ok, prolog_ok, aside_ok, asides_ok}
use Rattle.documents.proofs.Complete.{letter_some, node_some, attribute_some, aside_some}

-- what m accepts is a beginning of the text
abbrev pub Leaves : {A : Type 0} → Reader A → Type 0
Leaves m = (x : Text) → Ok (λ a r. (u : Text) × (x ≡ u ++ r)) (m x)

pub sound_leaves : {A : Type 0} {R : A → Text → Type 0} {m : Reader A} → Sound R m → Leaves m
sound_leaves h x = ok_map (h x) (λ a r i. (i.used, i.split))

pub leaves_then : {A B : Type 0} (m : Reader A) (k : A → Reader B) → Leaves m → ((a : A) → Leaves (k a)) → Leaves (m >>= k)
leaves_then m k h f x =
    ok_then m k x (h x) (λ a r i. ok_map (f a r) (λ b t j. (i.0 ++ j.0, i.1 ∙ ap (λ (z : Text). i.0 ++ z) j.1 ∙ sym (append_assoc i.0 j.0 t))))

-- what is spelt by at least one byte leaves less
pub shorter : {A : Type 0} {R : A → Text → Type 0} {g : Got A} → ((a : A) (u : Text) → R a u → 1 ≤ length u) → (x : Text) → Ok (Reads R x) g → Less x g
shorter some x h = ok_map h (λ a r i. omega (arith, ap length i.split, length-append i.used r, some a i.used i.spelt))

-- ---- the parts
pub word_leaves : (w : Text) → Leaves (word w)
word_leaves w x = ok_map (word_ok w x) (λ a r e. (w, e))

pub white_leaves : Leaves white
white_leaves = sound_leaves white_ok

pub name_leaves : Leaves name
name_leaves x = ok_map (name_ok x) (λ n r h. (n, h.0))

pub quote_leaves : Leaves quote_mark
quote_leaves x = ok_map (quote_ok x) (λ q r h. (q ∷ [], h.0))

pub letter_leaves : Leaves letter_of
letter_leaves = sound_leaves letter_ok

pub comment_leaves : Leaves comment
comment_leaves = sound_leaves comment_ok

pub value_leaves : (q : ℕ) → Leaves (value q)
value_leaves q = sound_leaves (value_ok q)

pub quoted_leaves : Leaves quoted
unfolding quoted
quoted_leaves = leaves_then quote_mark _ quote_leaves (λ q. leaves_then (value q) _ (value_leaves q) (λ u. word_leaves (q ∷ [])))

pub attribute_leaves : Leaves attribute
unfolding attribute
attribute_leaves =
    leaves_then white _ white_leaves λ u₁. leaves_then name _ name_leaves λ n. leaves_then white _ white_leaves λ u₂.
    leaves_then (word (bytes "=")) _ (word_leaves (bytes "=")) λ u₃. leaves_then white _ white_leaves λ u₄. quoted_leaves

pub attributes_leaves : Leaves attributes
attributes_leaves = sound_leaves attributes_ok

pub tag_leaves : Leaves tag
tag_leaves = sound_leaves tag_ok

pub tag_end_leaves : Leaves tag_end
tag_end_leaves x = ok_map (tag_end_ok x) (λ f r e. (end_of f, e))

pub start_tag_leaves : Leaves start_tag
start_tag_leaves = sound_leaves start_tag_ok

pub second_tag_leaves : (n : Text) → Leaves (second_tag n)
second_tag_leaves n = sound_leaves (second_tag_ok n)

pub piece_leaves : (n : ℕ) (t : Text) → Leaves (piece n t)
piece_leaves n t = sound_leaves (piece_ok n t)

pub letters_leaves : (n : ℕ) → Leaves (letters n)
letters_leaves n = sound_leaves (letters_ok n)

pub order_mark_leaves : Leaves order_mark
order_mark_leaves = sound_leaves order_mark_ok

pub prolog_leaves : Leaves prolog
prolog_leaves = sound_leaves prolog_ok

pub aside_leaves : Leaves aside
aside_leaves = sound_leaves aside_ok

pub asides_leaves : Leaves asides
asides_leaves = sound_leaves asides_ok

-- ---- what leaves less
pub letter_less : (x : Text) → Less x (letter_of x)
letter_less x = shorter (λ b u h. letter_some h) x (letter_ok x)

pub comment_less : (x : Text) → Less x (comment x)
comment_less x = shorter (λ a u h. node_some h) x (comment_ok x)

pub attribute_less : (x : Text) → is_attribute x ≡ true → Less x (attribute x)
attribute_less x e = shorter (λ a u h. attribute_some u h) x (attribute_ok x (and_left (next is_white x) (next is_name_start (after is_white x)) e))

pub piece_less : (n : ℕ) (t x : Text) → Less x (piece n t x)
piece_less n t x = shorter (λ a u h. node_some h.spelt) x (piece_ok n t x)

pub aside_less : (x : Text) → Less x (aside x)
aside_less x = shorter (λ a u h. aside_some u h) x (aside_ok x)
