-- What the readers of Parts accept, the grammar spells.
use mathlib.Core.Path.{◌≡◌, refl, sym, ◌∙◌}
use mathlib.Core.Bool.{Bool, true, false, not, false≢true}
use mathlib.Core.List.{[], ◌∷◌, ◌++◌, append_assoc, append-nil}
use Prim.Native.Nat.{ℕ}
use lib.Dec.{eqb}
use borrow.Author.Tests.{eqb-true, not-true}
use native.Mathlib.Omega.{arith}
use Rattle.text.specs.Texts.{Text, bytes, all}
use Rattle.text.proofs.Truths.{and_left, and_both}
use Rattle.documents.specs.Chars.{is_white, is_name_start, is_name_byte, is_quote, is_space, is_gap, is_tag_name, next, front, after}
use Rattle.documents.specs.Grammar.{Node, letter, Content, none, ◌then◌, depth_node, depth, letters_of, Many, more, no_more, Letter, itself, less, greater, ampersand, quote, apostrophe, InQuotes, inside, Attribute, attributed, Tag, tagged, Remark, ended, other, hyphen, SpellsNode, text, remarked, Spells, nothing, further, Mark, unmarked, marked, Prolog, undeclared, declared, Aside, space, note}
use Rattle.documents.specs.Parts.{◌>>◌, return, word, white, name, quote_mark, entity, quote_entity, letter_of, remark, comment, value, quoted, attribute, attributes, tag, tag_end, Opened, start_tag, end_tag, second_tag, goes_on, piece, letters, order_mark, prolog, is_aside, aside, asides, ending}
use Rattle.documents.proofs.Chars.{front_after, front_all, front_next, start_is_name}
use Rattle.documents.proofs.Steps.{Ok, accepted, refused, ok_map, ok_then, ok_whether, ok_blamed, Reads, Sound, sound_map, reads_none, many_sound, walk_sound}

-- ---- words
pub word_ok : (t s : Text) → Ok (λ u r. s ≡ t ++ r) (word t s)
unfolding word
word_ok [] s = accepted refl
word_ok (b ∷ t) [] = refused
word_ok (b ∷ t) (x ∷ s) = ok_whether _ _ _ _ (λ e. ok_map (word_ok t s) (λ u r h i. sym (eqb-true b x e) i ∷ h i)) (λ e. refused)

pub white_ok : Sound (λ u w. is_space w ≡ true) white
unfolding white
white_ok s = accepted (record { used = front is_white s; split = front_after is_white s; spelt = front_all is_white s })

pub gap_ok : (s : Text) → next is_white s ≡ true → Ok (Reads (λ u w. is_gap w ≡ true) s) (white s)
unfolding white
gap_ok s e =
    let w : Text = front is_white s in
    let starts = front_next is_white is_white (λ b h. h) s e in
    accepted (record { used = w; split = front_after is_white s; spelt = and_both (next is_white w) (all is_white w) starts (front_all is_white s) })

pub name_ok : (s : Text) → Ok (λ n r. (s ≡ n ++ r) × (is_tag_name n ≡ true)) (name s)
unfolding name
name_ok s =
    let n : Text = front is_name_byte s in
    ok_whether _ _ _ s
    (λ e. accepted (front_after is_name_byte s, and_both (next is_name_start n) (all is_name_byte n) (front_next is_name_byte is_name_start start_is_name s e) (front_all is_name_byte s)))
    (λ e. refused)

pub quote_ok : (s : Text) → Ok (λ q r. (s ≡ (q ∷ []) ++ r) × (is_quote q ≡ true)) (quote_mark s)
unfolding quote_mark
quote_ok [] = refused
quote_ok (b ∷ s) = ok_whether _ _ _ _ (λ e. accepted (refl, e)) (λ e. refused)

-- ---- letters
said : {b : ℕ} (t : Text) → Letter b t → Sound Letter (word t >> return b)
said t h s = ok_then _ _ s (word_ok t s) (λ u r e. accepted (record { used = t; split = e; spelt = h }))

pub entity_ok : Sound Letter entity
unfolding entity quote_entity
entity_ok s =
    ok_whether _ _ _ s (λ e. said _ less s)
    (λ e. ok_whether _ _ _ s (λ e. said _ greater s)
    (λ e. ok_whether _ _ _ s (λ e. said _ ampersand s)
    (λ e. ok_whether _ _ _ s (λ e. said _ quote s)
    (λ e. ok_whether _ _ _ s (λ e. said _ apostrophe s) (λ e. refused)))))

pub letter_ok : Sound Letter letter_of
unfolding letter_of
letter_ok [] = refused
letter_ok (b ∷ s) = ok_whether _ _ _ _ (λ e. accepted (record { used = b ∷ []; split = refl; spelt = itself e })) (λ e. entity_ok (b ∷ s))

-- ---- comments
-- with the hyphen that was read last
abbrev pub before : Bool → Text → Text
before true s = 45 ∷ s
before false s = s

pub record Remarked (s r : Text) : Type 0 where
  pub said : Text
  pub split : s ≡ said ++ (bytes "-->" ++ r)
  pub fine : Remark said

pub remark_ok : (dash : Bool) (s : Text) → Ok (λ u r. Remarked (before dash s) r) (remark dash s)
unfolding remark
remark_ok dash [] = refused
remark_ok true (b ∷ s) =
    ok_whether _ _ _ _
    (λ e. ok_whether _ _ _ _
    (λ d. ok_map (word_ok (bytes ">") s) (λ u r h. record { said = []; split = λ i. 45 ∷ eqb-true b 45 e i ∷ h i; fine = ended }))
    (λ d. absurd (false≢true (sym d))))
    (λ e. ok_whether _ _ _ _
    (λ c. ok_map (remark_ok false s) (λ u r h. record { said = 45 ∷ b ∷ h.said; split = λ i. 45 ∷ b ∷ h.split i; fine = hyphen c e h.fine }))
    (λ c. refused))
remark_ok false (b ∷ s) =
    ok_whether _ _ _ _
    (λ e. ok_whether _ _ _ _
    (λ d. absurd (false≢true d))
    (λ d. ok_map (remark_ok true s) (λ u r h. record { said = h.said; split = (λ i. eqb-true b 45 e i ∷ s) ∙ h.split; fine = h.fine })))
    (λ e. ok_whether _ _ _ _
    (λ c. ok_map (remark_ok false s) (λ u r h. record { said = b ∷ h.said; split = λ i. b ∷ h.split i; fine = other c e h.fine }))
    (λ c. refused))

pub comment_ok : Sound (λ u t. SpellsNode Node.comment t) comment
unfolding comment
comment_ok s =
    ok_blamed _ _ s (ok_then _ _ s (word_ok _ s) λ x₁ r₁ e₁. ok_map (remark_ok false r₁) λ x₂ r₂ h. record {
      used = bytes "<!--" ++ h.said ++ bytes "-->";
      split = e₁ ∙ rw h.split (simp append_assoc);
      spelt = remarked h.said h.fine;
    })

-- ---- tags
-- a letter that does not start with the quote
unquoted : (q : ℕ) {b : ℕ} {u : Text} (r : Text) → Letter b u → next (λ x. not (eqb q x)) (u ++ r) ≡ true → next (eqb q) u ≡ false
unquoted q r (itself h) e = not-true _ e
unquoted q r less e = not-true _ e
unquoted q r greater e = not-true _ e
unquoted q r ampersand e = not-true _ e
unquoted q r quote e = not-true _ e
unquoted q r apostrophe e = not-true _ e

pub value_ok : (q : ℕ) → Sound (λ u t. Many (InQuotes q) t) (value q)
unfolding value
value_ok q =
    many_sound (next (λ b. not (eqb q b))) letter_of tt (λ a b. tt) (λ b u. InQuotes q u) (λ u t. Many (InQuotes q) t)
    (λ s e. ok_map (letter_ok s) (λ b r h. record { used = h.used; split = h.split; spelt = inside h.spelt (unquoted q r h.spelt (rw h.split at e)) }))
    no_more (λ a b s t h i. more h i)

-- a value in its quotes, and what is left behind it
pub record Quoted (s r : Text) : Type 0 where
  pub mark : ℕ
  pub said : Text
  pub split : s ≡ (mark ∷ []) ++ (said ++ ((mark ∷ []) ++ r))
  pub marks : is_quote mark ≡ true
  pub fine : Many (InQuotes mark) said

pub quoted_ok : (s : Text) → Ok (λ u r. Quoted s r) (quoted s)
unfolding quoted
quoted_ok s =
    ok_then _ _ s (quote_ok s) λ q r₁ k. ok_then _ _ r₁ (value_ok q r₁) λ x₂ r₂ t. ok_map (word_ok _ r₂) λ x₃ r₃ e₃. record {
      mark = q;
      said = t.used;
      split = rw (k.0, t.split, e₃);
      marks = k.1;
      fine = t.spelt;
    }

pub attribute_ok : (s : Text) → next is_white s ≡ true → Ok (Reads (λ u t. Attribute t) s) (attribute s)
unfolding attribute
attribute_ok s e =
    ok_then _ _ s (gap_ok s e) λ x₁ r₁ w. ok_then _ _ r₁ (name_ok r₁) λ n r₂ h. ok_then _ _ r₂ (white_ok r₂) λ x₃ r₃ u.
    ok_then _ _ r₃ (word_ok _ r₃) λ x₄ r₄ e₄. ok_then _ _ r₄ (white_ok r₄) λ x₅ r₅ v. ok_map (quoted_ok r₅) (λ x₆ r₆ q. record {
      used = w.used ++ n ++ u.used ++ bytes "=" ++ v.used ++ (q.mark ∷ []) ++ q.said ++ (q.mark ∷ []);
      split = rw (w.split, h.0, u.split, e₄, v.split, q.split) (simp append_assoc);
      spelt = attributed w.used n u.used v.used q.said q.mark w.spelt h.1 u.spelt v.spelt q.marks q.fine;
    })

pub attributes_ok : Sound (λ u t. Many Attribute t) attributes
unfolding attributes
attributes_ok =
    many_sound _ attribute tt (λ a b. tt) (λ u t. Attribute t) (λ u t. Many Attribute t)
    (λ s e. attribute_ok s (and_left (next is_white s) (next is_name_start (after is_white s)) e)) no_more (λ a b s t h i. more h i)

pub tag_ok : Sound Tag tag
unfolding tag
tag_ok s =
    ok_then _ _ s (word_ok _ s) λ x₁ r₁ e₁. ok_then _ _ r₁ (name_ok r₁) λ n r₂ h. ok_then _ _ r₂ (attributes_ok r₂) λ x₃ r₃ a.
    ok_then _ _ r₃ (white_ok r₃) λ x₄ r₄ w. accepted (record {
      used = bytes "<" ++ n ++ a.used ++ w.used;
      split = rw (e₁, h.0, a.split, w.split) (simp append_assoc);
      spelt = tagged a.used w.used h.1 a.spelt w.spelt;
    })

-- the two ends of a tag
abbrev pub end_of : Bool → Text
end_of true = bytes ">"
end_of false = bytes "/>"

pub tag_end_ok : (s : Text) → Ok (λ e r. s ≡ end_of e ++ r) (tag_end s)
unfolding tag_end
tag_end_ok s =
    ok_whether _ _ _ s (λ e. ok_then _ _ s (word_ok _ s) (λ x r h. accepted h)) (λ e. ok_then _ _ s (word_ok _ s) (λ x r h. accepted h))

-- a first tag is spelt: all but its end, and its end
pub data Opens (o : Opened) : Text → Type 0 where
  opens : (t : Text) → Tag o.name t → Opens o (t ++ end_of o.full)

pub start_tag_ok : Sound Opens start_tag
unfolding start_tag
start_tag_ok s =
    ok_blamed _ _ s (ok_then _ _ s (tag_ok s) λ n r₁ t. ok_then _ _ r₁ (tag_end_ok r₁) λ f r₂ h. accepted (record {
      used = t.used ++ end_of f;
      split = rw (t.split, h) (simp append_assoc);
      spelt = opens t.used t.spelt;
    }))

-- a second tag of the name n is spelt
pub data Closes (n : Text) : Text → Type 0 where
  closes : (w : Text) → is_space w ≡ true → Closes n (bytes "</" ++ n ++ w ++ bytes ">")

pub end_tag_ok : (n : Text) → Sound (λ u t. Closes n t) (end_tag n)
unfolding end_tag
end_tag_ok n s =
    ok_then _ _ s (word_ok _ s) λ x₁ r₁ e₁. ok_then _ _ r₁ (word_ok n r₁) λ x₂ r₂ e₂. ok_then _ _ r₂ (white_ok r₂) λ x₃ r₃ w.
    ok_map (word_ok _ r₃) λ x₄ r₄ e₄. record {
      used = bytes "</" ++ n ++ w.used ++ bytes ">";
      split = rw (e₁, e₂, w.split, e₄) (simp append_assoc);
      spelt = closes w.used w.spelt;
    }

pub second_tag_ok : (n : Text) → Sound (λ u t. Closes n t) (second_tag n)
unfolding second_tag
second_tag_ok n s = ok_blamed _ _ s (end_tag_ok n s)

-- ---- texts
-- u spells a content of letters and comments alone, whose letters lead from t to t'
pub record Lettered (t t' u : Text) : Type 0 where
  pub content : Content
  pub spelt : Spells content u
  pub flat : depth content ≡ 0
  pub letters : t' ≡ t ++ letters_of content

-- one letter or comment: whatever content follows, its letters come behind
pub record Piece (t t' u : Text) : Type 0 where
  pub node : Node
  pub spelt : SpellsNode node u
  pub flat : depth_node node ≡ 0
  pub letters : (c : Content) → t' ++ letters_of c ≡ t ++ letters_of (node then c)

pub piece_ok : (n : ℕ) (t : Text) → Sound (Piece t) (piece n t)
unfolding piece letters_of depth_node
piece_ok n t s =
    ok_whether _ _ _ s
    (λ e. ok_then _ _ s (comment_ok s) λ x r h. accepted (record {
      used = h.used;
      split = h.split;
      spelt = record { node = Node.comment; spelt = h.spelt; flat = refl; letters = λ c. refl };
    }))
    (λ e. ok_then _ _ s (ok_blamed _ _ s (letter_ok s)) λ b r h. accepted (record {
      used = h.used;
      split = h.split;
      spelt = record { node = letter b; spelt = text h.spelt; flat = refl; letters = λ c. append_assoc t (b ∷ []) (letters_of c) };
    }))

-- what is accepted as the letters up to the next tag is a content of letters and comments alone, and these are its letters
pub letters_ok : (n : ℕ) → Sound (Lettered []) (letters n)
unfolding letters depth letters_of
letters_ok n =
    walk_sound goes_on (piece n) Piece Lettered (λ t s e. piece_ok n t s)
    (λ t. record { content = none; spelt = nothing; flat = refl; letters = sym (append-nil t) })
    (λ a b c s t h i. record {
      content = h.node then i.content;
      spelt = further h.spelt i.spelt;
      flat = omega (arith, h.flat, i.flat);
      letters = i.letters ∙ h.letters i.content;
    }) []

-- ---- round the element
pub order_mark_ok : Sound (λ u t. Mark t) order_mark
unfolding order_mark
order_mark_ok s =
    ok_whether _ _ _ s (λ e. ok_map (word_ok _ s) λ u r h. record { used = 239 ∷ 187 ∷ 191 ∷ []; split = h; spelt = marked })
    (λ e. accepted (reads_none unmarked))

pub prolog_ok : Sound (λ u t. Prolog t) prolog
unfolding prolog
prolog_ok s =
    ok_whether _ _ _ s
    (λ e. ok_blamed _ _ s (ok_then _ _ s (word_ok _ s) λ x₁ r₁ e₁. ok_then _ _ r₁ (attributes_ok r₁) λ x₂ r₂ a. ok_then _ _ r₂ (white_ok r₂) λ x₃ r₃ w.
    ok_map (word_ok _ r₃) λ x₄ r₄ e₄. record {
      used = bytes "<?xml" ++ a.used ++ w.used ++ bytes "?>";
      split = rw (e₁, a.split, w.split, e₄) (simp append_assoc);
      spelt = declared a.used w.used a.spelt w.spelt;
    }))
    (λ e. accepted (reads_none undeclared))

-- a comment may stand round the element
noted : (t : Text) → SpellsNode Node.comment t → Aside t
noted t (remarked u m) = note u m

pub aside_ok : Sound (λ u t. Aside t) aside
unfolding aside
aside_ok [] = refused
aside_ok (b ∷ s) =
    ok_whether _ _ _ _ (λ e. accepted (record { used = b ∷ []; split = refl; spelt = space e })) (λ e. sound_map comment_ok (λ u. noted) (b ∷ s))

pub asides_ok : Sound (λ u t. Many Aside t) asides
unfolding asides
asides_ok = many_sound is_aside aside tt (λ a b. tt) (λ u t. Aside t) (λ u t. Many Aside t) (λ s e. aside_ok s) no_more (λ a b s t h i. more h i)

pub ending_ok : (s : Text) → Ok (λ u r. (s ≡ []) × (r ≡ [])) (ending s)
unfolding ending
ending_ok [] = accepted (refl, refl)
ending_ok (b ∷ s) = refused
