-- What the reader accepts is meant: it is spelt, is no deeper than was allowed, and gives the records that were kept.
use mathlib.Core.Path.{◌≡◌, refl, sym, ap, subst, ◌∙◌}
use mathlib.Core.Bool.{Bool, true, false, false≢true}
use mathlib.Core.List.{List, [], ◌∷◌, ◌++◌, append_assoc, append-nil}
use mathlib.Core.Option.{Option, none, some}
use Prim.Native.Nat.{ℕ, zero, suc, ◌≤◌}
use native.Mathlib.Omega.{arith}
use lib.ListN.{length}
use Rattle.text.specs.Texts.{Text, bytes}
use Rattle.text.proofs.Spans.{same_equal}
use Rattle.documents.specs.Grammar as tree
use Rattle.documents.specs.Grammar.{Node, letter, element, Content, ◌then◌, depth_node, depth, letters_of, SpellsNode, text, full, empty, Spells, nothing, further, document}
use Rattle.documents.specs.Parts.{Fault, Got, got, fault, Reader, Opened, trimmed, trim_end}
use Rattle.documents.specs.Chars.{after}
use Rattle.documents.proofs.Steps.{Ok, accepted, refused, ok_map, ok_then, ok_whether, ok_blamed, Reads, Sound, reads_none, walk_sound}
use Rattle.documents.proofs.Sound.{letter_ok, comment_ok, end_of, Opens, opens, start_tag_ok, Closes, closes, second_tag_ok, letters_ok, order_mark_ok, prolog_ok, asides_ok, ending_ok}
use Rattle.listings.specs.Records.{Record}
use Rattle.portals.specs.Elements as Does
use Rattle.portals.specs.Elements.{in_app, Opening, misplaced, refused, holds, says, Effect, sort_of, opening, is_complete}
use Rattle.portals.specs.Records.{record_of, first_fault, added, effected}
use Rattle.portals.specs.Means.{is_text, text_of, Gives, over, passing, remarking, holding, saying, Means}
use Rattle.portals.specs.Readings.{listed, Reached, reached, adding, doing, complete, closing, filling, telling, entering, sinking, straying, node_in, content_in, element_in, root_of, kept_of, file_of}

-- how far a reading of the records themselves has come
abbrev pub At : Type 0
At = Reached (List Record)

-- the content c leads from x to z
abbrev pub GivesTo : At → Content → At → Type 0
GivesTo x c z = Gives x.phase x.kept c z.phase z.kept

-- the node leads from x to y: whatever content follows
abbrev pub Leads : At → Node → At → Type 0
Leads x m y = (c : Content) (z : At) → GivesTo y c z → GivesTo x (m then c) z

-- ---- texts
-- a content without elements is flat, and a flat content has none
pub flat_is_text : (k : Content) → depth k ≡ 0 → is_text k ≡ true
unfolding is_text depth depth_node
flat_is_text tree.none e = refl
flat_is_text (letter b then c) e = flat_is_text c (omega arith)
flat_is_text (Node.comment then c) e = flat_is_text c (omega arith)
flat_is_text (element n k then c) e = absurd (omega arith)

pub text_is_flat : (k : Content) → is_text k ≡ true → depth k ≡ 0
unfolding is_text depth depth_node
text_is_flat tree.none e = refl
text_is_flat (letter b then c) e = omega (arith, text_is_flat c e)
text_is_flat (Node.comment then c) e = omega (arith, text_is_flat c e)
text_is_flat (element n k then c) e = absurd (false≢true e)

-- ---- records
pub adding_ok : (n : ℕ) (r : Record) (x : List Record) (s : Text) → Ok (λ y t. (t ≡ s) × (added x r ≡ some y)) (adding listed n r x s)
unfolding adding added
adding_ok n r x s = go (first_fault x r)
  where
    go : (o : Option Fault) →
        Ok (λ y t. (t ≡ s) × (Path (Option (List Record)) (elim o [ none ↦ some (x ++ r ∷ []) | some f ↦ none ]) (some y)))
        (elim o as (λ z. Got (List Record)) [ none ↦ got (x ++ r ∷ []) s | some f ↦ fault f n ])
    go none = accepted (refl, refl)
    go (some f) = Ok.refused

pub doing_ok : (n : ℕ) (e : Effect) (x : List Record) (s : Text) → Ok (λ y t. (t ≡ s) × (effected e x ≡ some y)) (doing listed n e x s)
unfolding doing effected
doing_ok n Does.nothing x s = accepted (refl, refl)
doing_ok n Does.guards x s = accepted (refl, refl)
doing_ok n (Does.adds k t) x s = adding_ok n (record_of k t) x s

-- ---- an element, from behind its first tag
-- u stands behind the first tag t, and with that tag spells an element that holds k
abbrev pub SpeltBehind : Opened → Content → Text → Type 0
SpeltBehind t k u = (v : Text) → Opens t v → SpellsNode (element t.name k) (v ++ u)

pub spelt_full : (t : Opened) (k : Content) (s x : Text) → t.full ≡ true → Spells k s → Closes t.name x → SpeltBehind t k (s ++ x)
spelt_full t k s x e p (closes w h) v (opens u m) = subst (SpellsNode (element t.name k)) (joined t.full e) (full u s w m p h)
  where
    joined : (f : Bool) → f ≡ true → u ++ bytes ">" ++ s ++ bytes "</" ++ t.name ++ w ++ bytes ">" ≡ (u ++ end_of f) ++ (s ++ (bytes "</" ++ t.name ++ w ++ bytes ">"))
    joined true e = simp append_assoc
    joined false e = absurd (false≢true e)

pub spelt_empty : (t : Opened) → t.full ≡ false → SpeltBehind t tree.none []
spelt_empty t e v (opens u m) = subst (SpellsNode (element t.name tree.none)) (joined t.full e) (empty u m)
  where
    joined : (f : Bool) → f ≡ false → u ++ bytes "/>" ≡ (u ++ end_of f) ++ []
    joined false e = sym (append-nil (u ++ bytes "/>"))
    joined true e = absurd (false≢true (sym e))

-- what it holds has been read, from y on up to z
pub record Filled (d : ℕ) (t : Opened) (y z : At) (u : Text) : Type 0 where
  pub content : Content
  pub spelt : SpeltBehind t content u
  pub shallow : depth content ≤ d
  pub given : GivesTo y content z
  pub whole : is_complete z.phase ≡ true

-- the text that it is has been read
pub record Told (t : Opened) (v u : Text) : Type 0 where
  pub content : Content
  pub spelt : SpeltBehind t content u
  pub plain : is_text content ≡ true
  pub said : v ≡ text_of content

pub complete_ok : (n : ℕ) (y : At) (s : Text) → Ok (λ z t. (z ≡ y) × (t ≡ s) × (is_complete y.phase ≡ true)) (complete n y s)
unfolding complete
complete_ok n y s = ok_whether _ _ _ s (λ e. accepted (refl, refl, e)) (λ e. refused)

-- u spells a content to the depth d that leads from x to z
pub record ContentTo (d : ℕ) (x z : At) (u : Text) : Type 0 where
  pub content : Content
  pub spelt : Spells content u
  pub shallow : depth content ≤ d
  pub given : GivesTo x content z

pub closing_ok : (n : Text) (y : At) (s : Text) → Ok (λ z r. Reads (λ z u. Closes n u) s z r × (z ≡ y) × (is_complete y.phase ≡ true)) (closing n y s)
unfolding closing
closing_ok n y s =
    ok_then _ _ s (second_tag_ok n s) λ x r h. ok_map (complete_ok _ y r) λ z t i.
    (record { used = h.used; split = h.split ∙ ap (λ (q : Text). h.used ++ q) (sym i.1); spelt = h.spelt }, i.0, i.2)

pub filling_ok : (d : ℕ) (C : ℕ → At → Reader At) → ((n : ℕ) (x : At) → Sound (ContentTo d x) (C n x)) → (n : ℕ) (t : Opened) (y : At) → Sound (Filled d t y) (filling C n t y)
unfolding filling depth
filling_ok d C sound n t y s =
    ok_whether _ _ _ s
    (λ f. ok_then _ _ s (sound n y s) λ z r c. ok_map (closing_ok t.name z r) λ z' q h. record {
      used = c.used ++ h.0.used;
      split = c.split ∙ ap (λ (w : Text). c.used ++ w) h.0.split ∙ sym (append_assoc c.used h.0.used q);
      spelt = rw h.1 (record {
        content = c.spelt.content;
        spelt = spelt_full t _ c.used h.0.used f c.spelt.spelt h.0.spelt;
        shallow = c.spelt.shallow;
        given = c.spelt.given;
        whole = h.2;
      });
    })
    (λ f. ok_map (complete_ok n y s) λ z q h. record {
      used = [];
      split = sym h.1;
      spelt = rw h.0 (record { content = tree.none; spelt = spelt_empty t f; shallow = omega arith; given = over; whole = h.2 });
    })

pub telling_ok : (n : ℕ) (t : Opened) → Sound (Told t) (telling n t)
unfolding telling trimmed trim_end after letters_of is_text
telling_ok n t s =
    ok_whether _ _ _ s
    (λ f. ok_then _ _ s (letters_ok n s) λ v r l. ok_then _ _ r (second_tag_ok t.name r) λ x q c. accepted (record {
      used = l.used ++ c.used;
      split = l.split ∙ ap (λ (w : Text). l.used ++ w) c.split ∙ sym (append_assoc l.used c.used q);
      spelt = record {
        content = l.spelt.content;
        spelt = spelt_full t _ l.used c.used f l.spelt.spelt c.spelt;
        plain = flat_is_text l.spelt.content l.spelt.flat;
        said = ap trimmed l.spelt.letters;
      };
    }))
    (λ f. accepted (reads_none (record { content = tree.none; spelt = spelt_empty t f; plain = refl; said = refl })))

-- ---- an element, by what its first tag comes to
pub record Entered (d : ℕ) (t : Opened) (x z : At) (u : Text) : Type 0 where
  pub content : Content
  pub spelt : SpeltBehind t content u
  pub shallow : depth content ≤ d
  pub leads : Leads x (element t.name content) z

pub entering_ok : (d : ℕ) (C : ℕ → At → Reader At) → ((n : ℕ) (x : At) → Sound (ContentTo d x) (C n x)) → (n : ℕ) (t : Opened) (x : At) (o : Opening)
    → opening x.phase (sort_of t.name) ≡ o → Sound (Entered d t x) (entering listed C n t x o)
unfolding entering
entering_ok d C sound n t x misplaced e s = Ok.refused
entering_ok d C sound n t x refused e s = Ok.refused
entering_ok d C sound n t x (holds p f k) e s =
    ok_whether _ _ _ s
    (λ _. ok_then _ _ s (doing_ok n k x.kept s) λ y r h. ok_then _ _ r (filling_ok d C sound n t (reached f y) r) λ z q i. accepted (record {
      used = i.used;
      split = sym h.0 ∙ i.split;
      spelt = record {
        content = i.spelt.content;
        spelt = i.spelt.spelt;
        shallow = i.spelt.shallow;
        leads = λ c w g. holding e h.1 i.spelt.given i.spelt.whole g;
      };
    }))
    (λ _. Ok.refused)
entering_ok d C sound n t x (says p k) e s =
    ok_then _ _ s (telling_ok n t s) λ v r h. ok_then _ _ r (adding_ok n (record_of k v) x.kept r) λ y q i. accepted (record {
      used = h.used;
      split = h.split ∙ ap (λ (w : Text). h.used ++ w) (sym i.0);
      spelt = record {
        content = h.spelt.content;
        spelt = h.spelt.spelt;
        shallow = omega (arith, text_is_flat h.spelt.content h.spelt.plain);
        leads = λ c w g. saying e h.spelt.plain (rw h.spelt.said at i.1) g;
      };
    })

-- ---- nodes and contents
-- u spells a node to the depth d that leads from x to z
pub record NodeTo (d : ℕ) (x z : At) (u : Text) : Type 0 where
  pub node : Node
  pub spelt : SpellsNode node u
  pub shallow : depth_node node ≤ d
  pub leads : Leads x node z

pub straying_ok : (d n : ℕ) (x : At) → Sound (NodeTo d x) (straying n x)
unfolding straying depth_node
straying_ok d n x s =
    ok_then _ _ s (ok_blamed _ _ s (letter_ok s)) λ b r h. ok_whether _ _ _ r
    (λ e. accepted (record {
      used = h.used;
      split = h.split;
      spelt = record { node = letter b; spelt = text h.spelt; shallow = omega arith; leads = λ c z g. passing e g };
    }))
    (λ e. refused)

module _ (d : ℕ) (E : At → Reader At) (sound : (x : At) → Sound (NodeTo d x) (E x)) where
  pub node_ok : (n : ℕ) (x : At) → Sound (NodeTo d x) (node_in E n x)
  unfolding node_in depth_node
  node_ok n x s =
      ok_whether _ _ _ s
      (λ e. ok_whether _ _ _ s
      (λ e. ok_then _ _ s (comment_ok s) λ u r h. accepted (record {
        used = h.used;
        split = h.split;
        spelt = record { node = Node.comment; spelt = h.spelt; shallow = omega arith; leads = λ c z g. remarking g };
      }))
      (λ e. sound x s))
      (λ e. straying_ok d n x s)

  pub content_ok : (n : ℕ) (x : At) → Sound (ContentTo d x) (content_in E n x)
  unfolding content_in depth
  content_ok n x =
      walk_sound _ (node_in E n) (NodeTo d) (ContentTo d) (λ y s e. node_ok n y s)
      (λ y. record { content = tree.none; spelt = nothing; shallow = omega arith; given = over })
      (λ a b c s t h i. record {
        content = h.node then i.content;
        spelt = further h.spelt i.spelt;
        shallow = omega (arith, h.shallow, i.shallow);
        given = h.leads i.content c i.given;
      }) x

-- where no level is left nothing is accepted
sinking_ok : (n : ℕ) (o : Opening) (s : Text) {P : At → Text → Type 0} → Ok P (sinking n o s)
sinking_ok n misplaced s = Ok.refused
sinking_ok n refused s = Ok.refused
sinking_ok n (holds p f e) s = Ok.refused
sinking_ok n (says p k) s = Ok.refused

pub element_ok : (d : ℕ) (x : At) → Sound (NodeTo d x) (element_in listed d x)
unfolding element_in depth_node
element_ok zero x s = ok_then _ _ s (start_tag_ok s) λ t r h. sinking_ok (length s) (opening x.phase (sort_of t.name)) r
element_ok (suc d) x s =
    ok_then _ _ s (start_tag_ok s) λ t r h.
    ok_map (entering_ok d _ (content_ok d (element_in listed d) (element_ok d)) _ t x _ refl r) λ z q i. record {
      used = h.used ++ i.used;
      split = h.split ∙ ap (λ (w : Text). h.used ++ w) i.split ∙ sym (append_assoc h.used i.used q);
      spelt = record {
        node = element t.name i.spelt.content;
        spelt = i.spelt.spelt h.used h.spelt;
        shallow = omega (arith, i.spelt.shallow);
        leads = i.spelt.leads;
      };
    }

-- ---- the file
pub record RootTo (x z : At) (u : Text) : Type 0 where
  pub held : Content
  pub spelt : SpellsNode (element (bytes "web-app") held) u
  pub shallow : depth held ≤ 7
  pub given : GivesTo x held z
  pub whole : is_complete z.phase ≡ true

pub root_ok : (rs : List Record) → Sound (RootTo (reached in_app rs)) (root_of listed rs)
unfolding root_of
root_ok rs s =
    ok_then _ _ s (start_tag_ok s) λ t r h. ok_whether _ _ _ r
    (λ e. ok_map (filling_ok 7 _ (content_ok 7 (element_in listed 7) (element_ok 7)) _ t (reached in_app rs) r) λ z q i. record {
      used = h.used ++ i.used;
      split = h.split ∙ ap (λ (w : Text). h.used ++ w) i.split ∙ sym (append_assoc h.used i.used q);
      spelt = record {
        held = i.spelt.content;
        spelt = subst (λ (n : Text). SpellsNode (element n i.spelt.content) (h.used ++ i.used)) (same_equal _ _ e) (i.spelt.spelt h.used h.spelt);
        shallow = i.spelt.shallow;
        given = i.spelt.given;
        whole = i.spelt.whole;
      };
    })
    (λ e. refused)

pub file_ok : (s : Text) → Ok (λ rs r. Means s rs × (r ≡ [])) (file_of s)
unfolding file_of kept_of depth_node
file_ok s =
    ok_then _ _ s (order_mark_ok s) λ x₁ r₁ m. ok_then _ _ r₁ (prolog_ok r₁) λ x₂ r₂ p. ok_then _ _ r₂ (asides_ok r₂) λ x₃ r₃ a.
    ok_then _ _ r₃ (root_ok [] r₃) λ y r₄ e. ok_then _ _ r₄ (asides_ok r₄) λ x₅ r₅ z. ok_then _ _ r₅ (ending_ok r₅) λ x₆ r₆ h.
    let whole : s ≡ m.used ++ p.used ++ a.used ++ e.used ++ z.used = rw (m.split, p.split, a.split, e.split, z.split, h.0) (simp (append_assoc, append-nil)) in
    accepted (
      record {
        held = e.spelt.held;
        spelt = rw whole (document m.used p.used a.used e.used z.used m.spelt p.spelt a.spelt e.spelt.spelt refl z.spelt);
        shallow = omega (arith, e.spelt.shallow);
        left = y.phase;
        given = e.spelt.given;
        whole = e.spelt.whole;
      },
      h.1,
    )
