-- What is meant the reader accepts, with the very records that are given.
use mathlib.Core.Path.{◌≡◌, refl, sym, ap, ◌∙◌}
use mathlib.Core.Bool.{Bool, true, false, not, ◌||◌}
use mathlib.Core.List.{List, [], ◌∷◌, ◌++◌, append_assoc, append-nil}
use mathlib.Core.Option.{Option, none, some}
use Prim.Native.Nat.{ℕ, zero, suc, ◌≤◌}
use native.Mathlib.Omega.{arith}
use lib.Dec.{eqb}
use lib.ListN.{length}
use borrow.Author.Tests.{eqb-true}
use Rattle.text.specs.Texts.{Text, bytes, starts_with}
use Rattle.text.proofs.Spans.{same_self}
use Rattle.documents.specs.Chars.{is_name_start, is_space, next, after}
use Rattle.documents.specs.Grammar as tree
use Rattle.documents.specs.Grammar.{Node, element, Content, ◌then◌, is_element, depth_node, depth, letters_of, Tag, SpellsNode, text, remarked, full, empty, Spells, nothing, further, Document, document}
use Rattle.documents.specs.Parts.{Fault, Got, got, fault, Reader, start_tag, ends, asides, ending, trimmed, trim_end}
use Rattle.documents.proofs.Steps.{Sound, run_then, run_true, run_false, run_blamed}
use Rattle.documents.proofs.Loops.{Less, walk_goes, walk_ends}
use Rattle.documents.proofs.Sound.{end_of}
use Rattle.documents.proofs.Complete.{letter_run, letter_next, comment_run, start_tag_run, second_tag_run, element_starts, element_next, node_ends, node_some, order_mark_run, prolog_run, asides_run, asides_undeclared, asides_unmarked, prolog_unmarked, not_aside, ending_run}
use Rattle.documents.proofs.Leaves.{shorter}
use Rattle.documents.proofs.Letters.{end_goes_not, letters_run}
use Rattle.listings.specs.Records.{Record}
use Rattle.portals.specs.Elements as Does
use Rattle.portals.specs.Elements.{Phase, in_app, Opening, says, Effect, sort_of, opening, is_complete}
use Rattle.portals.specs.Records.{record_of, first_fault, added, effected}
use Rattle.portals.specs.Means.{is_text, text_of, Gives, over, passing, remarking, holding, saying, Means}
use Rattle.portals.specs.Readings.{listed, reached, adding, doing, complete, closing, filling, telling, entering, straying, node_in, content_in, element_in, root_of, kept_of, file_of}
use Rattle.portals.proofs.Sound.{At, GivesTo, text_is_flat, NodeTo, node_ok, element_ok}

-- ---- records
pub adding_run : (n : ℕ) (r : Record) (x : List Record) (s : Text) {y : List Record} → added x r ≡ some y → adding listed n r x s ≡ got y s
unfolding adding added
adding_run n r x s {y} e = go (first_fault x r) e
  where
    go : (o : Option Fault) → Path (Option (List Record)) (elim o [ none ↦ some (x ++ r ∷ []) | some f ↦ none ]) (some y)
        → Path (Got (List Record)) (elim o as (λ z. Got (List Record)) [ none ↦ got (x ++ r ∷ []) s | some f ↦ fault f n ]) (got y s)
    go none h = cc
    go (some f) h = cc

pub doing_run : (n : ℕ) (e : Effect) (x : List Record) (s : Text) {y : List Record} → effected e x ≡ some y → doing listed n e x s ≡ got y s
unfolding doing effected
doing_run n Does.nothing x s h = cc
doing_run n Does.guards x s h = cc
doing_run n (Does.adds k t) x s h = adding_run n (record_of k t) x s h

-- ---- an element, from behind its first tag
-- what stands behind a first tag of the name n, which says that content follows, or that none does
pub data Behind (n : Text) : Bool → Content → Text → Type 0 where
  held : {k : Content} (s w : Text) → Spells k s → is_space w ≡ true → Behind n true k (s ++ (bytes "</" ++ (n ++ (w ++ bytes ">"))))
  bare : Behind n false tree.none []

pub complete_run : (n : ℕ) (y : At) (s : Text) → is_complete y.phase ≡ true → complete n y s ≡ got y s
unfolding complete
complete_run n y s e = run_true _ _ _ _ e refl

-- C reads the contents to the depth d
pub record ContentRun (d : ℕ) (C : ℕ → At → Reader At) : Type 0 where
  pub reads : (n : ℕ) {p q : Phase} {rs rs' : List Record} {c : Content} {u : Text} (r : Text) → Spells c u → depth c ≤ d → Gives p rs c q rs' → ends r ≡ true
      → C n (reached p rs) (u ++ r) ≡ got (reached q rs') r

-- the second tag, and what is left
tail_split : (s n w r : Text) → (s ++ (bytes "</" ++ (n ++ (w ++ bytes ">")))) ++ r ≡ s ++ (bytes "</" ++ (n ++ (w ++ (bytes ">" ++ r))))
tail_split s n w r = simp append_assoc

pub filling_run : (d : ℕ) (C : ℕ → At → Reader At) → ContentRun d C → (m : ℕ) (n : Text) (f : Bool) {p q : Phase} {rs rs' : List Record} {k : Content} {u : Text} (r : Text)
    → Behind n f k u → depth k ≤ d → Gives p rs k q rs' → is_complete q ≡ true
    → filling C m (record { name = n; full = f }) (reached p rs) (u ++ r) ≡ got (reached q rs') r
unfolding filling closing ends starts_with
filling_run d C run m n f {q = q} {rs' = rs'} r (held s w p e) h g z =
    ap (filling C m (record { name = n; full = true }) _) (tail_split s n w r)
    ∙ run_true _ _ _ _ refl (run_then _ _ _ (run.reads m _ p h g refl) (run_then _ _ _ (second_tag_run n w r e) (complete_run _ (reached q rs') r z)))
filling_run d C run m n f r bare h over z = run_false _ _ _ _ refl (complete_run m _ r z)

pub telling_run : (m : ℕ) (n : Text) (f : Bool) {k : Content} {u : Text} (r : Text) → Behind n f k u → is_text k ≡ true → telling m (record { name = n; full = f }) (u ++ r) ≡ got (text_of k) r
unfolding telling trimmed trim_end after letters_of
telling_run m n f r (held {k = k} s w p e) h =
    ap (telling m (record { name = n; full = true })) (tail_split s n w r)
    ∙ run_true _ _ _ _ refl (run_then _ _ _ (letters_run m _ p (text_is_flat k h) (end_goes_not _)) (run_then _ _ _ (second_tag_run n w r e) refl))
telling_run m n f r bare h = run_false _ _ _ _ refl refl

-- ---- nodes
-- m reads s, and leaves what the content c leads from there to z
pub record Runs (m : Reader At) (s r : Text) (c : Content) (z : At) : Type 0 where
  pub there : At
  pub run : m (s ++ r) ≡ got there r
  pub rest : GivesTo there c z

-- a tag has content, or lacks none
begun : (n : Text) (f : Bool) {p q : Phase} {rs rs' : List Record} {k : Content} {u : Text} → Behind n f k u → Gives p rs k q rs' → is_complete q ≡ true → f || is_complete p ≡ true
begun n f (held s w p e) g z = refl
begun n f bare over z = z

pub entering_run : (d : ℕ) (C : ℕ → At → Reader At) → ContentRun d C → (m : ℕ) (n : Text) (f : Bool) {p q : Phase} {rs rs' : List Record} {k c : Content} {u : Text} (r : Text)
    → Behind n f k u → depth k ≤ d → Gives p rs (element n k then c) q rs'
    → Runs (entering listed C m (record { name = n; full = f }) (reached p rs) (opening p (sort_of n))) u r c (reached q rs')
unfolding entering
entering_run d C run m n f {p} {rs = rs} {u = u} r b h (holding {p' = p'} {rs₂ = rs₂} o e g z t) = record {
  there = reached p' rs₂;
  run =
      ap (λ (y : Opening). entering listed C m (record { name = n; full = f }) (reached p rs) y (u ++ r)) o
      ∙ run_true _ _ _ _ (begun n f b g z) (run_then _ _ _ (doing_run m _ rs (u ++ r) e) (run_then _ _ _ (filling_run d C run m n f r b h g z) refl));
  rest = t;
}
entering_run d C run m n f {p} {rs = rs} {u = u} r b h (saying {p' = p'} {rs₁ = rs₁} o i e t) = record {
  there = reached p' rs₁;
  run =
      ap (λ (y : Opening). entering listed C m (record { name = n; full = f }) (reached p rs) y (u ++ r)) o
      ∙ run_then _ _ _ (telling_run m n f r b i) (run_then _ _ _ (adding_run m _ rs r e) refl);
  rest = t;
}

-- an element in two parts: its first tag, and what stands behind it
pub record Parted (n : Text) (k : Content) (s : Text) : Type 0 where
  pub is_full : Bool
  pub first : Text
  pub rest : Text
  pub tag : Tag n first
  pub behind : Behind n is_full k rest
  pub split : (r : Text) → s ++ r ≡ first ++ (end_of is_full ++ (rest ++ r))

pub parted : {n : Text} {k : Content} {s : Text} → SpellsNode (element n k) s → Parted n k s
parted {n} (full t s w m p e) =
    record { is_full = true; first = t; rest = s ++ (bytes "</" ++ (n ++ (w ++ bytes ">"))); tag = m; behind = held s w p e; split = λ r. simp append_assoc }
parted (empty t m) = record { is_full = false; first = t; rest = []; tag = m; behind = bare; split = λ r. append_assoc t (bytes "/>") r }

-- E reads the elements to the depth d
pub record ElementRun (d : ℕ) (E : At → Reader At) : Type 0 where
  pub reads : {p q : Phase} {rs rs' : List Record} {n : Text} {k c : Content} {s : Text} (r : Text) → SpellsNode (element n k) s → depth_node (element n k) ≤ d
      → Gives p rs (element n k then c) q rs' → Runs (E (reached p rs)) s r c (reached q rs')

module _ (d : ℕ) (E : At → Reader At) (sound : (x : At) → Sound (NodeTo d x) (E x)) (run : ElementRun d E) where
  element_node : (n : ℕ) (x : At) {m : Node} {s : Text} (r : Text) → SpellsNode m s → is_element m ≡ true → node_in E n x (s ++ r) ≡ E x (s ++ r)
  unfolding node_in is_name_start
  element_node n x r p i = run_true _ _ _ _ (element_next r p i) (run_false _ _ _ _ (element_starts r p i 33 (bytes "--") refl) refl)

  pub node_run : (n : ℕ) {p q : Phase} {rs rs' : List Record} {m : Node} {c : Content} {s : Text} (r : Text) → SpellsNode m s → depth_node m ≤ d
      → Gives p rs (m then c) q rs' → Runs (node_in E n (reached p rs)) s r c (reached q rs')
  unfolding node_in straying starts_with
  node_run n {p} {rs = rs} r (text l) h (passing e g) = record {
    there = reached p rs;
    run = run_false _ _ _ _ (letter_next r l) (run_then _ _ _ (run_blamed _ _ _ (letter_run r l)) (run_true _ _ _ _ e refl));
    rest = g;
  }
  node_run n {p} {rs = rs} r (remarked t m) h (remarking g) = record {
    there = reached p rs;
    run = run_true _ _ _ _ refl (run_true _ _ _ _ refl (run_then _ _ _ (comment_run t r m) refl));
    rest = g;
  }
  node_run n r (full t s w m p e) h g =
      let i = run.reads r (full t s w m p e) h g in record { there = i.there; run = element_node n _ r (full t s w m p e) refl ∙ i.run; rest = i.rest }
  node_run n r (empty t m) h g = let i = run.reads r (empty t m) h g in record { there = i.there; run = element_node n _ r (empty t m) refl ∙ i.run; rest = i.rest }

  node_less : (n : ℕ) (x : At) (s : Text) → Less s (node_in E n x s)
  node_less n x s = shorter (λ a u h. node_some h.spelt) s (node_ok d E sound n x s)

  content_walk : (n : ℕ) {p q : Phase} {rs rs' : List Record} {c : Content} {u : Text} (r : Text) → Spells c u → depth c ≤ d → Gives p rs c q rs' → ends r ≡ true
      → content_in E n (reached p rs) (u ++ r) ≡ got (reached q rs') r
  unfolding content_in depth ends
  content_walk n {p} {rs = rs} r nothing h over stop = walk_ends _ (node_in E n) refl (λ a x e. node_less n a x) (reached p rs) r (ap not stop)
  content_walk n {p = p} {rs = rs} r (further {x = x} {c = c} {s = s} {t = t} m k) h g stop =
      let i = node_run n (t ++ r) m (omega arith) g in
      ap (content_in E n (reached p rs)) (append_assoc s t r)
      ∙ walk_goes _ (node_in E n) refl (λ a x e. node_less n a x) (reached p rs) _ (ap not (node_ends (t ++ r) m)) i.run
      ∙ content_walk n {p = i.there.phase} {rs = i.there.kept} r k (omega arith) i.rest stop

  pub content_run : ContentRun d (content_in E)
  content_run = record { reads = content_walk }

-- ---- elements, level by level
element_opens : (d : ℕ) → ContentRun d (content_in (element_in listed d)) → {p q : Phase} {rs rs' : List Record} {n : Text} {k c : Content} {s : Text} (r : Text)
    → SpellsNode (element n k) s → depth k ≤ d → Gives p rs (element n k then c) q rs' → Runs (element_in listed (suc d) (reached p rs)) s r c (reached q rs')
unfolding element_in
element_opens d run {p} {rs = rs} {n = n} {s = s} r m h g =
    let a = parted m in
    let i = entering_run d (content_in (element_in listed d)) run (length (s ++ r)) n a.is_full r a.behind h g in
    record {
      there = i.there;
      run = run_then start_tag _ (s ++ r) (ap start_tag (a.split r) ∙ start_tag_run (record { name = n; full = a.is_full }) a.first (a.rest ++ r) a.tag) i.run;
      rest = i.rest;
    }

pub element_run : (d : ℕ) → ElementRun d (element_in listed d)
unfolding depth_node
element_run zero = record { reads = λ r m h g. absurd (omega (arith, h)) }
element_run (suc d) = record { reads = λ r m h g. element_opens d (content_run d (element_in listed d) (element_ok d) (element_run d)) r m (omega (arith, h)) g }

-- ---- the file
pub root_run : {k : Content} {s : Text} (r : Text) {q : Phase} {rs rs' : List Record} → SpellsNode (element (bytes "web-app") k) s → depth k ≤ 7 → Gives in_app rs k q rs'
    → is_complete q ≡ true → root_of listed rs (s ++ r) ≡ got (reached q rs') r
unfolding root_of
root_run {s = s} r m h g z =
    let a = parted m in
    run_then start_tag _ (s ++ r) (ap start_tag (a.split r) ∙ start_tag_run (record { name = bytes "web-app"; full = a.is_full }) a.first (a.rest ++ r) a.tag)
    (run_true _ _ _ _ (same_self (bytes "web-app"))
    (filling_run 7 (content_in (element_in listed 7)) (content_run 7 (element_in listed 7) (element_ok 7) (element_run 7)) _ (bytes "web-app") a.is_full r a.behind h g z))

-- a text that starts with `<` starts with no byte order mark
tag_unmarked : (t : Text) → next (eqb 60) t ≡ true → next (eqb 239) t ≡ false
tag_unmarked [] e = refl
tag_unmarked (b ∷ t) e = ap (eqb 239) (sym (eqb-true 60 b e))

file_spelt : {k : Content} {s : Text} {q : Phase} {rs : List Record} → Document (element (bytes "web-app") k) s → depth k ≤ 7 → Gives in_app [] k q rs → is_complete q ≡ true → file_of s ≡ got rs []
unfolding file_of kept_of is_name_start starts_with
file_spelt (document m p a s z hm hp ha hs hi hz) h g w =
    simp append_assoc
    (run_then _ _ _ (order_mark_run _ hm (prolog_unmarked _ hp (asides_unmarked _ ha (tag_unmarked (s ++ z) (element_next z hs hi)))))
    (run_then _ _ _ (prolog_run _ hp (asides_undeclared _ ha (element_starts z hs hi 63 (bytes "xml") refl)))
    (run_then _ _ _ (asides_run _ ha (not_aside (s ++ z) (element_next z hs hi) (element_starts z hs hi 33 (bytes "--") refl)))
    (run_then _ _ _ (root_run z hs h g w)
    (run_then _ _ _ (ap asides (sym (append-nil z)) ∙ asides_run [] hz refl)
    (run_then ending _ [] ending_run refl))))))

pub file_complete : (s : Text) (rs : List Record) → Means s rs → file_of s ≡ got rs []
unfolding depth_node
file_complete s rs m = file_spelt m.spelt (omega (arith, m.shallow)) m.given m.whole
