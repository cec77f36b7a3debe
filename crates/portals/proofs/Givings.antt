-- What a content gives: the records of its roles and constraints, as Plainly reads these off the tree.
use mathlib.Core.Path.{◌≡◌, refl, sym, ap, subst, ◌∙◌}
use mathlib.Core.Bool.{Bool, true, false, cond, ◌||◌, and-false, or-true}
use mathlib.Core.List.{List, [], ◌∷◌, ◌++◌, map, flat_map, append_assoc, append-nil}
use mathlib.Core.Logic.{◌⊎◌, inl, inr}
use mathlib.Core.Option.{Option, none, some, some-ne-none}
use lib.Seq.{append_snoc}
use Rattle.text.specs.Texts.{Text, bytes, same}
use Rattle.text.proofs.Truths.{never}
use Rattle.text.proofs.Spans.{same_equal}
use Rattle.documents.specs.Parts as parts
use Rattle.documents.specs.Grammar as tree
use Rattle.documents.specs.Grammar.{letter, comment, element, Content, ◌then◌}
use Rattle.listings.specs.Records.{Record, is_kind}
use Rattle.listings.specs.Listings.{Collected, Constrained}
use Rattle.listings.specs.declared.records.Kind.{Kind}
use Rattle.listings.specs.declared.records.Kind.TheVariants.{Role, Constraint, Allow, Collection, Pattern, Method, Omit}
use Rattle.portals.specs.Elements.{Sort, other_element, sort_of, Phase, in_app, in_role, in_role_named, in_constraint, in_collected, in_guarded, in_collection, in_patterned, in_methods, in_omissions, in_auth, passed_over, Effect, holds, says, is_complete}
use Rattle.portals.specs.Records.{record_of, first_fault, any_constraint, guarded, added, effected}
use Rattle.portals.specs.Means.{text_of, Gives, over, passing, remarking, holding, saying}
use Rattle.portals.specs.Plainly.{named, texts_named, has_none, collection_of, constraint_of, roles_in, constraints_in}
use Rattle.portals.proofs.Openings.{Opens, unknown, within, role, constraint, role_named, collection_first, collection_more, auth, pattern_first, pattern_more, method_first, method_more, omission_first, omission_more, allowed, opens, Called, called, other_name}
use Rattle.portals.proofs.Eaches.{Each}
use Rattle.portals.proofs.Shapes.{of_kind, under_collection, of_collection, of_collections, opened, headed, as_given, ShapedCollection, Shaped, Item, declares, constrains, given_by, ShapedItem, declared_by, constrained_by}

-- ---- what an element adds to the records
added_is : (rs rs₁ : List Record) (r : Record) → added rs r ≡ some rs₁ → rs₁ ≡ rs ++ r ∷ []
unfolding added
added_is rs rs₁ r e = go (first_fault rs r) e
  where
    go : (o : Option parts.Fault) → elim o as (λ o. Option (List Record)) [ none ↦ some (rs ++ r ∷ []) | some f ↦ none ] ≡ some rs₁ → rs₁ ≡ rs ++ r ∷ []
    go none h = cc
    go (some f) h = absurd (some-ne-none rs₁ (sym h))

-- ---- elements by name, with one more before them
abbrev Seen : Type 0
Seen = Text → List Content

abbrev also : Text → Content → Seen → Seen
also m k S n = cond (same m n) (k ∷ S n) (S n)

abbrev texts_by : Seen → Text → List Text
texts_by S n = map text_of (S n)

abbrev collection_by : Seen → Collected
collection_by S = record {
  patterns = texts_by S (bytes "url-pattern");
  methods = texts_by S (bytes "http-method");
  omitted = texts_by S (bytes "http-method-omission");
}

abbrev constraint_by : Seen → Constrained
constraint_by S = record {
  is_open = has_none (S (bytes "auth-constraint"));
  allowed = flat_map (texts_named (bytes "role-name")) (S (bytes "auth-constraint"));
  collections = map collection_of (S (bytes "web-resource-collection"));
}

-- the roles and the constraints that an element of that name declares
abbrev items_of : Text → Content → List Item
items_of m k = cond (same m (bytes "security-role")) (map declares (texts_named (bytes "role-name") k)) (cond (same m (bytes "security-constraint")) (constrains (constraint_of k) ∷ []) [])

unfoldable pub items_in : Content → List Item
unfolding named flat_map same
items_in tree.none = []
items_in (letter b then c) = items_in c
items_in (comment then c) = items_in c
items_in (element m k then c) = items_of m k ++ items_in c

-- ---- what is claimed at each phase
-- the last constraint so far, which is still open, becomes k: behind it stand the records mid, and then those of k
abbrev Grows : Constrained → List Record → List Record → Type 0
Grows k rs rs' = (before mid : List Record) → any_constraint mid ≡ false → rs ≡ before ++ opened ∷ mid
    → rs' ≡ before ++ headed k ∷ (mid ++ (of_collections k.collections ++ of_kind Allow k.allowed))

-- a content that begins at phase p and ends at phase q, with the elements S by name and the items I, leads from the records rs to rs'
abbrev Claim : Phase → Seen → List Item → Phase → List Record → List Record → Type 0
Claim in_app S I q rs rs' = (rs' ≡ rs ++ flat_map given_by I) × Each ShapedItem I
Claim in_role S I q rs rs' = rs' ≡ rs ++ of_kind Role (texts_by S (bytes "role-name"))
Claim in_role_named S I q rs rs' = rs' ≡ rs ++ of_kind Role (texts_by S (bytes "role-name"))
Claim in_constraint S I q rs rs' = is_complete q ≡ true → Grows (constraint_by S) rs rs' × Shaped (constraint_by S)
Claim in_collected S I q rs rs' = Grows (constraint_by S) rs rs' × (has_none (S (bytes "auth-constraint")) ≡ true → (constraint_by S).allowed ≡ []) × Each ShapedCollection (constraint_by S).collections
Claim in_guarded S I q rs rs' = (rs' ≡ rs) × (S (bytes "auth-constraint") ≡ []) × (S (bytes "web-resource-collection") ≡ [])
Claim in_collection S I q rs rs' = is_complete q ≡ true → (rs' ≡ rs ++ under_collection (collection_by S)) × ShapedCollection (collection_by S)
Claim in_patterned S I q rs rs' = (rs' ≡ rs ++ under_collection (collection_by S)) × (((collection_by S).methods ≡ []) ⊎ ((collection_by S).omitted ≡ []))
Claim in_methods S I q rs rs' = (rs' ≡ rs ++ of_kind Method (texts_by S (bytes "http-method"))) × (S (bytes "url-pattern") ≡ []) × (S (bytes "http-method-omission") ≡ [])
Claim in_omissions S I q rs rs' = (rs' ≡ rs ++ of_kind Omit (texts_by S (bytes "http-method-omission"))) × (S (bytes "url-pattern") ≡ []) × (S (bytes "http-method") ≡ [])
Claim in_auth S I q rs rs' = rs' ≡ rs ++ of_kind Allow (texts_by S (bytes "role-name"))
Claim passed_over S I q rs rs' = rs' ≡ rs

-- ---- nothing
claim_over : (p : Phase) (rs : List Record) → Claim p (λ n. []) [] p rs rs
unfolding flat_map
claim_over in_app rs = (sym (append-nil rs), tt)
claim_over in_role rs = sym (append-nil rs)
claim_over in_role_named rs = sym (append-nil rs)
claim_over in_constraint rs = λ e. absurd (never false e refl)
claim_over in_collected rs = (λ before mid n e. e ∙ ap (λ (x : List Record). before ++ opened ∷ x) (sym (append-nil mid)), λ e. refl, tt)
claim_over in_guarded rs = (refl, refl, refl)
claim_over in_collection rs = λ e. absurd (never false e refl)
claim_over in_patterned rs = (sym (append-nil rs), inl refl)
claim_over in_methods rs = (sym (append-nil rs), refl, refl)
claim_over in_omissions rs = (sym (append-nil rs), refl, refl)
claim_over in_auth rs = sym (append-nil rs)
claim_over passed_over rs = refl

module _ (m : Text) (k : Content) (S : Seen) (I : List Item) (q : Phase) (rs rs' : List Record) where
  -- ---- an element that is passed over
  claim_passed : sort_of m ≡ other_element → (p : Phase) → Claim p S I q rs rs' → Claim p (also m k S) (items_of m k ++ I) q rs rs'
  unfolding sort_of same
  claim_passed e in_app h = rw (other_name m (bytes "security-role") e refl, other_name m (bytes "security-constraint") e refl) h
  claim_passed e in_role h = rw (other_name m (bytes "role-name") e refl) h
  claim_passed e in_role_named h = rw (other_name m (bytes "role-name") e refl) h
  claim_passed e in_constraint h = rw (other_name m (bytes "auth-constraint") e refl, other_name m (bytes "web-resource-collection") e refl) h
  claim_passed e in_collected h = rw (other_name m (bytes "auth-constraint") e refl, other_name m (bytes "web-resource-collection") e refl) h
  claim_passed e in_guarded h = rw (other_name m (bytes "auth-constraint") e refl, other_name m (bytes "web-resource-collection") e refl) h
  claim_passed e in_collection h = rw (other_name m (bytes "url-pattern") e refl, other_name m (bytes "http-method") e refl, other_name m (bytes "http-method-omission") e refl) h
  claim_passed e in_patterned h = rw (other_name m (bytes "url-pattern") e refl, other_name m (bytes "http-method") e refl, other_name m (bytes "http-method-omission") e refl) h
  claim_passed e in_methods h = rw (other_name m (bytes "url-pattern") e refl, other_name m (bytes "http-method") e refl, other_name m (bytes "http-method-omission") e refl) h
  claim_passed e in_omissions h = rw (other_name m (bytes "url-pattern") e refl, other_name m (bytes "http-method") e refl, other_name m (bytes "http-method-omission") e refl) h
  claim_passed e in_auth h = rw (other_name m (bytes "role-name") e refl) h
  claim_passed e passed_over h = h

  -- ---- an element whose text is a field
  claim_said : (p p' : Phase) (t : Sort) (K : Kind) → Opens p t (says p' K) → Called m t → Claim p' S I q (rs ++ record_of K (text_of k) ∷ []) rs'
      → Claim p (also m k S) (items_of m k ++ I) q rs rs'
  unfolding same
  claim_said p p' t K role_named e h = rw e (h ∙ append_snoc rs _ _)
  claim_said p p' t K allowed e h = rw e (h ∙ append_snoc rs _ _)
  claim_said p p' t K pattern_first e h = rw e (λ w. (h.0 ∙ append_snoc rs _ _, record { patterned = refl; one_sort = h.1 }))
  claim_said p p' t K pattern_more e h = rw e (h.0 ∙ append_snoc rs _ _, h.1)
  claim_said p p' t K method_first e h =
      rw (e, h.1, h.2) (h.0 ∙ append_snoc rs _ _ ∙ ap (λ (x : List Record). rs ++ record_of Method (text_of k) ∷ x) (sym (append-nil _)), inr refl)
  claim_said p p' t K method_more e h = rw e (h.0 ∙ append_snoc rs _ _, h.1, h.2)
  claim_said p p' t K omission_first e h = rw (e, h.1, h.2) (h.0 ∙ append_snoc rs _ _, inl refl)
  claim_said p p' t K omission_more e h = rw e (h.0 ∙ append_snoc rs _ _, h.1, h.2)

-- ---- laws for elements with content
-- of roles and further items
items_declared : (ts : List Text) (I : List Item) → flat_map given_by (map declares ts ++ I) ≡ of_kind Role ts ++ flat_map given_by I
unfolding flat_map
items_declared [] I = refl
items_declared (t ∷ ts) I = ap (λ (x : List Record). record_of Role t ∷ x) (items_declared ts I)

items_shaped : (ts : List Text) (I : List Item) → Each ShapedItem I → Each ShapedItem (map declares ts ++ I)
items_shaped [] I h = h
items_shaped (t ∷ ts) I h = (tt, items_shaped ts I h)

-- no constraint in two lists together
none_append : (xs ys : List Record) → any_constraint xs ≡ false → any_constraint ys ≡ false → any_constraint (xs ++ ys) ≡ false
unfolding any_constraint
none_append [] ys e f = f
none_append (x ∷ xs) ys e f = go (is_kind Constraint x) e (none_append xs ys)
  where
    go : (b : Bool) → b || any_constraint xs ≡ false → (any_constraint xs ≡ false → any_constraint ys ≡ false → any_constraint (xs ++ ys) ≡ false) → b || any_constraint (xs ++ ys) ≡ false
    go true h ih = h
    go false h ih = ih h f

none_of_kind : (K : Kind) → ((t : Text) → is_kind Constraint (record_of K t) ≡ false) → (ts : List Text) → any_constraint (of_kind K ts) ≡ false
unfolding any_constraint
none_of_kind K n [] = refl
none_of_kind K n (t ∷ ts) = rw (n t) (none_of_kind K n ts)

none_in_collection : (c : Collected) → any_constraint (of_collection c) ≡ false
unfolding any_constraint
none_in_collection c =
    none_append (of_kind Pattern c.patterns) (of_kind Method c.methods ++ of_kind Omit c.omitted) (none_of_kind Pattern (λ t. refl) c.patterns)
    (none_append (of_kind Method c.methods) (of_kind Omit c.omitted) (none_of_kind Method (λ t. refl) c.methods) (none_of_kind Omit (λ t. refl) c.omitted))

-- the constraint that an authorization constraint makes `auth`
any_there : (before mid : List Record) → any_constraint (before ++ opened ∷ mid) ≡ true
unfolding any_constraint
any_there [] mid = refl
any_there (r ∷ before) mid = rw (any_there before mid) (or-true (is_kind Constraint r))

pub guarded_is : (before mid : List Record) → any_constraint mid ≡ false → guarded (before ++ opened ∷ mid) ≡ before ++ record_of Constraint (bytes "auth") ∷ mid
unfolding guarded
guarded_is [] mid n = rw n
guarded_is (r ∷ before) mid n =
    rw (any_there before mid, and-false (is_kind Constraint r)) (ap (λ (x : List Record). r ∷ x) (guarded_is before mid n))

between_four : (a b c d : List Record) → (a ++ b) ++ (c ++ d) ≡ a ++ ((b ++ c) ++ d)
between_four a b c d = append_assoc a b (c ++ d) ∙ ap (λ (x : List Record). a ++ x) (sym (append_assoc b c d))

-- one more collection
module _ (k : Content) (S : Seen) (rs rs₁ rs₂ rs' : List Record) (e : rs₁ ≡ rs ++ record_of Collection [] ∷ []) (f : rs₂ ≡ rs₁ ++ under_collection (collection_of k)) where
  grows_collection : Grows (constraint_by S) rs₂ rs' → Grows (constraint_by (also (bytes "web-resource-collection") k S)) rs rs'
  unfolding flat_map same
  grows_collection h before mid n z =
      let C = of_collection (collection_of k) in
      let y : rs₂ ≡ before ++ opened ∷ (mid ++ C) =
      f ∙ ap (λ (x : List Record). x ++ under_collection (collection_of k)) e ∙ append_snoc rs _ _ ∙ ap (λ (x : List Record). x ++ C) z ∙ append_assoc before (opened ∷ mid) C in
      h before (mid ++ C) (none_append mid C n (none_in_collection (collection_of k))) y
      ∙ ap (λ (x : List Record). before ++ headed (constraint_by S) ∷ x) (between_four mid C _ _)

-- the authorization constraint
module _ (k : Content) (S : Seen) (rs rs₁ rs₂ rs' : List Record) (e : rs₁ ≡ guarded rs) (f : rs₂ ≡ rs₁ ++ of_kind Allow (texts_named (bytes "role-name") k)) where
  grows_auth : rs' ≡ rs₂ → S (bytes "auth-constraint") ≡ [] → S (bytes "web-resource-collection") ≡ []
      → Grows (constraint_by (also (bytes "auth-constraint") k S)) rs rs'
  unfolding flat_map same
  grows_auth h a w before mid n z =
      rw (a, w, append-nil (texts_named (bytes "role-name") k))
      (h ∙ f ∙ ap (λ (x : List Record). x ++ of_kind Allow (texts_named (bytes "role-name") k)) (e ∙ ap guarded z ∙ guarded_is before mid n)
      ∙ append_assoc before (record_of Constraint (bytes "auth") ∷ mid) _)

module _ (m : Text) (k : Content) (S : Seen) (I J : List Item) (q q₁ : Phase) (rs rs₁ rs₂ rs' : List Record) where
  -- ---- an element with content of its own, which comes to an end at q₁
  claim_held : (p p' f : Phase) (t : Sort) (a : Effect) → Opens p t (holds p' f a) → Called m t → sort_of m ≡ t → effected a rs ≡ some rs₁
      → Claim f (λ n. named n k) J q₁ rs₁ rs₂ → is_complete q₁ ≡ true → Claim p' S I q rs₂ rs' → Claim p (also m k S) (items_of m k ++ I) q rs rs'
  unfolding effected same flat_map
  claim_held p p' f t a unknown c s e g w h =
      let x : rs₁ ≡ rs = cc in
      let y : rs₂ ≡ rs = g ∙ x in
      claim_passed m k S I q rs rs' s p (subst (λ (z : List Record). Claim p S I q z rs') y h)
  claim_held p p' f t a within c s e g w h = let x : rs₁ ≡ rs = cc in h ∙ g ∙ x
  claim_held p p' f t a role c s e g w h =
      let x : rs₁ ≡ rs = cc in
      let ts = texts_named (bytes "role-name") k in
      rw c (
        h.0 ∙ ap (λ (z : List Record). z ++ flat_map given_by I) (g ∙ ap (λ (z : List Record). z ++ of_kind Role ts) x)
            ∙ append_assoc rs (of_kind Role ts) (flat_map given_by I) ∙ ap (λ (z : List Record). rs ++ z) (sym (items_declared ts I)),
        items_shaped ts I h.1,
      )
  claim_held p p' f t a constraint c s e g w h =
      let d = g w in
      let x : rs₂ ≡ rs ++ as_given (constraint_of k) = d.0 rs [] refl (added_is rs rs₁ opened e) in
      rw c (h.0 ∙ ap (λ (z : List Record). z ++ flat_map given_by I) x ∙ append_assoc rs (as_given (constraint_of k)) (flat_map given_by I), (d.1, h.1))
  claim_held p p' f t a collection_first c s e g w h =
      let d = g w in
      rw c (λ v. (
        grows_collection k S rs rs₁ rs₂ rs' (added_is rs rs₁ (record_of Collection []) e) d.0 h.0,
        record { shut = h.1; collected = refl; collections = (d.1, h.2) },
      ))
  claim_held p p' f t a collection_more c s e g w h =
      let d = g w in
      rw c (grows_collection k S rs rs₁ rs₂ rs' (added_is rs rs₁ (record_of Collection []) e) d.0 h.0, h.1, (d.1, h.2))
  claim_held p p' f t a auth c s e g w h =
      let x : rs₁ ≡ guarded rs = cc in
      rw c (grows_auth k S rs rs₁ rs₂ rs' x g h.0 h.1 h.2, λ v. absurd (never false v refl), rw h.2 tt)

-- ---- what a content gives
gives : {p q : Phase} {rs rs' : List Record} {c : Content} → Gives p rs c q rs' → Claim p (λ n. named n c) (items_in c) q rs rs'
unfolding named items_in
gives {p} {rs = rs} over = claim_over p rs
gives (passing m g) = gives g
gives (remarking g) = gives g
gives (holding {p} {p'} {q} {q₁} {f} {e} {rs} {rs₁} {rs₂} {rs'} {n} {k} {c} o a g w h) =
    claim_held n k (λ m. named m c) (items_in c) (items_in k) q q₁ rs rs₁ rs₂ rs' p p' f (sort_of n) e (subst (Opens p (sort_of n)) o (opens p (sort_of n))) (called n) refl a (gives g) w (gives h)
gives (saying {p} {p'} {q} {m} {rs} {rs₁} {rs'} {n} {k} {c} o t a h) =
    claim_said n k (λ m. named m c) (items_in c) q rs rs' p p' (sort_of n) m (subst (Opens p (sort_of n)) o (opens p (sort_of n))) (called n)
    (subst (λ (z : List Record). Claim p' (λ m. named m c) (items_in c) q z rs') (added_is rs rs₁ (record_of m (text_of k)) a) (gives h))

-- ---- of a file
-- the records of its items
pub given_items : {q : Phase} {rs : List Record} (c : Content) → Gives in_app [] c q rs → (rs ≡ flat_map given_by (items_in c)) × Each ShapedItem (items_in c)
given_items c g = gives g

-- which are the roles and the constraints that Plainly reads off
roles_more : (ts : List Text) (I : List Item) → declared_by (map declares ts ++ I) ≡ ts ++ declared_by I
unfolding declared_by
roles_more [] I = refl
roles_more (t ∷ ts) I = ap (λ (x : List Text). t ∷ x) (roles_more ts I)

constraints_still : (ts : List Text) (I : List Item) → constrained_by (map declares ts ++ I) ≡ constrained_by I
unfolding constrained_by
constraints_still [] I = refl
constraints_still (t ∷ ts) I = constraints_still ts I

pub items_roles : (c : Content) → declared_by (items_in c) ≡ roles_in c
unfolding items_in declared_by roles_in named flat_map
items_roles tree.none = refl
items_roles (letter b then c) = items_roles c
items_roles (comment then c) = items_roles c
items_roles (element m k then c) = go (same m (bytes "security-role")) (same m (bytes "security-constraint")) (items_roles c)
  where
    go : (a b : Bool) → declared_by (items_in c) ≡ roles_in c
        → declared_by (cond a (map declares (texts_named (bytes "role-name") k)) (cond b (constrains (constraint_of k) ∷ []) []) ++ items_in c)
        ≡ flat_map (texts_named (bytes "role-name")) (cond a (k ∷ named (bytes "security-role") c) (named (bytes "security-role") c))
    go true b h = roles_more (texts_named (bytes "role-name") k) (items_in c) ∙ ap (λ (x : List Text). texts_named (bytes "role-name") k ++ x) h
    go false true h = h
    go false false h = h

pub items_constraints : (c : Content) → constrained_by (items_in c) ≡ constraints_in c
unfolding items_in constrained_by constraints_in named flat_map same
items_constraints tree.none = refl
items_constraints (letter b then c) = items_constraints c
items_constraints (comment then c) = items_constraints c
items_constraints (element m k then c) = go (same m (bytes "security-role")) (same m (bytes "security-constraint")) refl refl (items_constraints c)
  where
    go : (a b : Bool) → same m (bytes "security-role") ≡ a → same m (bytes "security-constraint") ≡ b → constrained_by (items_in c) ≡ constraints_in c
        → constrained_by (cond a (map declares (texts_named (bytes "role-name") k)) (cond b (constrains (constraint_of k) ∷ []) []) ++ items_in c)
        ≡ map constraint_of (cond b (k ∷ named (bytes "security-constraint") c) (named (bytes "security-constraint") c))
    go true true d e h = absurd (never (same m (bytes "security-constraint")) e (ap (λ (x : Text). same x (bytes "security-constraint")) (same_equal m (bytes "security-role") d)))
    go true false d e h = constraints_still (texts_named (bytes "role-name") k) (items_in c) ∙ h
    go false true d e h = ap (λ (x : List Constrained). constraint_of k ∷ x) h
    go false false d e h = h
