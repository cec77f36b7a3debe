-- Every accepted listing is proper.
use mathlib.Core.Path.{◌≡◌, refl, sym, ap, subst, ◌∙◌}
use mathlib.Core.Bool.{Bool, true, false, not, cond, ◌||◌}
use mathlib.Core.List.Memᴰ
use mathlib.Core.List.{List, [], ◌∷◌, ◌++◌, map, flat_map, Memᴰ}
use mathlib.Core.Logic.{◌⊎◌, inl, inr}
use Prim.Native.Nat.{ℕ, ◌≤◌}
use lib.ListN.{length}
use lib.Dec.{leb}
use borrow.Author.Tests.{leb-true}
use native.Mathlib.Omega.{arith}
use Rattle.text.specs.Texts.{Text, same, all, member, known, on_last, Once}
use Rattle.listings.specs.Records.{Record, names_role, names_method, fields_where, declared_in, roles_in, methods_in}
use Rattle.names.specs.Names.{is_star, made_of, is_name, is_role_name, is_method_name, is_pattern}
use Rattle.text.specs.Bytes.{between, is_text}
use Rattle.listings.specs.Fields.{name_fits, pattern_fits}
use Rattle.listings.specs.Refusals.{accepted, reading_of}
use Rattle.listings.specs.Listings.{Collected, Constrained, Listing, PatternLine, adds, constraints_in, listing_in, records_of, listing_of, lines_in_collection, lines_in_constraint, pattern_lines_of, new_constraint, add_allowed, add_collection, add_pattern, add_method, add_omitted, in_collection, patterns_of}
use Rattle.listings.specs.Propers.{Proper}
use Rattle.listings.specs.declared.records.Kind.{Kind}
use Rattle.listings.specs.declared.records.Kind.TheVariants.{Role, Constraint, Allow, Collection, Pattern, Method, Omit, End}
use Rattle.text.proofs.Truths.{and_left, and_right}
use Rattle.listings.proofs.Countings.{roles_snoc, methods_snoc}
use Rattle.listings.proofs.Sound.{Sound, sound_none, sound_more, Passes, sound_few}
use Rattle.reading.proofs.Keeping.{kept}
use Rattle.names.proofs.Plainly.{member_append, member_plain}
use Rattle.text.proofs.Spans.{same_self}
use Rattle.reading.specs.Views.{ProperView, view_of}
use Rattle.reading.proofs.Viewings.{texts_of_lem}
use Rattle.text.proofs.Indices.{run_snoc, once_distinct}
use Rattle.reading.proofs.Rulings.{pictures}
use Rattle.reading.proofs.Loads.{accepted_sound}

-- ---- each element of a list
abbrev pub Each {ℓ} : {A : Type ℓ} → (A → Type 0) → List A → Type 0
Each P [] = Unit {0}
Each P (x ∷ xs) = P x × Each P xs

module _ {A : Type 0} (P : A → Type 0) where
  pub each_append : (xs ys : List A) → Each P xs → Each P ys → Each P (xs ++ ys)
  each_append [] ys a b = b
  each_append (x ∷ xs) ys a b = (a.0, each_append xs ys a.1 b)

  pub each_on_last : (f : A → A) → ((x : A) → P x → P (f x)) → (xs : List A) → Each P xs → Each P (on_last f xs)
  unfolding on_last
  each_on_last f h [] a = a
  each_on_last f h (x ∷ []) a = (h x a.0, tt)
  each_on_last f h (x ∷ y ∷ ys) a = (a.0, each_on_last f h (y ∷ ys) a.1)

  pub each_more : (Q : A → Type 0) → ((x : A) → P x → Q x) → (xs : List A) → Each P xs → Each Q xs
  each_more Q h [] a = tt
  each_more Q h (x ∷ xs) a = (h x a.0, each_more Q h xs a.1)

  pub each_flat : {B : Type 0} (f : B → List A) (xs : List B) → Each (λ x. Each P (f x)) xs → Each P (flat_map f xs)
  unfolding flat_map
  each_flat f [] a = tt
  each_flat f (x ∷ xs) a = each_append (f x) (flat_map f xs) a.0 (each_flat f xs a.1)

  pub each_map : {B : Type 0} (f : B → A) (xs : List B) → Each (λ x. P (f x)) xs → Each P (map f xs)
  each_map f [] a = tt
  each_map f (x ∷ xs) a = (a.0, each_map f xs a.1)

-- ---- a name put behind those that are known
module _ (us : List Text) (t : Text) where
  known_keeps : (n : Text) → member n us ≡ true → member n (known us t) ≡ true
  unfolding known
  known_keeps n h = go (member t us)
    where
      go : (b : Bool) → member n (cond b us (us ++ t ∷ [])) ≡ true
      go true = h
      go false = member_append n us (t ∷ []) ∙ rw h

  known_has : member t (known us t) ≡ true
  unfolding known member
  known_has = go (member t us) refl
    where
      go : (b : Bool) → member t us ≡ b → member t (cond b us (us ++ t ∷ [])) ≡ true
      go true e = e
      go false e = member_append t us (t ∷ []) ∙ rw (e, same_self t)

  known_each : (P : Text → Type 0) → Each P us → P t → Each P (known us t)
  unfolding known
  known_each P a p = go (member t us)
    where
      go : (b : Bool) → Each P (cond b us (us ++ t ∷ []))
      go true = a
      go false = each_append P us (t ∷ []) a (p, tt)

-- ---- what a constraint speaks of, by the methods and the roles of its listing
pub record Speaks (ms : List Text) (c : Collected) : Type 0 where
  pub patterns : Each (λ (t : Text). is_pattern t ≡ true) c.patterns
  pub methods : Each (λ (m : Text). member m ms ≡ true) c.methods
  pub omitted : Each (λ (m : Text). member m ms ≡ true) c.omitted

pub record Allows (ms ns : List Text) (k : Constrained) : Type 0 where
  pub allowed : Each (λ (n : Text). (is_star n || member n ns) ≡ true) k.allowed
  pub collections : Each (Speaks ms) k.collections

module _ (ms ms' ns ns' : List Text) (grow-m : (m : Text) → member m ms ≡ true → member m ms' ≡ true) (grow-n : (n : Text) → member n ns ≡ true → member n ns' ≡ true) where
  speaks_on : (c : Collected) → Speaks ms c → Speaks ms' c
  speaks_on c a =
      record {
        patterns = a.patterns;
        methods = each_more (λ (m : Text). member m ms ≡ true) (λ (m : Text). member m ms' ≡ true) grow-m c.methods a.methods;
        omitted = each_more (λ (m : Text). member m ms ≡ true) (λ (m : Text). member m ms' ≡ true) grow-m c.omitted a.omitted;
      }

  star_or : (n : Text) → (is_star n || member n ns) ≡ true → (is_star n || member n ns') ≡ true
  star_or n h = go (is_star n) h
    where
      go : (b : Bool) → (b || member n ns) ≡ true → (b || member n ns') ≡ true
      go true e = refl
      go false e = grow-n n e

  allows_on : (k : Constrained) → Allows ms ns k → Allows ms' ns' k
  allows_on k a =
      record {
        allowed = each_more (λ (n : Text). (is_star n || member n ns) ≡ true) (λ (n : Text). (is_star n || member n ns') ≡ true) star_or k.allowed a.allowed;
        collections = each_more (Speaks ms) (Speaks ms') speaks_on k.collections a.collections;
      }

-- ---- a record more
module _ (ms ns : List Text) (t : Text) where
  abbrev Allowing : Constrained → Type 0
  Allowing = Allows ms ns

  with_allowed : (is_star t || member t ns) ≡ true → (k : Constrained) → Allowing k → Allowing (add_allowed t k)
  with_allowed h k a = record { allowed = each_append _ k.allowed (t ∷ []) a.allowed (h, tt); collections = a.collections }

  with_collection : (k : Constrained) → Allowing k → Allowing (add_collection k)
  with_collection k a =
      record {
        allowed = a.allowed;
        collections = each_append (Speaks ms) k.collections (record { patterns = []; methods = []; omitted = [] } ∷ []) a.collections (record { patterns = tt; methods = tt; omitted = tt }, tt);
      }

  in_last : (f : Collected → Collected) → ((c : Collected) → Speaks ms c → Speaks ms (f c)) → (k : Constrained) → Allowing k → Allowing (in_collection f k)
  in_last f h k a = record { allowed = a.allowed; collections = each_on_last (Speaks ms) f h k.collections a.collections }

  with_pattern : is_pattern t ≡ true → (c : Collected) → Speaks ms c → Speaks ms (add_pattern t c)
  with_pattern h c a = record { patterns = each_append _ c.patterns (t ∷ []) a.patterns (h, tt); methods = a.methods; omitted = a.omitted }

  with_method : member t ms ≡ true → (c : Collected) → Speaks ms c → Speaks ms (add_method t c)
  with_method h c a = record { patterns = a.patterns; methods = each_append _ c.methods (t ∷ []) a.methods (h, tt); omitted = a.omitted }

  with_omitted : member t ms ≡ true → (c : Collected) → Speaks ms c → Speaks ms (add_omitted t c)
  with_omitted h c a = record { patterns = a.patterns; methods = a.methods; omitted = each_append _ c.omitted (t ∷ []) a.omitted (h, tt) }

-- ---- all records
constraints_snoc : (rs : List Record) (r : Record) → constraints_in (rs ++ r ∷ []) ≡ adds (constraints_in rs) r
unfolding constraints_in
constraints_snoc rs r = run_snoc adds [] rs r

abbrev record_with : Kind → Text → Record
record_with k f = record { kind = k; field = f }

-- what the constraints speak of is named by the records so far
abbrev Spoken : List Record → Type 0
Spoken rs = Each (Allows (methods_in rs) (roles_in rs)) (constraints_in rs)

module _ (rs : List Record) (f : Text) (a : Spoken rs) where
  same_m : (m : Text) → member m (methods_in rs) ≡ true → member m (methods_in rs) ≡ true
  same_m m h = h

  same_n : (n : Text) → member n (roles_in rs) ≡ true → member n (roles_in rs) ≡ true
  same_n n h = h

  -- the same constraints among more roles, or more methods
  more_roles : Each (Allows (methods_in rs) (known (roles_in rs) f)) (constraints_in rs)
  more_roles =
      each_more (Allows (methods_in rs) (roles_in rs)) (Allows (methods_in rs) (known (roles_in rs) f))
      (allows_on (methods_in rs) (methods_in rs) (roles_in rs) (known (roles_in rs) f) same_m (known_keeps (roles_in rs) f)) (constraints_in rs) a

  more_methods : Each (Allows (known (methods_in rs) f) (roles_in rs)) (constraints_in rs)
  more_methods =
      each_more (Allows (methods_in rs) (roles_in rs)) (Allows (known (methods_in rs) f) (roles_in rs))
      (allows_on (methods_in rs) (known (methods_in rs) f) (roles_in rs) (roles_in rs) (known_keeps (methods_in rs) f) same_n) (constraints_in rs) a

  spoken_more : (k : Kind) → Passes rs (record_with k f) → Spoken (rs ++ record_with k f ∷ [])
  unfolding adds names_role pattern_fits
  spoken_more k p = rw (methods_snoc rs (record_with k f), roles_snoc rs (record_with k f), constraints_snoc rs (record_with k f)) (go k p.pattern)
    where
      star : (b : Bool) → is_star f ≡ b
          → Each (Allows (methods_in rs) (cond (not b) (known (roles_in rs) f) (roles_in rs))) (on_last (add_allowed f) (constraints_in rs))
      star true e = each_on_last _ (add_allowed f) (with_allowed (methods_in rs) (roles_in rs) f (rw e)) (constraints_in rs) a
      star false e = each_on_last _ (add_allowed f) (with_allowed (methods_in rs) (known (roles_in rs) f) f (rw (e, known_has (roles_in rs) f))) (constraints_in rs) more_roles

      go : (k : Kind) → pattern_fits (record_with k f) ≡ true
          → Each (Allows (cond (names_method (record_with k f)) (known (methods_in rs) f) (methods_in rs)) (cond (names_role (record_with k f)) (known (roles_in rs) f) (roles_in rs))) (adds (constraints_in rs) (record_with k f))
      go Role h = more_roles
      go Constraint h = each_append _ (constraints_in rs) (new_constraint f ∷ []) a (record { allowed = tt; collections = tt }, tt)
      go Allow h = star (is_star f) refl
      go Collection h = each_on_last _ add_collection (with_collection (methods_in rs) (roles_in rs) f) (constraints_in rs) a
      go Pattern h = each_on_last _ (in_collection (add_pattern f)) (in_last (methods_in rs) (roles_in rs) f (add_pattern f) (with_pattern (methods_in rs) (roles_in rs) f h)) (constraints_in rs) a
      go Method h =
          each_on_last _ (in_collection (add_method f)) (in_last (known (methods_in rs) f) (roles_in rs) f (add_method f) (with_method (known (methods_in rs) f) (roles_in rs) f (known_has (methods_in rs) f)))
          (constraints_in rs) more_methods
      go Omit h =
          each_on_last _ (in_collection (add_omitted f)) (in_last (known (methods_in rs) f) (roles_in rs) f (add_omitted f) (with_omitted (known (methods_in rs) f) (roles_in rs) f (known_has (methods_in rs) f)))
          (constraints_in rs) more_methods
      go End h = a

spoken : (rs : List Record) → Sound rs → Spoken rs
unfolding constraints_in
spoken rs sound_none = tt
spoken rs (sound_more before r s p) = spoken_more before r.field (spoken before s) r.kind p

-- ---- the names
abbrev Good : List Record → Type 0
Good rs = Each (λ (m : Text). is_method_name m ≡ true) (methods_in rs) × Each (λ (n : Text). is_role_name n ≡ true) (roles_in rs)

good_more : (rs : List Record) (k : Kind) (f : Text) → Good rs → name_fits (record_with k f) ≡ true → Good (rs ++ record_with k f ∷ [])
unfolding name_fits names_role is_role_name
good_more rs k f a p = rw (methods_snoc rs (record_with k f), roles_snoc rs (record_with k f)) (go k p)
  where
    method : is_method_name f ≡ true → Each (λ (m : Text). is_method_name m ≡ true) (known (methods_in rs) f)
    method h = known_each (methods_in rs) f (λ (m : Text). is_method_name m ≡ true) a.0 h

    role : is_role_name f ≡ true → Each (λ (n : Text). is_role_name n ≡ true) (known (roles_in rs) f)
    role h = known_each (roles_in rs) f (λ (n : Text). is_role_name n ≡ true) a.1 h

    star : (b : Bool) → is_star f ≡ b → is_name f ≡ true → Each (λ (n : Text). is_role_name n ≡ true) (cond (not b) (known (roles_in rs) f) (roles_in rs))
    star true e h = a.1
    star false e h = role (rw (h, e))

    go : (k : Kind) → name_fits (record_with k f) ≡ true
        → Each (λ (m : Text). is_method_name m ≡ true) (cond (names_method (record_with k f)) (known (methods_in rs) f) (methods_in rs))
        × Each (λ (n : Text). is_role_name n ≡ true) (cond (names_role (record_with k f)) (known (roles_in rs) f) (roles_in rs))
    go Role h = (a.0, role h)
    go Constraint h = a
    go Allow h = (a.0, star (is_star f) refl h)
    go Collection h = a
    go Pattern h = a
    go Method h = (method h, a.1)
    go Omit h = (method h, a.1)
    go End h = a

good : (rs : List Record) → Sound rs → Good rs
unfolding methods_in roles_in
good rs sound_none = (tt, tt)
good rs (sound_more before r s p) = good_more before r.kind r.field (good before s) p.name

-- ---- the patterns, and the rules
module _ (ms ns : List Text) where
  pub record Ruled (r : PatternLine) : Type 0 where
    pub text : is_pattern r.text ≡ true
    pub collection : Speaks ms r.collection
    pub constraint : Allows ms ns r.constraint

  rules_of_collection : (k : Constrained) → Allows ms ns k → (c : Collected) → Speaks ms c → Each Ruled (lines_in_collection k c)
  rules_of_collection k a c b =
      each_map Ruled _ c.patterns
      (each_more (λ (t : Text). is_pattern t ≡ true) _ (λ t h. record { text = h; collection = b; constraint = a }) c.patterns b.patterns)

  rules_of_constraint : (k : Constrained) → Allows ms ns k → Each Ruled (lines_in_constraint k)
  rules_of_constraint k a =
      each_flat Ruled (lines_in_collection k) k.collections
      (each_more (Speaks ms) (λ (c : Collected). Each Ruled (lines_in_collection k c)) (rules_of_collection k a) k.collections a.collections)

  rules_of : (cs : List Constrained) → Each (Allows ms ns) cs → Each Ruled (flat_map lines_in_constraint cs)
  rules_of cs a =
      each_flat Ruled lines_in_constraint cs
      (each_more (Allows ms ns) (λ (k : Constrained). Each Ruled (lines_in_constraint k)) rules_of_constraint cs a)

-- ---- an accepted listing
-- the same facts, each list gone through
record Grounds (l : Listing) : Type 0 where
  patterns : Each (λ (t : Text). is_pattern t ≡ true) (patterns_of l)
  methods : Each (λ (m : Text). is_method_name m ≡ true) l.methods
  roles : Each (λ (n : Text). is_role_name n ≡ true) l.roles
  few_patterns : length (patterns_of l) ≤ 128
  few_methods : length l.methods ≤ 31
  few_roles : length l.roles ≤ 32
  methods_once : Once l.methods
  roles_once : Once l.roles
  declared : Each (λ (n : Text). member n l.roles ≡ true) l.declared
  rules : Each (Ruled l.methods l.roles) (pattern_lines_of l)

members_front : (us vs : List Text) → Each (λ (n : Text). member n (us ++ vs) ≡ true) us
unfolding member
members_front [] vs = tt
members_front (u ∷ us) vs =
    (rw (same_self u), each_more (λ (n : Text). member n (us ++ vs) ≡ true) _ (λ n h. or_true_right (same u n) (member n (us ++ vs)) h) us (members_front us vs))
  where
    or_true_right : (a b : Bool) → b ≡ true → (a || b) ≡ true
    or_true_right true b h = refl
    or_true_right false b h = h

grounds : (rs : List Record) → Sound rs → Grounds (listing_in rs)
unfolding listing_in pattern_lines_of patterns_of roles_in methods_in
grounds rs s =
    let K = kept rs s in
    let P = pictures rs s in
    let F = sound_few rs s in
    let R = rules_of (methods_in rs) (roles_in rs) (constraints_in rs) (spoken rs s) in
    record {
      patterns = each_map (λ (t : Text). is_pattern t ≡ true) (λ (r : PatternLine). r.text) (flat_map lines_in_constraint (constraints_in rs))
          (each_more (Ruled (methods_in rs) (roles_in rs)) _ (λ r h. h.text) (flat_map lines_in_constraint (constraints_in rs)) R);
      methods = (good rs s).0;
      roles = (good rs s).1;
      few_patterns = omega (arith, ap length P.patterns, K.patterns, F.patterns);
      few_methods = F.methods;
      few_roles = F.roles;
      methods_once = once_distinct (fields_where names_method rs);
      roles_once = once_distinct (fields_where names_role rs);
      declared = subst (λ (us : List Text). Each (λ (n : Text). member n us ≡ true) (declared_in rs)) (sym K.first.1 ∙ K.roles) (members_front (declared_in rs) K.first.0);
      rules = R;
    }

-- ---- the same by membership
each_mem : {A : Type 0} (P : A → Type 0) (xs : List A) → Each P xs → (x : A) → Memᴰ x xs → P x
each_mem P [] a x i = absurd (Memᴰ.not-nil i)
each_mem P (y ∷ ys) a x i = go (Memᴰ.cases_cons i) (each_mem P ys a.1 x)
  where
    go : (x ≡ y) ⊎ Memᴰ x ys → (Memᴰ x ys → P x) → P x
    go (inl e) h = subst P (sym e) a.0
    go (inr m) h = h m

each_member : (P : Text → Type 0) (us : List Text) → Each P us → (t : Text) → member t us ≡ true → P t
each_member P us a t h = each_mem P us a t ((member_plain t us).0 h)

-- good patterns and names have lengths
made_most : (class : ℕ → Bool) (lo hi : ℕ) (t : Text) → made_of class lo hi t ≡ true → length t ≤ hi
made_most class lo hi t y = leb-true (length t) hi (and_right (leb lo (length t)) (leb (length t) hi) (and_left (between lo hi (length t)) (all class t) y))

pattern_short : (t : Text) → is_pattern t ≡ true → length t ≤ 255
unfolding is_pattern
pattern_short t h = made_most is_text 0 255 t (and_left (made_of is_text 0 255 t) _ h)

-- what every accepted listing satisfies
proper : (l : Listing) → Grounds l → Proper l
unfolding is_star
proper l g =
    record {
      few_patterns = g.few_patterns;
      good_patterns = each_mem (λ (t : Text). is_pattern t ≡ true) (patterns_of l) g.patterns;
      short_patterns = λ t i. pattern_short t (each_mem (λ (t : Text). is_pattern t ≡ true) (patterns_of l) g.patterns t i);
      few_methods = g.few_methods;
      methods_once = g.methods_once;
      good_methods = each_member (λ (m : Text). is_method_name m ≡ true) l.methods g.methods;
      methods_listed = λ r i. each_member (λ (m : Text). member m l.methods ≡ true) r.collection.methods (rule r i).collection.methods;
      omitted_listed = λ r i. each_member (λ (m : Text). member m l.methods ≡ true) r.collection.omitted (rule r i).collection.omitted;
      few_roles = g.few_roles;
      roles_once = g.roles_once;
      good_roles = each_member (λ (n : Text). is_role_name n ≡ true) l.roles g.roles;
      declared_listed = each_member (λ (n : Text). member n l.roles ≡ true) l.declared g.declared;
      allowed_listed = λ r i n s h. rw s at (each_member (λ (n : Text). (is_star n || member n l.roles) ≡ true) r.constraint.allowed (rule r i).constraint.allowed n h);
    }
  where
    rule : (r : PatternLine) → Memᴰ r (pattern_lines_of l) → Ruled l.methods l.roles r
    rule = each_mem (Ruled l.methods l.roles) (pattern_lines_of l) g.rules

pub accepted_proper : (s : Text) → reading_of s ≡ accepted → Proper (listing_of s)
unfolding listing_of
accepted_proper s e = proper (listing_in (records_of s)) (grounds (records_of s) (accepted_sound s e))

-- ---- and of its view
pub proper_view : (l : Listing) → Proper l → ProperView (view_of l)
unfolding view_of
proper_view l P = record {
  few_patterns = rw (texts_of_lem l) P.few_patterns;
  good_patterns = λ t i. P.good_patterns t (subst (Memᴰ t) (texts_of_lem l) i);
  short_patterns = λ t i. P.short_patterns t (subst (Memᴰ t) (texts_of_lem l) i);
  few_methods = P.few_methods;
  methods_once = P.methods_once;
  good_methods = P.good_methods;
  few_roles = P.few_roles;
  roles_once = P.roles_once;
  good_roles = P.good_roles;
}
