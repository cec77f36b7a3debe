-- The tables of sound records picture the listing that the records are: what they keep of each constraint, collection and pattern.
use mathlib.Core.Path.{◌≡◌, refl, sym, ap, ◌∙◌}
use mathlib.Core.Bool.{Bool, true, false, cond}
use mathlib.Core.List.{List, [], ◌∷◌, ◌++◌, map, flat_map, append_assoc, append-nil, map-append}
use Prim.Native.Nat.{ℕ, ◌≤◌}
use native.Mathlib.Omega.{arith}
use lib.ListN.{length, length-map}
use lib.Bits.{bit_or}
use Rattle.text.specs.Texts.{Text, bytes, same, run, on_last, index_of, Once}
use Rattle.listings.specs.Records.{Record, may_follow, is_among, is_kind, fields_where, names_role, names_method, declared_in, roles_in, methods_in}
use Rattle.names.specs.Names.{is_star, is_method_name}
use Rattle.listings.specs.Fields.{name_fits}
use Rattle.listings.specs.Listings.{Collected, Constrained, is_empty, covers, add_method, add_omitted, add_allowed, in_collection, new_constraint, adds, constraints_in}
use Rattle.listings.specs.Listings as L
use Rattle.entries.specs.Sets.{everything, with_member, without_member, lowest}
use Rattle.listings.specs.Heads.{is_first_method}
use Rattle.entries.specs.Tables.{Tables, indexed, field_add, tables_of, record_with}
use Rattle.entries.specs.Tables as Tab
use Rattle.listings.specs.declared.records.Kind.{Kind}
use Rattle.listings.specs.declared.records.Kind.TheVariants.{Role, Constraint, Allow, Collection, Pattern, Method, Omit, End}
use Rattle.listings.specs.declared.records.Stage.{Stage}
use Rattle.listings.specs.declared.records.Stage.TheVariants.{AfterFirst, AfterRole, AfterOpen, AfterAuth, AfterAllow, AfterCollection, AfterPattern, AfterMethod, AfterOmit, AfterEnd}
use Rattle.text.proofs.Truths.{never}
use Rattle.text.proofs.Indices.{run_snoc, once_distinct, Begins, begins_front}
use Rattle.entries.proofs.Regions.{on_last_snoc}
use Rattle.listings.proofs.Countings.{declared_snoc}
use Rattle.reading.proofs.Countings.{tables_snoc, begins_indexed, settled}
use Rattle.listings.proofs.Sound.{Passes, Sound, sound_none, sound_more, sound_few}
use Rattle.reading.proofs.Keeping.{Kept, kept}
use Rattle.reading.proofs.Numberings.{map_last, map_kept, flat_snoc, flat_kept, flat_more, numbers, numbers_none, numbered_more}
use Rattle.reading.proofs.Coverings.{cover_in, admit_in, empty_snoc, cover_new, cover_method, cover_omit, admit_new, admit_name, admit_star}
use Rattle.reading.specs.Views.{admits}

-- ---- the constraints as flat lists
abbrev pub collections_of : List Constrained → List Collected
collections_of cs = flat_map (λ (k : Constrained). k.collections) cs

abbrev pub patterns_of : Collected → List Text
patterns_of c = c.patterns

abbrev pub patterns_in : Constrained → List Text
patterns_in k = flat_map patterns_of k.collections

-- 0 for `open`, 1 for `auth` without `allow`, 2 for `auth` with one
abbrev pub access_number_of : Constrained → ℕ
access_number_of k = cond k.is_open 0 (cond (is_empty k.allowed) 1 2)

-- ---- where the reader stands among the constraints
-- there is a last constraint
record Last (cs : List Constrained) : Type 0 where
  front : List Constrained
  last : Constrained
  split : cs ≡ front ++ last ∷ []

-- it is not open
record Closing (cs : List Constrained) : Type 0 where
  at : Last cs
  closed : at.last.is_open ≡ false

-- it has a last collection, with methods or without
record Inside (bare : Bool) (cs : List Constrained) : Type 0 where
  at : Last cs
  before : List Collected
  collection : Collected
  parts : at.last.collections ≡ before ++ collection ∷ []
  empty : is_empty collection.methods ≡ bare

-- what has to stand there for a record to follow
record Shaped (p : Stage) (cs : List Constrained) : Type 0 where
  role : may_follow p Role ≡ true → cs ≡ []
  allow : may_follow p Allow ≡ true → Closing cs
  collection : may_follow p Collection ≡ true → Last cs
  pattern : may_follow p Pattern ≡ true → Inside true cs
  method : may_follow p Method ≡ true → Inside (is_first_method p) cs
  omit : may_follow p Omit ≡ true → Inside true cs

-- ---- what the tables picture
-- given all methods and roles of the listing, and the roles declared so far
pub record Pictured (methods roles declared : List Text) (T : Tables) (cs : List Constrained) : Type 0 where
  shaped : Shaped T.stage cs
  pub covers : T.covers ≡ map (cover_in methods) (collections_of cs)
  pub allows : T.allows ≡ map (admit_in roles declared) cs
  pub accesses : T.accesses ≡ map access_number_of cs
  pub patterns : T.patterns ≡ flat_map patterns_of (collections_of cs)
  pub owners : T.owners ≡ numbers 1 (map patterns_of (collections_of cs))
  pub parents : T.parents ≡ numbers 1 (map patterns_in cs)

-- ---- the shapes
abbrev Stands : Stage → List Constrained → Type 0
Stands AfterFirst cs = cs ≡ []
Stands AfterRole cs = cs ≡ []
Stands AfterOpen cs = Last cs
Stands AfterAuth cs = Closing cs
Stands AfterAllow cs = Closing cs
Stands AfterCollection cs = Inside true cs
Stands AfterPattern cs = Inside true cs
Stands AfterMethod cs = Inside false cs
Stands AfterOmit cs = Inside true cs
Stands AfterEnd cs = Unit {0}

no : {A : Type 0} → false ≡ true → A
no e = absurd (never false e refl)

abbrev ending : (front : List Constrained) (last : Constrained) → Last (front ++ last ∷ [])
ending front last = record { front = front; last = last; split = refl }

shaped_at : (p : Stage) (cs : List Constrained) → Stands p cs → Shaped p cs
unfolding may_follow is_among
shaped_at AfterFirst cs e = record { role = λ h. e; allow = no; collection = no; pattern = no; method = no; omit = no }
shaped_at AfterRole cs e = record { role = λ h. e; allow = no; collection = no; pattern = no; method = no; omit = no }
shaped_at AfterOpen cs l = record { role = no; allow = no; collection = λ h. l; pattern = no; method = no; omit = no }
shaped_at AfterAuth cs c = record { role = no; allow = λ h. c; collection = λ h. c.at; pattern = no; method = no; omit = no }
shaped_at AfterAllow cs c = record { role = no; allow = λ h. c; collection = λ h. c.at; pattern = no; method = no; omit = no }
shaped_at AfterCollection cs i = record { role = no; allow = no; collection = no; pattern = λ h. i; method = no; omit = no }
shaped_at AfterPattern cs i = record { role = no; allow = no; collection = λ h. i.at; pattern = λ h. i; method = λ h. i; omit = λ h. i }
shaped_at AfterMethod cs i = record { role = no; allow = no; collection = λ h. i.at; pattern = no; method = λ h. i; omit = no }
shaped_at AfterOmit cs i = record { role = no; allow = no; collection = λ h. i.at; pattern = no; method = no; omit = λ h. i }
shaped_at AfterEnd cs u = record { role = no; allow = no; collection = no; pattern = no; method = no; omit = no }

-- ---- one record more
access_allowed : (k : Constrained) (n : Text) → k.is_open ≡ false → 2 ≡ access_number_of (add_allowed n k)
access_allowed k n e = rw (e, empty_snoc k.allowed n)

module _ (methods roles declared : List Text) (T : Tables) (cs : List Constrained) (P : Pictured methods roles declared T cs) where
  at_role : (n : Text) → cs ≡ [] → Pictured methods roles (declared ++ n ∷ []) (Tab.add_role T n) cs
  at_role n e = record {
    shaped = shaped_at AfterRole cs e;
    covers = P.covers;
    allows = P.allows ∙ rw e;
    accesses = P.accesses;
    patterns = P.patterns;
    owners = P.owners;
    parents = P.parents;
  }

  at_end : (t : Text) → Pictured methods roles declared (Tab.add_end T t) cs
  at_end t = record {
    shaped = shaped_at AfterEnd cs tt;
    covers = P.covers;
    allows = P.allows;
    accesses = P.accesses;
    patterns = P.patterns;
    owners = P.owners;
    parents = P.parents;
  }

  -- a constraint more
  at_constraint : (word : Text) → Pictured methods roles declared (Tab.add_constraint T word) (cs ++ new_constraint word ∷ [])
  unfolding flat_map
  at_constraint word = record {
    shaped = stand (same word (bytes "open")) refl;
    covers = P.covers ∙ ap (map (cover_in methods)) flat;
    allows = ap (λ (l : List ℕ). l ++ 0 ∷ []) P.allows
        ∙ rw (map-append (admit_in roles declared) cs (new_constraint word ∷ []), ← admit_new roles declared word);
    accesses = ap (λ (l : List ℕ). l ++ cond (same word (bytes "open")) 0 1 ∷ []) P.accesses ∙ sym (map-append access_number_of cs (new_constraint word ∷ []));
    patterns = P.patterns ∙ ap (flat_map patterns_of) flat;
    owners = P.owners ∙ ap (λ (es : List Collected). numbers 1 (map patterns_of es)) flat;
    parents = P.parents ∙ sym (ap (numbers 1) (map-append patterns_in cs (new_constraint word ∷ [])) ∙ numbers_none 1 (map patterns_in cs));
  }
    where
      new : List Constrained
      new = cs ++ new_constraint word ∷ []

      flat : collections_of cs ≡ collections_of (cs ++ new_constraint word ∷ [])
      flat = sym (flat_snoc (λ (k : Constrained). k.collections) cs (new_constraint word) ∙ append-nil (collections_of cs))

      stand : (b : Bool) → same word (bytes "open") ≡ b → Shaped (cond b AfterOpen AfterAuth) new
      stand true e = shaped_at AfterOpen new (ending cs (new_constraint word))
      stand false e = shaped_at AfterAuth new (record { at = ending cs (new_constraint word); closed = e })

  -- ---- the last constraint changed: what does not show it stays
  module _ (l : Last cs) (new : Constrained) where
    on_last_lem : (f : Constrained → Constrained) → f l.last ≡ new → on_last f cs ≡ l.front ++ new ∷ []
    on_last_lem f e = ap (on_last f) l.split ∙ on_last_snoc f l.front l.last ∙ ap (λ (k : Constrained). l.front ++ k ∷ []) e

    kept_allows : admit_in roles declared l.last ≡ admit_in roles declared new → T.allows ≡ map (admit_in roles declared) (l.front ++ new ∷ [])
    kept_allows e = P.allows ∙ ap (map (admit_in roles declared)) l.split ∙ map_kept (admit_in roles declared) l.front l.last new e

    kept_accesses : access_number_of l.last ≡ access_number_of new → T.accesses ≡ map access_number_of (l.front ++ new ∷ [])
    kept_accesses e = P.accesses ∙ ap (map access_number_of) l.split ∙ map_kept access_number_of l.front l.last new e

    kept_parents : patterns_in l.last ≡ patterns_in new → T.parents ≡ numbers 1 (map patterns_in (l.front ++ new ∷ []))
    kept_parents e =
        P.parents ∙ ap (λ (ks : List Constrained). numbers 1 (map patterns_in ks)) l.split
        ∙ ap (numbers 1) (map_kept patterns_in l.front l.last new e)

    flat_old : collections_of cs ≡ collections_of l.front ++ l.last.collections
    flat_old = ap collections_of l.split ∙ flat_snoc (λ (k : Constrained). k.collections) l.front l.last

    flat_new : collections_of (l.front ++ new ∷ []) ≡ collections_of l.front ++ new.collections
    flat_new = flat_snoc (λ (k : Constrained). k.collections) l.front new

  at_allow : (n : Text) (c : Closing cs) → Tab.add_allow_to T n (admit_in roles declared c.at.last) ≡ admit_in roles declared (add_allowed n c.at.last) →
      Pictured methods roles declared (Tab.add_allow T n) (on_last (add_allowed n) cs)
  unfolding admits
  at_allow n c e = rw (on_last_lem l new (add_allowed n) refl) (record {
    shaped = shaped_at AfterAllow (l.front ++ new ∷ []) (record { at = ending l.front new; closed = c.closed });
    covers = P.covers ∙ ap (map (cover_in methods)) flat;
    allows =
        ap (on_last (Tab.add_allow_to T n)) (P.allows ∙ ap (map (admit_in roles declared)) l.split)
        ∙ map_last (admit_in roles declared) l.front l.last new (Tab.add_allow_to T n) e;
    accesses =
        ap (on_last (λ (x : ℕ). 2)) (P.accesses ∙ ap (map access_number_of) l.split)
        ∙ map_last access_number_of l.front l.last new (λ (x : ℕ). 2) (access_allowed l.last n c.closed);
    patterns = P.patterns ∙ ap (flat_map patterns_of) flat;
    owners = P.owners ∙ ap (λ (es : List Collected). numbers 1 (map patterns_of es)) flat;
    parents = kept_parents l new refl;
  })
    where
      l : Last cs
      l = c.at

      new : Constrained
      new = add_allowed n l.last

      flat : collections_of cs ≡ collections_of (l.front ++ new ∷ [])
      flat = flat_old l new ∙ sym (flat_new l new)

  at_collection : (l : Last cs) (t : Text) → Pictured methods roles declared (Tab.add_collection T t) (on_last L.add_collection cs)
  unfolding admits
  at_collection l t = rw (on_last_lem l new L.add_collection refl) (record {
    shaped = shaped_at AfterCollection (l.front ++ new ∷ [])
        (record { at = ending l.front new; before = l.last.collections; collection = fresh; parts = refl; empty = refl });
    covers =
        ap (λ (xs : List ℕ). xs ++ everything ∷ []) P.covers
        ∙ sym (ap (map (cover_in methods)) flat ∙ map-append (cover_in methods) (collections_of cs) (fresh ∷ []) ∙ rw (← cover_new methods));
    allows = kept_allows l new refl;
    accesses = kept_accesses l new refl;
    patterns =
        P.patterns ∙ sym (ap (flat_map patterns_of) flat ∙ flat_snoc patterns_of (collections_of cs) fresh ∙ append-nil (flat_map patterns_of (collections_of cs)));
    owners =
        P.owners ∙ sym (ap (λ (es : List Collected). numbers 1 (map patterns_of es)) flat
        ∙ ap (numbers 1) (map-append patterns_of (collections_of cs) (fresh ∷ [])) ∙ numbers_none 1 (map patterns_of (collections_of cs)));
    parents = kept_parents l new (sym (flat_snoc patterns_of l.last.collections fresh ∙ append-nil (patterns_in l.last)));
  })
    where
      new : Constrained
      new = L.add_collection l.last

      fresh : Collected
      fresh = record { patterns = []; methods = []; omitted = [] }

      flat : collections_of (l.front ++ new ∷ []) ≡ collections_of cs ++ fresh ∷ []
      flat =
          flat_new l new ∙ sym (append_assoc (collections_of l.front) l.last.collections (fresh ∷ []))
          ∙ ap (λ (es : List Collected). es ++ fresh ∷ []) (sym (flat_old l new))

  -- ---- the last collection changed
  module _ {b : Bool} (i : Inside b cs) (f : Collected → Collected) where
    abbrev earlier : List Collected
    earlier = collections_of i.at.front ++ i.before

    abbrev altered : Constrained
    altered = in_collection f i.at.last

    on_collection : on_last (in_collection f) cs ≡ i.at.front ++ altered ∷ []
    on_collection = on_last_lem i.at altered (in_collection f) refl

    altered_parts : altered.collections ≡ i.before ++ f i.collection ∷ []
    altered_parts = ap (on_last f) i.parts ∙ on_last_snoc f i.before i.collection

    before_change : collections_of cs ≡ earlier ++ i.collection ∷ []
    before_change =
        flat_old i.at altered
        ∙ ap (λ (es : List Collected). collections_of i.at.front ++ es) i.parts
        ∙ sym (append_assoc (collections_of i.at.front) i.before (i.collection ∷ []))

    after_change : collections_of (i.at.front ++ altered ∷ []) ≡ earlier ++ f i.collection ∷ []
    after_change =
        flat_new i.at altered
        ∙ ap (λ (es : List Collected). collections_of i.at.front ++ es) altered_parts
        ∙ sym (append_assoc (collections_of i.at.front) i.before (f i.collection ∷ []))

    still_inside : (c : Bool) → is_empty (f i.collection).methods ≡ c → Inside c (i.at.front ++ altered ∷ [])
    still_inside c e = record {
      at = ending i.at.front altered;
      before = i.before;
      collection = f i.collection;
      parts = altered_parts;
      empty = e;
    }

    -- by a `method` or an `omit` line
    at_line_lem : (U : Tables) (g : ℕ → ℕ) → g (cover_in methods i.collection) ≡ cover_in methods (f i.collection) →
        (f i.collection).patterns ≡ i.collection.patterns → Shaped U.stage (i.at.front ++ altered ∷ []) →
        U.covers ≡ on_last g T.covers → U.allows ≡ T.allows → U.accesses ≡ T.accesses → U.patterns ≡ T.patterns → U.owners ≡ T.owners →
        U.parents ≡ T.parents → Pictured methods roles declared U (on_last (in_collection f) cs)
    unfolding admits
    at_line_lem U g e p s u₁ u₂ u₃ u₄ u₅ u₆ = rw on_collection (record {
      shaped = s;
      covers =
          u₁ ∙ ap (on_last g) (P.covers ∙ ap (map (cover_in methods)) before_change)
          ∙ map_last (cover_in methods) earlier i.collection (f i.collection) g e ∙ ap (map (cover_in methods)) (sym after_change);
      allows = u₂ ∙ kept_allows i.at altered refl;
      accesses = u₃ ∙ kept_accesses i.at altered refl;
      patterns =
          u₄ ∙ P.patterns ∙ ap (flat_map patterns_of) before_change ∙ flat_kept patterns_of earlier i.collection (f i.collection) (sym p)
          ∙ ap (flat_map patterns_of) (sym after_change);
      owners =
          u₅ ∙ P.owners ∙ ap (λ (es : List Collected). numbers 1 (map patterns_of es)) before_change
          ∙ ap (numbers 1) (map_kept patterns_of earlier i.collection (f i.collection) (sym p) ∙ ap (map patterns_of) (sym after_change));
      parents =
          u₆ ∙ kept_parents i.at altered
          (ap (flat_map patterns_of) i.parts ∙ flat_kept patterns_of i.before i.collection (f i.collection) (sym p)
          ∙ ap (flat_map patterns_of) (sym altered_parts));
    })

  at_pattern : (i : Inside true cs) (t : Text) → Pictured methods roles declared (Tab.add_pattern T t) (on_last (in_collection (L.add_pattern t)) cs)
  unfolding covers admits
  at_pattern i t = rw (on_collection i f) (record {
    shaped = shaped_at AfterPattern (i.at.front ++ new ∷ []) (still_inside i f true i.empty);
    covers =
        P.covers ∙ ap (map (cover_in methods)) (before_change i f)
        ∙ map_kept (cover_in methods) (earlier i f) i.collection (f i.collection) refl ∙ ap (map (cover_in methods)) (sym (after_change i f));
    allows = kept_allows i.at new refl;
    accesses = kept_accesses i.at new refl;
    patterns =
        ap (λ (ts : List Text). ts ++ t ∷ []) (P.patterns ∙ ap (flat_map patterns_of) (before_change i f))
        ∙ sym (ap (flat_map patterns_of) (after_change i f) ∙ flat_more patterns_of (earlier i f) i.collection (f i.collection) t refl);
    owners =
        ap (λ (ns : List ℕ). ns ++ length T.covers ∷ []) (P.owners ∙ ap (λ (es : List Collected). numbers 1 (map patterns_of es)) (before_change i f))
        ∙ numbered_more patterns_of (earlier i f) i.collection (f i.collection) t (length T.covers) refl
        (ap length P.covers ∙ length-map (collections_of cs) (cover_in methods) ∙ ap length (before_change i f))
        ∙ ap (λ (es : List Collected). numbers 1 (map patterns_of es)) (sym (after_change i f));
    parents =
        ap (λ (ns : List ℕ). ns ++ length T.accesses ∷ []) (P.parents ∙ ap (λ (l : List Constrained). numbers 1 (map patterns_in l)) i.at.split)
        ∙ numbered_more patterns_in i.at.front i.at.last new t (length T.accesses) within
        (ap length P.accesses ∙ length-map cs access_number_of ∙ ap length i.at.split);
  })
    where
      f : Collected → Collected
      f = L.add_pattern t

      new : Constrained
      new = altered i f

      within : patterns_in new ≡ patterns_in i.at.last ++ t ∷ []
      within =
          ap (flat_map patterns_of) (altered_parts i f) ∙ flat_more patterns_of i.before i.collection (f i.collection) t refl
          ∙ ap (λ (es : List Collected). flat_map patterns_of es ++ t ∷ []) (sym i.parts)

  module _ (once : Once methods) (few : length methods ≤ 32) (m : Text) (named : m ≡ [] → ⊥) (begins : Begins (indexed m T.methods) methods) where
    at_method_lem : Inside (is_first_method T.stage) cs → Pictured methods roles declared (Tab.add_method T m) (on_last (in_collection (add_method m)) cs)
    at_method_lem i =
        let h = settled m T.methods methods begins in
        at_line_lem i (add_method m) (Tab.add_method T m) (Tab.add_method_to T m)
        (rw (← i.empty, h.0) (cover_method methods once few i.collection m named h.1)) refl
        (shaped_at AfterMethod _ (still_inside i (add_method m) false (empty_snoc i.collection.methods m))) refl refl refl refl refl refl

    at_omit : Inside true cs → Pictured methods roles declared (Tab.add_omit T m) (on_last (in_collection (add_omitted m)) cs)
    at_omit i =
        let h = settled m T.methods methods begins in
        at_line_lem i (add_omitted m) (Tab.add_omit T m) (λ (x : ℕ). without_member x (index_of m T.methods))
        (rw h.0 (cover_omit methods once few i.collection m named h.1 i.empty)) refl
        (shaped_at AfterOmit _ (still_inside i (add_omitted m) true i.empty)) refl refl refl refl refl refl

  -- `allow` adds its role, or all declared ones
  allowed : Once roles → length roles ≤ 32 → T.declared ≡ length declared → Begins declared roles →
      (n : Text) → Begins (cond (is_star n) T.roles (indexed n T.roles)) roles →
      (k : Constrained) → Tab.add_allow_to T n (admit_in roles declared k) ≡ admit_in roles declared (add_allowed n k)
  allowed once few counted first n begins k = go (is_star n) refl begins
    where
      go : (b : Bool) → is_star n ≡ b → Begins (cond b T.roles (indexed n T.roles)) roles →
          cond b (bit_or (admit_in roles declared k) (lowest T.declared)) (with_member (admit_in roles declared k) (index_of n T.roles))
          ≡ admit_in roles declared (add_allowed n k)
      go true e g = rw counted (admit_star roles once few declared k n e first)
      go false e g = let h = settled n T.roles roles g in rw h.0 (admit_name roles once few declared k n e h.1)

-- a method name has a byte
method_named : (m : Text) → is_method_name m ≡ true → m ≡ [] → ⊥
unfolding is_method_name
method_named m h e = never (is_method_name []) (rw e at h) refl

-- ---- all records
constraints_snoc : (rs : List Record) (r : Record) → constraints_in (rs ++ r ∷ []) ≡ adds (constraints_in rs) r
unfolding constraints_in
constraints_snoc rs r = run_snoc adds [] rs r

module _ (methods roles : List Text) (once-m : Once methods) (once-r : Once roles) (few-m : length methods ≤ 32) (few-r : length roles ≤ 32) where
  -- one more of any kind
  picture_more : (declared : List Text) (T : Tables) (cs : List Constrained) → Pictured methods roles declared T cs →
      T.declared ≡ length declared → Begins declared roles → (k : Kind) (t : Text) → may_follow T.stage k ≡ true → name_fits (record_with k t) ≡ true →
      Begins (field_add k T t).methods methods → Begins (field_add k T t).roles roles →
      Pictured methods roles (cond (is_kind Role (record_with k t)) (declared ++ t ∷ []) declared) (field_add k T t) (adds cs (record_with k t))
  unfolding field_add adds name_fits
  picture_more declared T cs P counted first Role t p n bm br = at_role methods roles declared T cs P t (P.shaped.role p)
  picture_more declared T cs P counted first Constraint t p n bm br = at_constraint methods roles declared T cs P t
  picture_more declared T cs P counted first Allow t p n bm br =
      at_allow methods roles declared T cs P t (P.shaped.allow p)
      (allowed methods roles declared T cs P once-r few-r counted first t br (P.shaped.allow p).at.last)
  picture_more declared T cs P counted first Collection t p n bm br = at_collection methods roles declared T cs P (P.shaped.collection p) t
  picture_more declared T cs P counted first Pattern t p n bm br = at_pattern methods roles declared T cs P (P.shaped.pattern p) t
  picture_more declared T cs P counted first Method t p n bm br =
      at_method_lem methods roles declared T cs P once-m few-m t (method_named t n) bm (P.shaped.method p)
  picture_more declared T cs P counted first Omit t p n bm br =
      at_omit methods roles declared T cs P once-m few-m t (method_named t n) bm (P.shaped.omit p)
  picture_more declared T cs P counted first End t p n bm br = at_end methods roles declared T cs P t

  -- the names before begin with those before
  methods_before : (T : Tables) (k : Kind) (t : Text) → Begins (field_add k T t).methods methods → Begins T.methods methods
  unfolding field_add
  methods_before T k t =
      elim k as (λ (k : Kind). Begins (field_add k T t).methods methods → Begins T.methods methods) [
        | Role ↦ λ b. b
        | Constraint ↦ λ b. b
        | Allow ↦ λ b. b
        | Collection ↦ λ b. b
        | Pattern ↦ λ b. b
        | Method ↦ begins_indexed t T.methods methods
        | Omit ↦ begins_indexed t T.methods methods
        | End ↦ λ b. b
      ]

  roles_before : (T : Tables) (k : Kind) (t : Text) → Begins (field_add k T t).roles roles → Begins T.roles roles
  unfolding field_add
  roles_before T k t =
      elim k as (λ (k : Kind). Begins (field_add k T t).roles roles → Begins T.roles roles) [
        | Role ↦ begins_front T.roles (t ∷ []) roles
        | Constraint ↦ λ b. b
        | Allow ↦ star (is_star t)
        | Collection ↦ λ b. b
        | Pattern ↦ λ b. b
        | Method ↦ λ b. b
        | Omit ↦ λ b. b
        | End ↦ λ b. b
      ]
    where
      star : (s : Bool) → Begins (cond s T.roles (indexed t T.roles)) roles → Begins T.roles roles
      star true b = b
      star false b = begins_indexed t T.roles roles b

  Drawn : List Record → Type 0
  Drawn rs = Pictured methods roles (declared_in rs) (tables_of rs) (constraints_in rs)

  -- none
  picture_none : Drawn []
  unfolding Drawn tables_of constraints_in run declared_in fields_where flat_map numbers
  picture_none = record { shaped = shaped_at AfterFirst [] refl; covers = refl; allows = refl; accesses = refl; patterns = refl; owners = refl; parents = refl }

  -- one more
  picture_snoc : (before : List Record) (r : Record) → Kept before (tables_of before) → Passes before r →
      (Begins (tables_of before).methods methods → Begins (tables_of before).roles roles → Drawn before) →
      Begins (tables_of (before ++ r ∷ [])).methods methods → Begins (tables_of (before ++ r ∷ [])).roles roles → Drawn (before ++ r ∷ [])
  unfolding Drawn
  picture_snoc before r K p drawn bm br =
      let m = rw (tables_snoc before r) at bm in
      let n = rw (tables_snoc before r) at br in
      let b = roles_before (tables_of before) r.kind r.field n in
      rw (tables_snoc before r, declared_snoc before r, constraints_snoc before r)
      (picture_more (declared_in before) (tables_of before) (constraints_in before)
      (drawn (methods_before (tables_of before) r.kind r.field m) b)
      K.declared (begins_front (declared_in before) K.first.0 roles (rw K.first.1 at b))
      r.kind r.field (rw K.stage p.stage) p.name m n)

  picture : (rs : List Record) → Sound rs → Begins (tables_of rs).methods methods → Begins (tables_of rs).roles roles → Drawn rs
  picture rs sound_none bm br = picture_none
  picture rs (sound_more before r s p) bm br = picture_snoc before r (kept before s) p (λ m n. picture before s m n) bm br

-- the tables of sound records picture their constraints
pub pictured : (rs : List Record) → Sound rs → Pictured (methods_in rs) (roles_in rs) (declared_in rs) (tables_of rs) (constraints_in rs)
unfolding Drawn roles_in methods_in
pictured rs s =
    let K = kept rs s in
    let F = sound_few rs s in
    picture (methods_in rs) (roles_in rs) (once_distinct (fields_where names_method rs)) (once_distinct (fields_where names_role rs))
    (omega (arith, F.methods)) F.roles rs s
    ([], sym K.methods ∙ sym (append-nil (tables_of rs).methods)) ([], sym K.roles ∙ sym (append-nil (tables_of rs).roles))
