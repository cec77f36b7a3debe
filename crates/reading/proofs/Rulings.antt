-- `pattern` line by `pattern` line, the tables of sound records say what the listing says.
use mathlib.Core.Path.{◌≡◌, refl, sym, ap, ap₂, ◌∙◌}
use mathlib.Core.Bool.{Bool, true, false, not, cond, ◌&&◌}
use mathlib.Core.List.{List, [], ◌∷◌, map, flat_map, map-id, map-map}
use Prim.Native.Nat.{ℕ, zero, suc, ◌≤◌, ◌<◌}
use native.Mathlib.Omega.{arith}
use lib.ListN.{length, get_or, length-map, get_or-map}
use Rattle.text.specs.Texts.{Text}
use Rattle.listings.specs.Records.{Record}
use Rattle.listings.specs.Listings.{Collected, Constrained, Listing, PatternLine, is_empty, closes, lines_in_collection, lines_in_constraint, pattern_lines_of, listing_in, patterns_of}
use Rattle.reading.specs.Views.{texts, cover_at, access_at, cover_set, admit_set, access_of, view_of, counted, access_by, view_in}
use Rattle.entries.specs.Tables.{Tables, tables_of}
use Rattle.reading.specs.declared.held.Access.{Access}
use Rattle.reading.specs.declared.held.Access.TheVariants.{Open, Closed, ByRole}
use Rattle.listings.proofs.Sound.{Sound}
use Rattle.reading.proofs.Keeping.{kept}
use Rattle.reading.proofs.Numberings.{flat_map_lem, flat_flat, flat_same, numbers, numbers_length, numbers_bound, looked_up}
use Rattle.reading.proofs.Viewings.{texts_of_lem, cover_of, access_of_lem, texts_in, cover_in_lem, access_in_lem, view_same}
use Rattle.reading.proofs.Pictures.{collections_of, patterns_in, access_number_of, pictured}

-- ---- the rules of a listing
-- an image of the rules, by constraint and collection
rules_map : {B : Type 0} (h : PatternLine → B) (l : Listing) → map h (pattern_lines_of l)
    ≡ flat_map (λ (k : Constrained). flat_map (λ (c : Collected).
    map (λ (t : Text). h (record { text = t; collection = c; constraint = k })) c.patterns) k.collections) l.constraints
unfolding pattern_lines_of
rules_map h l =
    flat_map_lem lines_in_constraint h l.constraints
    ∙ flat_same _ _ l.constraints (λ k.
    flat_map_lem (lines_in_collection k) h k.collections
    ∙ flat_same _ _ k.collections (λ c. map-map h (λ (t : Text). record { text = t; collection = c; constraint = k }) c.patterns))

module _ (l : Listing) where
  -- their texts
  rules_text : patterns_of l ≡ flat_map (λ (c : Collected). c.patterns) (collections_of l.constraints)
  unfolding patterns_of
  rules_text =
      rules_map (λ (r : PatternLine). r.text) l
      ∙ flat_same _ _ l.constraints (λ k. flat_same _ _ k.collections (λ c. map-id c.patterns))
      ∙ sym (flat_flat (λ (k : Constrained). k.collections) (λ (c : Collected). c.patterns) l.constraints)

  -- what hangs on their collections
  rules_collection : {B : Type 0} (h : Collected → B) →
      map (λ (r : PatternLine). h r.collection) (pattern_lines_of l) ≡ flat_map (λ (c : Collected). map (λ (t : Text). h c) c.patterns) (collections_of l.constraints)
  rules_collection h =
      rules_map (λ (r : PatternLine). h r.collection) l
      ∙ sym (flat_flat (λ (k : Constrained). k.collections) (λ (c : Collected). map (λ (t : Text). h c) c.patterns) l.constraints)

  -- and on their constraints
  rules_constraint : {B : Type 0} (h : Constrained → B) →
      map (λ (r : PatternLine). h r.constraint) (pattern_lines_of l) ≡ flat_map (λ (k : Constrained). map (λ (t : Text). h k) (patterns_in k)) l.constraints
  rules_constraint h =
      rules_map (λ (r : PatternLine). h r.constraint) l
      ∙ flat_same _ _ l.constraints (λ k. sym (flat_map_lem (λ (c : Collected). c.patterns) (λ (t : Text). h k) k.collections))

-- ---- numbers looked up
-- at index k
looked_at : {A : Type 0} (p : A → List Text) (g : A → ℕ) (xs : List A) (k : ℕ) →
    get_or (0 ∷ map g xs) (get_or (numbers 1 (map p xs)) k 0) 0 ≡ get_or (flat_map (λ (x : A). map (λ (t : Text). g x) (p x)) xs) k 0
looked_at p g xs k =
    sym (get_or-map (λ (n : ℕ). get_or (0 ∷ map g xs) n 0) (numbers 1 (map p xs)) k 0)
    ∙ ap (λ (l : List ℕ). get_or l k 0) (looked_up p g 0 xs)

-- each number has its index
bounded : {A : Type 0} (p : A → List Text) (g : A → ℕ) (xs : List A) (ns ys : List ℕ) (k : ℕ) → ns ≡ numbers 1 (map p xs) → ys ≡ map g xs → k < length ns →
    (1 ≤ get_or ns k 0) × (get_or ns k 0 ≤ length ys)
bounded p g xs ns ys k e f h =
    let b = numbers_bound 1 (map p xs) k (rw e at h) in
    rw (e, f) (b.0, omega (arith, b.1, length-map xs p, length-map xs g))

-- two images and a third made of them
both_at : {A : Type 0} (f g : A → ℕ) (h : A → Access) → ((x : A) → access_by (f x) (g x) ≡ h x) → (xs : List A) (k : ℕ) →
    access_by (get_or (map f xs) k 0) (get_or (map g xs) k 0) ≡ get_or (map h xs) k Open
both_at f g h e [] k = refl
both_at f g h e (x ∷ xs) zero = e x
both_at f g h e (x ∷ xs) (suc k) = both_at f g h e xs k

-- the number of a constraint's access and its set say what it says
access_by_lem : (l : Listing) (k : Constrained) → access_by (access_number_of k) (admit_set l k) ≡ access_of l k
unfolding access_of closes
access_by_lem l k = go k.is_open (is_empty k.allowed)
  where
    go : (a b : Bool) → access_by (cond a 0 (cond b 1 2)) (admit_set l k) ≡ cond a Open (cond (not a && b) Closed (ByRole (admit_set l k)))
    go true b = refl
    go false true = refl
    go false false = refl

-- ---- all of it
pub record Pictures (T : Tables) (l : Listing) : Type 0 where
  pub roles : T.roles ≡ l.roles
  pub methods : T.methods ≡ l.methods
  pub patterns : T.patterns ≡ patterns_of l
  -- for each pattern the number of its collection and of its constraint, from 1
  pub owners : length T.owners ≡ length (patterns_of l)
  pub parents : length T.parents ≡ length (patterns_of l)
  pub owner : (k : ℕ) → k < length (patterns_of l) → (1 ≤ get_or T.owners k 0) × (get_or T.owners k 0 ≤ length T.covers)
  pub parent : (k : ℕ) → k < length (patterns_of l) → (1 ≤ get_or T.parents k 0) × (get_or T.parents k 0 ≤ length T.accesses)
  -- what they say, line by line
  pub view : view_in T ≡ view_of l

module _ (rs : List Record) (s : Sound rs) where
  -- ---- the lists of the tables, by the listing
  listed_covers : (tables_of rs).covers ≡ map (cover_set (listing_in rs)) (collections_of (listing_in rs).constraints)
  unfolding listing_in cover_set
  listed_covers = (pictured rs s).covers

  listed_allows : (tables_of rs).allows ≡ map (admit_set (listing_in rs)) (listing_in rs).constraints
  unfolding listing_in admit_set
  listed_allows = (pictured rs s).allows

  listed_accesses : (tables_of rs).accesses ≡ map access_number_of (listing_in rs).constraints
  unfolding listing_in
  listed_accesses = (pictured rs s).accesses

  listed_patterns : (tables_of rs).patterns ≡ patterns_of (listing_in rs)
  unfolding listing_in
  listed_patterns = (pictured rs s).patterns ∙ sym (rules_text (listing_in rs))

  listed_owners : (tables_of rs).owners ≡ numbers 1 (map (λ (c : Collected). c.patterns) (collections_of (listing_in rs).constraints))
  unfolding listing_in
  listed_owners = (pictured rs s).owners

  listed_parents : (tables_of rs).parents ≡ numbers 1 (map patterns_in (listing_in rs).constraints)
  unfolding listing_in
  listed_parents = (pictured rs s).parents

  listed_roles : (tables_of rs).roles ≡ (listing_in rs).roles
  unfolding listing_in
  listed_roles = (kept rs s).roles

  listed_methods : (tables_of rs).methods ≡ (listing_in rs).methods
  unfolding listing_in
  listed_methods = (kept rs s).methods

  -- ---- what they say
  owner_count : length (tables_of rs).owners ≡ length (patterns_of (listing_in rs))
  owner_count =
      rw listed_owners
      (numbers_length (λ (c : Collected). c.patterns) 1 (collections_of (listing_in rs).constraints) ∙ ap length (sym (rules_text (listing_in rs))))

  parent_count : length (tables_of rs).parents ≡ length (patterns_of (listing_in rs))
  parent_count =
      rw listed_parents
      (numbers_length patterns_in 1 (listing_in rs).constraints
      ∙ ap length (sym (rules_text (listing_in rs) ∙ flat_flat (λ (k : Constrained). k.collections) (λ (c : Collected). c.patterns) (listing_in rs).constraints)))

  owner_bound : (k : ℕ) → k < length (patterns_of (listing_in rs)) →
      (1 ≤ get_or (tables_of rs).owners k 0) × (get_or (tables_of rs).owners k 0 ≤ length (tables_of rs).covers)
  owner_bound k h = bounded (λ (c : Collected). c.patterns) (cover_set (listing_in rs)) (collections_of (listing_in rs).constraints)
      (tables_of rs).owners (tables_of rs).covers k listed_owners listed_covers (omega (arith, owner_count))

  parent_bound : (k : ℕ) → k < length (patterns_of (listing_in rs)) →
      (1 ≤ get_or (tables_of rs).parents k 0) × (get_or (tables_of rs).parents k 0 ≤ length (tables_of rs).accesses)
  parent_bound k h =
      bounded patterns_in access_number_of (listing_in rs).constraints (tables_of rs).parents (tables_of rs).accesses k listed_parents listed_accesses (omega (arith, parent_count))

  cover_at_lem : (k : ℕ) → counted (tables_of rs).covers (get_or (tables_of rs).owners k 0) ≡ cover_at (view_of (listing_in rs)) k
  cover_at_lem k =
      rw (listed_covers, listed_owners)
      (looked_at (λ (c : Collected). c.patterns) (cover_set (listing_in rs)) (collections_of (listing_in rs).constraints) k
      ∙ ap (λ (xs : List ℕ). get_or xs k 0) (sym (rules_collection (listing_in rs) (cover_set (listing_in rs)))))
      ∙ sym (cover_of (listing_in rs) k)

  access_at_lem : (k : ℕ) →
      access_by (counted (tables_of rs).accesses (get_or (tables_of rs).parents k 0)) (counted (tables_of rs).allows (get_or (tables_of rs).parents k 0))
      ≡ access_at (view_of (listing_in rs)) k
  access_at_lem k =
      ap₂ access_by (on_constraints access_number_of (tables_of rs).accesses listed_accesses) (on_constraints (admit_set (listing_in rs)) (tables_of rs).allows listed_allows)
      ∙ both_at (λ (r : PatternLine). access_number_of r.constraint) (λ (r : PatternLine). admit_set (listing_in rs) r.constraint)
      (λ (r : PatternLine). access_of (listing_in rs) r.constraint)
      (λ r. access_by_lem (listing_in rs) r.constraint) (pattern_lines_of (listing_in rs)) k
      ∙ sym (access_of_lem (listing_in rs) k)
    where
      on_constraints : (g : Constrained → ℕ) (xs : List ℕ) → xs ≡ map g (listing_in rs).constraints →
          get_or (0 ∷ xs) (get_or (tables_of rs).parents k 0) 0 ≡ get_or (map (λ (r : PatternLine). g r.constraint) (pattern_lines_of (listing_in rs))) k 0
      on_constraints g xs e =
          rw (e, listed_parents)
          (looked_at patterns_in g (listing_in rs).constraints k ∙ ap (λ (ys : List ℕ). get_or ys k 0) (sym (rules_constraint (listing_in rs) g)))

  -- line k of the view is one of the tables
  here : (k : ℕ) → k < length (texts (view_of (listing_in rs))) → k < length (tables_of rs).patterns
  here k h = omega (arith, ap length (texts_of_lem (listing_in rs)), ap length listed_patterns)

  view_at_lem : view_in (tables_of rs) ≡ view_of (listing_in rs)
  unfolding view_in view_of
  view_at_lem =
      view_same (view_in (tables_of rs)) (view_of (listing_in rs))
      (texts_in (tables_of rs) ∙ listed_patterns ∙ sym (texts_of_lem (listing_in rs)))
      (λ k h. cover_in_lem (tables_of rs) k (here k h) ∙ cover_at_lem k)
      (λ k h. access_in_lem (tables_of rs) k (here k h) ∙ access_at_lem k)
      listed_roles
      listed_methods

  pub pictures : Pictures (tables_of rs) (listing_in rs)
  pictures = record {
    roles = listed_roles;
    methods = listed_methods;
    patterns = listed_patterns;
    owners = owner_count;
    parents = parent_count;
    owner = owner_bound;
    parent = parent_bound;
    view = view_at_lem;
  }
