-- Views: the view of a listing in terms of the listing, the view of tables in terms of the tables, and when two views are the same.
use mathlib.Core.Path.{◌≡◌, refl, sym, ap, ◌∙◌}
use mathlib.Core.List.{List, [], ◌∷◌, map, map-map}
use Prim.Native.Nat.{ℕ, zero, suc, ◌<◌}
use native.Mathlib.Omega.{arith}
use lib.ListN.{length, drop, get_or, length-map}
use Rattle.text.specs.Texts.{Text}
use Rattle.listings.specs.Listings.{Listing, PatternLine, pattern_lines_of, patterns_of}
use Rattle.entries.specs.Tables.{Tables}
use Rattle.reading.specs.Views.{ViewLine, View, texts, cover_at, access_at, cover_set, access_of, view_of, counted, access_by, lines_in, view_in}
use Rattle.reading.specs.declared.held.Access.{Access}
use Rattle.reading.specs.declared.held.Access.TheVariants.{Open}

-- each line has its text
pub view_texts_length : (v : View) → length (texts v) ≡ length v.lines
unfolding texts
view_texts_length v = length-map v.lines (λ (x : ViewLine). x.text)

-- ---- the view of a listing
module _ (l : Listing) where
  abbrev line_of : PatternLine → ViewLine
  line_of r = record { text = r.text; cover = cover_set l r.collection; access = access_of l r.constraint }

  pub texts_of_lem : texts (view_of l) ≡ patterns_of l
  unfolding texts view_of patterns_of
  texts_of_lem = map-map (λ (x : ViewLine). x.text) line_of (pattern_lines_of l)

  pub view_lines_length : length (view_of l).lines ≡ length (patterns_of l)
  view_lines_length = sym (view_texts_length (view_of l)) ∙ ap length texts_of_lem

  -- as many as the listing has `pattern` lines
  pub view_lines : length (view_of l).lines ≡ length (pattern_lines_of l)
  unfolding view_of
  view_lines = length-map (pattern_lines_of l) line_of

  pub roles_of_lem : (view_of l).roles ≡ l.roles
  unfolding view_of
  roles_of_lem = refl

  pub methods_of : (view_of l).methods ≡ l.methods
  unfolding view_of
  methods_of = refl

  pub cover_of : (k : ℕ) → cover_at (view_of l) k ≡ get_or (map (λ (r : PatternLine). cover_set l r.collection) (pattern_lines_of l)) k 0
  unfolding cover_at view_of
  cover_of k = ap (λ (xs : List ℕ). get_or xs k 0) (map-map (λ (x : ViewLine). x.cover) line_of (pattern_lines_of l))

  pub access_of_lem : (k : ℕ) → access_at (view_of l) k ≡ get_or (map (λ (r : PatternLine). access_of l r.constraint) (pattern_lines_of l)) k Open
  unfolding access_at view_of
  access_of_lem k = ap (λ (xs : List Access). get_or xs k Open) (map-map (λ (x : ViewLine). x.access) line_of (pattern_lines_of l))

-- ---- the view of tables
behind : (xs : List ℕ) (k : ℕ) → get_or (drop 1 xs) k 0 ≡ get_or xs (suc k) 0
behind [] k = refl
behind (x ∷ xs) k = refl

module _ (T : Tables) where
  lines_texts : (ts : List Text) (cs ks : List ℕ) → map (λ (x : ViewLine). x.text) (lines_in T ts cs ks) ≡ ts
  unfolding lines_in
  lines_texts [] cs ks = refl
  lines_texts (t ∷ ts) cs ks = ap (λ (us : List Text). t ∷ us) (lines_texts ts (drop 1 cs) (drop 1 ks))

  lines_cover : (ts : List Text) (cs ks : List ℕ) (k : ℕ) → k < length ts → get_or (map (λ (x : ViewLine). x.cover) (lines_in T ts cs ks)) k 0 ≡ counted T.covers (get_or cs k 0)
  unfolding lines_in
  lines_cover [] cs ks k h = absurd (omega arith)
  lines_cover (t ∷ ts) cs ks zero h = refl
  lines_cover (t ∷ ts) cs ks (suc k) h = lines_cover ts (drop 1 cs) (drop 1 ks) k (omega arith) ∙ ap (counted T.covers) (behind cs k)

  abbrev says : ℕ → Access
  says n = access_by (counted T.accesses n) (counted T.allows n)

  lines_access : (ts : List Text) (cs ks : List ℕ) (k : ℕ) → k < length ts → get_or (map (λ (x : ViewLine). x.access) (lines_in T ts cs ks)) k Open ≡ says (get_or ks k 0)
  unfolding lines_in
  lines_access [] cs ks k h = absurd (omega arith)
  lines_access (t ∷ ts) cs ks zero h = refl
  lines_access (t ∷ ts) cs ks (suc k) h = lines_access ts (drop 1 cs) (drop 1 ks) k (omega arith) ∙ ap says (behind ks k)

  pub texts_in : texts (view_in T) ≡ T.patterns
  unfolding texts view_in
  texts_in = lines_texts T.patterns T.owners T.parents

  pub cover_in_lem : (k : ℕ) → k < length T.patterns → cover_at (view_in T) k ≡ counted T.covers (get_or T.owners k 0)
  unfolding cover_at view_in
  cover_in_lem = lines_cover T.patterns T.owners T.parents

  pub access_in_lem : (k : ℕ) → k < length T.patterns
      → access_at (view_in T) k ≡ access_by (counted T.accesses (get_or T.parents k 0)) (counted T.allows (get_or T.parents k 0))
  unfolding access_at view_in
  access_in_lem = lines_access T.patterns T.owners T.parents

-- ---- two views are the same where they say the same
lines_same : (xs ys : List ViewLine) → map (λ (x : ViewLine). x.text) xs ≡ map (λ (x : ViewLine). x.text) ys
    → ((k : ℕ) → k < length ys → get_or (map (λ (x : ViewLine). x.cover) xs) k 0 ≡ get_or (map (λ (x : ViewLine). x.cover) ys) k 0)
    → ((k : ℕ) → k < length ys → get_or (map (λ (x : ViewLine). x.access) xs) k Open ≡ get_or (map (λ (x : ViewLine). x.access) ys) k Open)
    → xs ≡ ys
lines_same [] [] e c a = refl
lines_same [] (y ∷ ys) e c a = absurd (let z : ◌≡◌ {A = ℕ} 0 (suc (length (map (λ (x : ViewLine). x.text) ys))) = ap length e in omega arith)
lines_same (x ∷ xs) [] e c a = absurd (let z : ◌≡◌ {A = ℕ} (suc (length (map (λ (x : ViewLine). x.text) xs))) 0 = ap length e in omega arith)
lines_same (x ∷ xs) (y ∷ ys) e c a =
    let t : x.text ≡ y.text = ap (λ (l : List Text). get_or l 0 []) e in
    let c₀ : x.cover ≡ y.cover = c 0 (omega arith) in
    let a₀ : x.access ≡ y.access = a 0 (omega arith) in
    let r : xs ≡ ys = lines_same xs ys (ap (drop 1) e) (λ k h. c (suc k) (omega arith)) (λ k h. a (suc k) (omega arith)) in
    λ i. record { text = t i; cover = c₀ i; access = a₀ i } ∷ r i

pub view_same : (v u : View) → texts v ≡ texts u → ((k : ℕ) → k < length (texts u) → cover_at v k ≡ cover_at u k) → ((k : ℕ) → k < length (texts u) → access_at v k ≡ access_at u k)
    → v.roles ≡ u.roles → v.methods ≡ u.methods → v ≡ u
unfolding texts cover_at access_at
view_same v u e c a r m =
    let ls : v.lines ≡ u.lines = lines_same v.lines u.lines e (λ k h. c k (omega (arith, view_texts_length u))) (λ k h. a k (omega (arith, view_texts_length u))) in
    λ i. record { lines = ls i; roles = r i; methods = m i }
