-- How the tables grow with the numbers of the work table: one law for each record, over the writes that the code makes for it.
use mathlib.Core.Path.{◌≡◌, sym, ap, ap₂, ◌∙◌}
use mathlib.Core.Bool.{Bool, true, false, cond}
use mathlib.Core.List.{List, [], ◌∷◌, ◌++◌}
use Prim.Native.Nat.{ℕ, ◌+◌, ◌-◌, ◌^◌, ◌≤◌, ◌<◌}
use native.Mathlib.Omega.{arith}
use lib.ListN.{length, set, get_or, length-set}
use lib.Bits.{bit_or, or_zero_l}
use Rattle.text.specs.Texts.{Text, bytes, same, on_last, part, index_of}
use Rattle.listings.specs.Heads.{is_first_method}
use Rattle.entries.specs.Tables.{Tables, Fits, packed, tables_at, region, texts_at, indexed, add_allow_to, add_method_to, add_role, add_constraint, add_allow, add_collection, add_pattern, add_method, add_omit, spanned, spans_at}
use Rattle.names.specs.Names.{is_star}
use Rattle.entries.specs.Sets.{with_member, without_member, lowest}
use Rattle.listings.specs.declared.records.Stage.{Stage}
use Rattle.listings.specs.declared.records.Stage.TheVariants.{AfterOpen, AfterAuth, AfterAllow, AfterMethod, AfterOmit}
use Rattle.entries.specs.Tallies.{tally_at, tally_role, tally_constraint, tally_allowed, tally_collection, tally_pattern, tally_line, tally_method}
use Rattle.entries.specs.declared.tables.Tally.{Tally}
use Rattle.entries.proofs.Regions.{text_part, texts_append, texts_length, region_length, region_apart, region_append, region_last, on_last_same, indexed_known, indexed_new, span_part, spans_append, spans_length}
use Rattle.text.proofs.Indices.{index_bound}

-- ---- tables with one list changed
abbrev with_roles : Tables → List Text → Tables
with_roles T x =
    record { stage = T.stage; lines = T.lines; declared = T.declared; roles = x; methods = T.methods; patterns = T.patterns; owners = T.owners; parents = T.parents; covers = T.covers; allows = T.allows; accesses = T.accesses }

abbrev with_methods : Tables → List Text → Tables
with_methods T x =
    record { stage = T.stage; lines = T.lines; declared = T.declared; roles = T.roles; methods = x; patterns = T.patterns; owners = T.owners; parents = T.parents; covers = T.covers; allows = T.allows; accesses = T.accesses }

abbrev with_patterns : Tables → List Text → Tables
with_patterns T x =
    record { stage = T.stage; lines = T.lines; declared = T.declared; roles = T.roles; methods = T.methods; patterns = x; owners = T.owners; parents = T.parents; covers = T.covers; allows = T.allows; accesses = T.accesses }

abbrev with_owners : Tables → List ℕ → Tables
with_owners T x =
    record { stage = T.stage; lines = T.lines; declared = T.declared; roles = T.roles; methods = T.methods; patterns = T.patterns; owners = x; parents = T.parents; covers = T.covers; allows = T.allows; accesses = T.accesses }

abbrev with_parents : Tables → List ℕ → Tables
with_parents T x =
    record { stage = T.stage; lines = T.lines; declared = T.declared; roles = T.roles; methods = T.methods; patterns = T.patterns; owners = T.owners; parents = x; covers = T.covers; allows = T.allows; accesses = T.accesses }

abbrev with_covers : Tables → List ℕ → Tables
with_covers T x =
    record { stage = T.stage; lines = T.lines; declared = T.declared; roles = T.roles; methods = T.methods; patterns = T.patterns; owners = T.owners; parents = T.parents; covers = x; allows = T.allows; accesses = T.accesses }

abbrev with_allows : Tables → List ℕ → Tables
with_allows T x =
    record { stage = T.stage; lines = T.lines; declared = T.declared; roles = T.roles; methods = T.methods; patterns = T.patterns; owners = T.owners; parents = T.parents; covers = T.covers; allows = x; accesses = T.accesses }

abbrev with_accesses : Tables → List ℕ → Tables
with_accesses T x =
    record { stage = T.stage; lines = T.lines; declared = T.declared; roles = T.roles; methods = T.methods; patterns = T.patterns; owners = T.owners; parents = T.parents; covers = T.covers; allows = T.allows; accesses = x }

-- tables with one `method` or `omit` line more: m, at stage p, and with the last collection's set changed by g
abbrev lined : Tables → Text → Stage → (ℕ → ℕ) → Tables
lined T m p g =
    record { stage = p; lines = T.lines + 1; declared = T.declared; roles = T.roles; methods = indexed m T.methods; patterns = T.patterns; owners = T.owners; parents = T.parents; covers = on_last g T.covers; allows = T.allows; accesses = T.accesses }

-- ---- how many of each list there are
module _ (s : Text) (t : Tally) (w : List ℕ) (f : Fits s t w) where
  pub count_roles : length (tables_at s t w).roles ≡ t.roles
  unfolding tables_at
  count_roles = texts_length s (region w 0 t.roles) ∙ region_length w 0 t.roles (omega arith)

  pub count_methods : length (tables_at s t w).methods ≡ t.methods
  unfolding tables_at
  count_methods = texts_length s (region w 32 t.methods) ∙ region_length w 32 t.methods (omega arith)

  pub count_patterns : length (tables_at s t w).patterns ≡ t.patterns
  unfolding tables_at
  count_patterns = spans_length s (region w 64 t.patterns) ∙ region_length w 64 t.patterns (omega arith)

  pub count_covers : length (tables_at s t w).covers ≡ t.collections
  unfolding tables_at
  count_covers = region_length w 449 t.collections (omega arith)

  pub count_accesses : length (tables_at s t w).accesses ≡ t.constraints
  unfolding tables_at
  count_accesses = region_length w 651 t.constraints (omega arith)

-- ---- a write in the room of one list leaves the others
module _ (s : Text) (t : Tally) (w : List ℕ) (f : Fits s t w) (j x : ℕ) where
  in_roles : j < 32 → tables_at s t (set w j x) ≡ with_roles (tables_at s t w) (texts_at s (region (set w j x) 0 t.roles))
  unfolding tables_at
  in_roles h =
      rw (
        region_apart w 32 t.methods j x (omega arith),
        region_apart w 64 t.patterns j x (omega arith),
        region_apart w 192 t.patterns j x (omega arith),
        region_apart w 320 t.patterns j x (omega arith),
        region_apart w 449 t.collections j x (omega arith),
        region_apart w 581 t.constraints j x (omega arith),
        region_apart w 651 t.constraints j x (omega arith),
      )

  in_methods_lem : 32 ≤ j → j < 64 → tables_at s t (set w j x) ≡ with_methods (tables_at s t w) (texts_at s (region (set w j x) 32 t.methods))
  unfolding tables_at
  in_methods_lem l h =
      rw (
        region_apart w 0 t.roles j x (omega arith),
        region_apart w 64 t.patterns j x (omega arith),
        region_apart w 192 t.patterns j x (omega arith),
        region_apart w 320 t.patterns j x (omega arith),
        region_apart w 449 t.collections j x (omega arith),
        region_apart w 581 t.constraints j x (omega arith),
        region_apart w 651 t.constraints j x (omega arith),
      )

  in_patterns : 64 ≤ j → j < 192 → tables_at s t (set w j x) ≡ with_patterns (tables_at s t w) (spans_at s (region (set w j x) 64 t.patterns))
  unfolding tables_at
  in_patterns l h =
      rw (
        region_apart w 0 t.roles j x (omega arith),
        region_apart w 32 t.methods j x (omega arith),
        region_apart w 192 t.patterns j x (omega arith),
        region_apart w 320 t.patterns j x (omega arith),
        region_apart w 449 t.collections j x (omega arith),
        region_apart w 581 t.constraints j x (omega arith),
        region_apart w 651 t.constraints j x (omega arith),
      )

  in_owners : 192 ≤ j → j < 320 → tables_at s t (set w j x) ≡ with_owners (tables_at s t w) (region (set w j x) 192 t.patterns)
  unfolding tables_at
  in_owners l h =
      rw (
        region_apart w 0 t.roles j x (omega arith),
        region_apart w 32 t.methods j x (omega arith),
        region_apart w 64 t.patterns j x (omega arith),
        region_apart w 320 t.patterns j x (omega arith),
        region_apart w 449 t.collections j x (omega arith),
        region_apart w 581 t.constraints j x (omega arith),
        region_apart w 651 t.constraints j x (omega arith),
      )

  in_parents : 320 ≤ j → j < 448 → tables_at s t (set w j x) ≡ with_parents (tables_at s t w) (region (set w j x) 320 t.patterns)
  unfolding tables_at
  in_parents l h =
      rw (
        region_apart w 0 t.roles j x (omega arith),
        region_apart w 32 t.methods j x (omega arith),
        region_apart w 64 t.patterns j x (omega arith),
        region_apart w 192 t.patterns j x (omega arith),
        region_apart w 449 t.collections j x (omega arith),
        region_apart w 581 t.constraints j x (omega arith),
        region_apart w 651 t.constraints j x (omega arith),
      )

  in_covers : 448 ≤ j → j < 580 → tables_at s t (set w j x) ≡ with_covers (tables_at s t w) (region (set w j x) 449 t.collections)
  unfolding tables_at
  in_covers l h =
      rw (
        region_apart w 0 t.roles j x (omega arith),
        region_apart w 32 t.methods j x (omega arith),
        region_apart w 64 t.patterns j x (omega arith),
        region_apart w 192 t.patterns j x (omega arith),
        region_apart w 320 t.patterns j x (omega arith),
        region_apart w 581 t.constraints j x (omega arith),
        region_apart w 651 t.constraints j x (omega arith),
      )

  in_allows : 580 ≤ j → j < 650 → tables_at s t (set w j x) ≡ with_allows (tables_at s t w) (region (set w j x) 581 t.constraints)
  unfolding tables_at
  in_allows l h =
      rw (
        region_apart w 0 t.roles j x (omega arith),
        region_apart w 32 t.methods j x (omega arith),
        region_apart w 64 t.patterns j x (omega arith),
        region_apart w 192 t.patterns j x (omega arith),
        region_apart w 320 t.patterns j x (omega arith),
        region_apart w 449 t.collections j x (omega arith),
        region_apart w 651 t.constraints j x (omega arith),
      )

  in_accesses : 650 ≤ j → j < 720 → tables_at s t (set w j x) ≡ with_accesses (tables_at s t w) (region (set w j x) 651 t.constraints)
  unfolding tables_at
  in_accesses l h =
      rw (
        region_apart w 0 t.roles j x (omega arith),
        region_apart w 32 t.methods j x (omega arith),
        region_apart w 64 t.patterns j x (omega arith),
        region_apart w 192 t.patterns j x (omega arith),
        region_apart w 320 t.patterns j x (omega arith),
        region_apart w 449 t.collections j x (omega arith),
        region_apart w 581 t.constraints j x (omega arith),
      )

-- ---- what the writes of each record make of the tables
-- one more name, in the room for texts from `base` on
named : (s : Text) (w : List ℕ) (base n a e : ℕ) → base + n < length w → a ≤ e → e ≤ length s → e - a < 256
    → texts_at s (region (set w (base + n) (packed s a e)) base (n + 1)) ≡ texts_at s (region w base n) ++ part a e s ∷ []
named s w base n a e h l k m =
    ap (texts_at s) (region_append w base n (packed s a e) h)
    ∙ texts_append s (region w base n) (packed s a e)
    ∙ ap (λ (u : Text). texts_at s (region w base n) ++ u ∷ []) (text_part s a e l k m)

module _ (s : Text) (t : Tally) (w : List ℕ) (f : Fits s t w) where
  -- the last collection's set changed by g
  covered : (g : ℕ → ℕ) → tables_at s t (set w (448 + t.collections) (g (get_or w (448 + t.collections) 0)))
      ≡ with_covers (tables_at s t w) (on_last g (tables_at s t w).covers)
  unfolding tables_at
  covered g =
      in_covers s t w f (448 + t.collections) (g (get_or w (448 + t.collections) 0)) (omega arith) (omega arith)
      ∙ ap (with_covers (tables_at s t w)) (region_last w 448 t.collections g (omega arith))

  -- the last constraint allows the roles of the set y too
  allowed : (y : ℕ) → tables_at s t (set (set w (580 + t.constraints) (bit_or (get_or w (580 + t.constraints) 0) y)) (650 + t.constraints) 2)
      ≡ with_accesses (with_allows (tables_at s t w) (on_last (λ x. bit_or x y) (tables_at s t w).allows)) (on_last (λ x. 2) (tables_at s t w).accesses)
  unfolding tables_at
  allowed y =
      let c = t.constraints in
      let u = bit_or (get_or w (580 + c) 0) y in
      let v = set w (580 + c) u in
      let fv : Fits s t v = omega (arith, length-set w (580 + c) u) in
      in_accesses s t v fv (650 + c) 2 (omega arith) (omega arith)
      ∙ ap₂ with_accesses
      (in_allows s t w f (580 + c) u (omega arith) (omega arith)
      ∙ ap (with_allows (tables_at s t w)) (region_last w 580 c (λ x. bit_or x y) (omega arith)))
      (region_last v 650 c (λ x. 2) (omega (arith, length-set w (580 + c) u))
      ∙ ap (on_last (λ x. 2)) (region_apart w 651 c (580 + c) u (omega arith)))

-- the same where the counts are the table's own
module _ (s : Text) (t : Tally) (w : List ℕ) (f : Fits s t w) where
  pub collection_grown : (p : Text) → t.collections < 128
      → tables_at s (tally_collection t) (set w (448 + 1 + t.collections) 4294967295) ≡ add_collection (tables_at s t w) p
  unfolding tables_at
  collection_grown p h =
      in_covers s (tally_collection t) w (omega arith) (448 + 1 + t.collections) 4294967295 (omega arith) (omega arith)
      ∙ ap (with_covers (tables_at s (tally_collection t) w)) (region_append w 449 t.collections 4294967295 (omega arith))

  -- one more constraint, at stage p and with the access m
  begun : (p : Stage) (m : ℕ) → t.constraints < 64
      → tables_at s (tally_constraint t p) (set (set w (580 + 1 + t.constraints) 0) (650 + 1 + t.constraints) m)
      ≡ with_accesses (with_allows (tables_at s (tally_at t p) w) ((tables_at s t w).allows ++ 0 ∷ [])) ((tables_at s t w).accesses ++ m ∷ [])
  unfolding tables_at
  begun p m h =
      let c = t.constraints in
      let u = tally_constraint t p in
      let v = set w (580 + 1 + c) 0 in
      let fv : Fits s u v = omega (arith, length-set w (580 + 1 + c) 0) in
      in_accesses s u v fv (650 + 1 + c) m (omega arith) (omega arith)
      ∙ ap₂ with_accesses
      (in_allows s u w (omega arith) (580 + 1 + c) 0 (omega arith) (omega arith)
      ∙ ap (with_allows (tables_at s u w)) (region_append w 581 c 0 (omega arith)))
      (region_append v 651 c m (omega (arith, length-set w (580 + 1 + c) 0))
      ∙ ap (λ (l : List ℕ). l ++ m ∷ []) (region_apart w 651 c (580 + 1 + c) 0 (omega arith)))

  pub open_grown : (n : Text) → same n (bytes "open") ≡ true → t.constraints < 64
      → tables_at s (tally_constraint t AfterOpen) (set (set w (580 + 1 + t.constraints) 0) (650 + 1 + t.constraints) 0) ≡ add_constraint (tables_at s t w) n
  unfolding tables_at
  open_grown n y h = begun AfterOpen 0 h ∙ rw y

  pub auth_grown : (n : Text) → same n (bytes "open") ≡ false → t.constraints < 64
      → tables_at s (tally_constraint t AfterAuth) (set (set w (580 + 1 + t.constraints) 0) (650 + 1 + t.constraints) 1) ≡ add_constraint (tables_at s t w) n
  unfolding tables_at
  auth_grown n y h = begun AfterAuth 1 h ∙ rw y

  -- `allow⇥*`
  pub star_grown : (n : Text) → is_star n ≡ true
      → tables_at s (tally_at t AfterAllow)
      (set (set w (580 + t.constraints) (bit_or (get_or w (580 + t.constraints) 0) (lowest t.declared))) (650 + t.constraints) 2)
      ≡ add_allow (tables_at s t w) n
  unfolding tables_at
  star_grown n y =
      allowed s (tally_at t AfterAllow) w (omega arith) (lowest t.declared)
      ∙ rw (on_last_same (λ x. bit_or x (lowest t.declared)) (add_allow_to (tables_at s t w) n) (region w 581 t.constraints) (λ x. rw y), y)

  -- `allow⇥NAME`, of a role that is known, and of a new one
  module _ (n : Text) (o : is_star n ≡ false) (i : ℕ) (q : i ≡ index_of n (texts_at s (region w 0 t.roles))) where
    allow_set : (x : ℕ) → bit_or x (with_member 0 i) ≡ add_allow_to (tables_at s t w) n x
    unfolding tables_at
    allow_set x = rw (o, or_zero_l (2 ^ i), q)

    pub known_role_grown : i < t.roles
        → tables_at s (tally_at t AfterAllow)
        (set (set w (580 + t.constraints) (bit_or (get_or w (580 + t.constraints) 0) (with_member 0 i))) (650 + t.constraints) 2)
        ≡ add_allow (tables_at s t w) n
    unfolding tables_at
    known_role_grown h =
        let k : index_of n (tables_at s t w).roles < length (tables_at s t w).roles = omega (arith, count_roles s t w f) in
        allowed s (tally_at t AfterAllow) w (omega arith) (with_member 0 i)
        ∙ rw (on_last_same (λ x. bit_or x (with_member 0 i)) (add_allow_to (tables_at s t w) n) (region w 581 t.constraints) allow_set, o, indexed_known n _ k)

  -- a `method` or `omit` line whose method is known
  known_line : (m : Text) (p : Stage) (g : ℕ → ℕ) → t.lines < 512 → index_of m (tables_at s t w).methods < t.methods
      → tables_at s (tally_line t p) (set w (448 + t.collections) (g (get_or w (448 + t.collections) 0))) ≡ lined (tables_at s t w) m p g
  unfolding tables_at
  known_line m p g l h =
      let k : index_of m (tables_at s t w).methods < length (tables_at s t w).methods = omega (arith, count_methods s t w f) in
      covered s (tally_line t p) w (omega arith) g ∙ rw (indexed_known m _ k)

  module _ (m : Text) (i : ℕ) (q : i ≡ index_of m (texts_at s (region w 32 t.methods))) where
    method_set : (fresh : Bool) → fresh ≡ is_first_method t.stage → (x : ℕ) → with_member (cond fresh 0 x) i ≡ add_method_to (tables_at s t w) m x
    unfolding tables_at
    method_set fresh y x = rw (y, q)

    -- `method⇥NAME` and `omit⇥NAME`, of a method that is known
    pub known_method_grown : (fresh : Bool) → fresh ≡ is_first_method t.stage → t.lines < 512 → i < t.methods
        → tables_at s (tally_line t AfterMethod)
        (set w (448 + t.collections) (with_member (cond fresh 0 (get_or w (448 + t.collections) 0)) i))
        ≡ add_method (tables_at s t w) m
    unfolding tables_at
    known_method_grown fresh y l h =
        known_line m AfterMethod (λ x. with_member (cond fresh 0 x) i) l (omega arith)
        ∙ rw (on_last_same (λ x. with_member (cond fresh 0 x) i) (add_method_to (tables_at s t w) m) (region w 449 t.collections) (method_set fresh y))

    pub known_omit_grown : t.lines < 512 → i < t.methods
        → tables_at s (tally_line t AfterOmit) (set w (448 + t.collections) (without_member (get_or w (448 + t.collections) 0) i))
        ≡ add_omit (tables_at s t w) m
    unfolding tables_at
    known_omit_grown l h = known_line m AfterOmit (λ x. without_member x i) l (omega arith) ∙ rw q

-- the same where the record's field, from a up to e, is a text that the table does not name yet
module _ (s : Text) (t : Tally) (w : List ℕ) (f : Fits s t w) (a e : ℕ) (from : a ≤ e) (to : e ≤ length s) (short : e - a < 256) where
  pub role_grown : t.roles < 32 → tables_at s (tally_role t) (set w (0 + t.roles) (packed s a e)) ≡ add_role (tables_at s t w) (part a e s)
  unfolding tables_at
  role_grown h =
      in_roles s (tally_role t) w (omega arith) (0 + t.roles) (packed s a e) (omega arith)
      ∙ ap (with_roles (tables_at s (tally_role t) w)) (named s w 0 t.roles a e (omega arith) from to short)

  pub new_role_grown : (i : ℕ) → is_star (part a e s) ≡ false → i ≡ index_of (part a e s) (texts_at s (region w 0 t.roles))
      → t.roles ≤ i → t.roles < 32 → (v : List ℕ) → v ≡ set w (0 + t.roles) (packed s a e)
      → tables_at s (tally_allowed t)
      (set (set v (580 + t.constraints) (bit_or (get_or v (580 + t.constraints) 0) (with_member 0 t.roles))) (650 + t.constraints) 2)
      ≡ add_allow (tables_at s t w) (part a e s)
  unfolding tables_at
  new_role_grown i o q k h v z =
      let u = tally_allowed t in
      let d : t.roles ≡ index_of (part a e s) (tables_at s t w).roles = omega (arith, index_bound (part a e s) (tables_at s t w).roles, count_roles s t w f) in
      let l : length (tables_at s t w).roles ≤ index_of (part a e s) (tables_at s t w).roles = omega (arith, count_roles s t w f) in
      let fv : Fits s u v = rw z (omega (arith, length-set w (0 + t.roles) (packed s a e))) in
      let r : tables_at s u v ≡ with_roles (tables_at s u w) ((tables_at s t w).roles ++ part a e s ∷ [])
      = rw z (in_roles s u w (omega arith) (0 + t.roles) (packed s a e) (omega arith)
      ∙ ap (with_roles (tables_at s u w)) (named s w 0 t.roles a e (omega arith) from to short)) in
      allowed s u v fv (with_member 0 t.roles)
      ∙ ap (λ (T : Tables). with_accesses (with_allows T (on_last (λ x. bit_or x (with_member 0 t.roles)) T.allows)) (on_last (λ x. 2) T.accesses)) r
      ∙ rw (
        on_last_same (λ x. bit_or x (with_member 0 t.roles)) (add_allow_to (tables_at s t w) (part a e s)) (region w 581 t.constraints)
            (allow_set s t w f (part a e s) o t.roles d),
        o,
        indexed_new (part a e s) _ l,
      )

  pub pattern_grown : t.patterns < 128
      → tables_at s (tally_pattern t)
      (set (set (set w (64 + t.patterns) (spanned a e)) (192 + t.patterns) t.collections) (320 + t.patterns) t.constraints)
      ≡ add_pattern (tables_at s t w) (part a e s)
  unfolding tables_at
  pattern_grown h =
      let n = t.patterns in
      let x = spanned a e in
      let u = tally_pattern t in
      let v = set w (64 + n) x in
      let z = set v (192 + n) t.collections in
      let lv : length v ≡ length w = length-set w (64 + n) x in
      let lz : length z ≡ length v = length-set v (192 + n) t.collections in
      let fv : Fits s u v = omega arith in
      let fz : Fits s u z = omega arith in
      in_parents s u z fz (320 + n) t.constraints (omega arith) (omega arith)
      ∙ ap₂ with_parents
      (in_owners s u v fv (192 + n) t.collections (omega arith) (omega arith)
      ∙ ap₂ with_owners
      (in_patterns s u w (omega arith) (64 + n) x (omega arith) (omega arith)
      ∙ ap (with_patterns (tables_at s u w)) (ap (spans_at s) (region_append w 64 n x (omega arith))
      ∙ spans_append s (region w 64 n) x
      ∙ ap (λ (y : Text). spans_at s (region w 64 n) ++ y ∷ []) (span_part s a e from to short)))
      (region_append v 192 n t.collections (omega arith)
      ∙ ap₂ (λ (l : List ℕ) (y : ℕ). l ++ y ∷ []) (region_apart w 192 n (64 + n) x (omega arith)) (sym (count_covers s t w f))))
      (region_append z 320 n t.constraints (omega arith)
      ∙ ap₂ (λ (l : List ℕ) (y : ℕ). l ++ y ∷ [])
      (region_apart v 320 n (192 + n) t.collections (omega arith) ∙ region_apart w 320 n (64 + n) x (omega arith))
      (sym (count_accesses s t w f)))

  -- a `method` or `omit` line with a new method
  new_line : (p : Stage) (g : ℕ → ℕ) (i : ℕ) → t.lines < 512 → i ≡ index_of (part a e s) (texts_at s (region w 32 t.methods))
      → t.methods ≤ i → t.methods < 31 → (v : List ℕ) → v ≡ set w (32 + t.methods) (packed s a e)
      → tables_at s (tally_method t p) (set v (448 + t.collections) (g (get_or v (448 + t.collections) 0))) ≡ lined (tables_at s t w) (part a e s) p g
  unfolding tables_at
  new_line p g i b q k h v z =
      let u = tally_method t p in
      let l : length (tables_at s t w).methods ≤ index_of (part a e s) (tables_at s t w).methods = omega (arith, count_methods s t w f) in
      let fv : Fits s u v = rw z (omega (arith, length-set w (32 + t.methods) (packed s a e))) in
      let r : tables_at s u v ≡ with_methods (tables_at s u w) ((tables_at s t w).methods ++ part a e s ∷ [])
      = rw z (in_methods_lem s u w (omega arith) (32 + t.methods) (packed s a e) (omega arith) (omega arith)
      ∙ ap (with_methods (tables_at s u w)) (named s w 32 t.methods a e (omega arith) from to short)) in
      covered s u v fv g ∙ ap (λ (T : Tables). with_covers T (on_last g T.covers)) r ∙ rw (indexed_new (part a e s) _ l)

  module _ (i : ℕ) (b : t.lines < 512) (q : i ≡ index_of (part a e s) (texts_at s (region w 32 t.methods))) (k : t.methods ≤ i)
      (h : t.methods < 31) (v : List ℕ) (z : v ≡ set w (32 + t.methods) (packed s a e)) where
    new_method : t.methods ≡ index_of (part a e s) (texts_at s (region w 32 t.methods))
    unfolding tables_at
    new_method = omega (arith, index_bound (part a e s) (tables_at s t w).methods, count_methods s t w f)

    pub new_method_grown : (fresh : Bool) → fresh ≡ is_first_method t.stage
        → tables_at s (tally_method t AfterMethod)
        (set v (448 + t.collections) (with_member (cond fresh 0 (get_or v (448 + t.collections) 0)) t.methods))
        ≡ add_method (tables_at s t w) (part a e s)
    unfolding tables_at
    new_method_grown fresh y =
        new_line AfterMethod (λ x. with_member (cond fresh 0 x) t.methods) i b q k h v z
        ∙ rw (on_last_same (λ x. with_member (cond fresh 0 x) t.methods) (add_method_to (tables_at s t w) (part a e s)) (region w 449 t.collections)
        (method_set s t w f (part a e s) t.methods new_method fresh y))

    pub new_omit_grown : tables_at s (tally_method t AfterOmit)
        (set v (448 + t.collections) (without_member (get_or v (448 + t.collections) 0) t.methods))
        ≡ add_omit (tables_at s t w) (part a e s)
    unfolding tables_at
    new_omit_grown =
        new_line AfterOmit (λ x. without_member x t.methods) i b q k h v z
        ∙ ap (λ (j : ℕ). lined (tables_at s t w) (part a e s) AfterOmit (λ x. without_member x j)) new_method
