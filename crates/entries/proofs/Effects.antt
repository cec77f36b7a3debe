-- What each step comes to, return by return: the refusals, and the tables that have grown. A law's premises are what the code knows there:
-- the results of its calls, the tests that it has made, and the counts and the table that it hands back.
use mathlib.Core.Path.{◌≡◌, refl, sym, ap, ◌∙◌}
use mathlib.Core.Logic.{◌⊎◌, inl, inr}
use mathlib.Core.Bool.{Bool, true, false, not}
use mathlib.Core.List.{List}
use mathlib.Core.Option.{Option, none, some}
use Prim.Native.Nat.{ℕ, ◌+◌, ◌-◌, ◌≤◌, ◌<◌}
use native.Mathlib.Omega.{arith}
use lib.ListN.{length, set, get_or, length-set, length-take, length-drop}
use lib.Dec.{leb}
use lib.Bits.{bit_or}
use borrow.Author.Tests.{leb-true, lt-ltb, le-ltb, le-leb, lt-leb, not-true, not-false}
use Rattle.text.specs.Texts.{Text, bytes, same, all, part, index_of}
use Rattle.text.specs.Bytes.{is_text, is_token, between}
use Rattle.names.specs.Names.{is_star, made_of, is_name, is_role_name, is_method_name, is_pattern, is_constraint_kind}
use Rattle.listings.specs.Records.{may_follow}
use Rattle.entries.specs.Sets.{with_member, lowest}
use Rattle.listings.specs.Heads.{is_first_method}
use Rattle.entries.specs.Tables.{Tables, packed, Fits, Field, StepOutcome, Steps, stepped_by, next, tables_at, region, texts_at, found, check_role, check_constraint, check_allow, check_collection, check_pattern, check_method, add_role, add_constraint, add_allow, add_collection, add_pattern, add_method, add_omit, add_line, marked, stage_behind, field_check, field_add, check_record, step_from, record_with, spanned}
use Rattle.entries.specs.Tallies.{tally_at, tally_role, tally_constraint, tally_allowed, tally_collection, tally_pattern, tally_line, tally_method}
use Rattle.listings.specs.declared.answers.Fault.{Fault}
use Rattle.listings.specs.declared.answers.Fault.TheVariants.{WrongPlace, BadName, BadPattern, RoleTwice, PastMost}
use Rattle.listings.specs.declared.records.Kind.{Kind}
use Rattle.listings.specs.declared.records.Kind.TheVariants.{Role, Constraint, Allow, Collection, Pattern, Method, Omit, End}
use Rattle.listings.specs.declared.records.Stage.{Stage}
use Rattle.listings.specs.declared.records.Stage.TheVariants.{AfterOpen, AfterAuth, AfterAllow, AfterMethod, AfterOmit, AfterEnd}
use Rattle.entries.specs.declared.tables.Tally.{Tally}
use Rattle.std.specs.Prelude.{Result, Ok, Err, Some, None, is_some}
use Rattle.std.specs.Prelude.{Option as Maybe}
use Rattle.entries.proofs.Regions.{found_some, found_none}
use Rattle.text.proofs.Truths.{never, and_left, and_right}
use Rattle.entries.proofs.Growth as G

-- ---- names and patterns are short enough to be named by a number
made_short : (class : ℕ → Bool) (lo hi : ℕ) (t : Text) → made_of class lo hi t ≡ true → length t ≤ hi
made_short class lo hi t y =
    leb-true (length t) hi (and_right (leb lo (length t)) (leb (length t) hi) (and_left (between lo hi (length t)) (all class t) y))

module _ (s : Text) (a e : ℕ) (to : e ≤ length s) where
  part_short : (hi : ℕ) → length (part a e s) ≤ hi → e - a ≤ hi
  part_short hi h = let k = simp (length-take, length-drop) at h in omega arith

  name_short : (r : Bool) → r ≡ is_name (part a e s) → not r ≡ false → e - a < 256
  unfolding is_name
  name_short r q y = let h = part_short 64 (made_short is_text 1 64 (part a e s) (and_left _ _ (sym q ∙ not-false r y))) in omega arith

  role_name_short : (r : Bool) → r ≡ is_role_name (part a e s) → not r ≡ false → e - a < 256
  unfolding is_role_name
  role_name_short r q y = name_short true (sym (and_left (is_name (part a e s)) _ (sym q ∙ not-false r y))) refl

  method_name_short : (r : Bool) → r ≡ is_method_name (part a e s) → not r ≡ false → e - a < 256
  unfolding is_method_name
  method_name_short r q y = let h = part_short 24 (made_short is_token 1 24 (part a e s) (sym q ∙ not-false r y)) in omega arith

  pattern_short : (r : Bool) → r ≡ is_pattern (part a e s) → not r ≡ false → e - a < 256
  unfolding is_pattern
  pattern_short r q y = let h = part_short 255 (made_short is_text 0 255 (part a e s) (and_left _ _ (sym q ∙ not-false r y))) in omega arith

-- ---- writes keep what fits
kept : {s : Text} {t : Tally} {left : List ℕ} (w : List ℕ) → length left ≡ length w → Fits s t w → Fits s t left
kept w l f = omega arith

-- ---- an outcome, from what the record's check answers
module _ (check : Tables → Text → Option Fault) (add : Tables → Text → Tables) (s : Text) (t : Tally) (w : List ℕ) (a e : ℕ) (left : List ℕ) where
  refused : (f : Fault) → some f ≡ check (tables_at s t w) (part a e s) → Steps check add s t w a e (Err f) left
  refused f q = record { answer = ap (λ (o : Option Fault). stepped_by o (add (tables_at s t w) (part a e s))) q; fits = tt }

  taken : (r u : Tally) → none ≡ check (tables_at s t w) (part a e s) → r ≡ u → tables_at s u left ≡ add (tables_at s t w) (part a e s) → Fits s u left
      → Steps check add s t w a e (Ok r) left
  taken r u q e h f = rw (← q, e) (record { answer = ap next h; fits = f })

-- ---- the records
module _ (s : Text) (t : Tally) (w : List ℕ) (a e : ℕ) (d : Field s t w a e) where
  -- `collection`
  pub collection_past : (left : List ℕ) (most : ℕ) → most ≡ 128 → most ≤ t.collections → Steps check_collection add_collection s t w a e (Err PastMost) left
  collection_past left most m g =
      let h : 128 ≤ t.collections = omega (arith, m) in
      refused check_collection add_collection s t w a e left PastMost (rw (G.count_covers s t w d.fits, le-leb _ _ h))

  pub collection_next : (r : Tally) (most : ℕ) → most ≡ 128 → r ≡ tally_collection t → t.collections < most
      → Steps check_collection add_collection s t w a e (Ok r) (set w (449 + t.collections) 4294967295)
  collection_next r most m q g =
      let h : t.collections < 128 = omega (arith, m) in
      taken check_collection add_collection s t w a e _ r (tally_collection t) (rw (G.count_covers s t w d.fits, lt-leb _ _ h)) q
      (G.collection_grown s t w d.fits (part a e s) h)
      (kept w (simp length-set) (omega arith))

  -- `constraint⇥open` and `constraint⇥auth`
  module _ (b : Bool) (good : b ≡ is_constraint_kind (part a e s)) where
    pub constraint_bad : (left : List ℕ) → not b ≡ true → Steps check_constraint add_constraint s t w a e (Err BadName) left
    constraint_bad left y = refused check_constraint add_constraint s t w a e left BadName (rw (← good, y))

    pub constraint_past : (left : List ℕ) (most : ℕ) → most ≡ 64 → not b ≡ false → most ≤ t.constraints
        → Steps check_constraint add_constraint s t w a e (Err PastMost) left
    constraint_past left most m y g =
        let h : 64 ≤ t.constraints = omega (arith, m) in
        refused check_constraint add_constraint s t w a e left PastMost (rw (← good, y, G.count_accesses s t w d.fits, le-leb _ _ h))

    module _ (most : ℕ) (m : most ≡ 64) (y : not b ≡ false) (g : t.constraints < most) (o : Bool) (is : o ≡ same (part a e s) (bytes "open")) where
      few_constraints : t.constraints < 64
      few_constraints = omega (arith, m)

      constraint_room : none ≡ check_constraint (tables_at s t w) (part a e s)
      constraint_room = rw (← good, y, G.count_accesses s t w d.fits, lt-leb _ _ few_constraints)

      pub constraint_open : (r : Tally) (left : List ℕ) → left ≡ set (set w (581 + t.constraints) 0) (651 + t.constraints) 0
          → r ≡ tally_constraint t AfterOpen → o ≡ true → Steps check_constraint add_constraint s t w a e (Ok r) left
      constraint_open r left l q k =
          rw l (taken check_constraint add_constraint s t w a e _ r (tally_constraint t AfterOpen) constraint_room q
          (G.open_grown s t w d.fits (part a e s) (sym is ∙ k) few_constraints) (kept w (simp length-set) (omega arith)))

      pub constraint_auth : (r : Tally) (left : List ℕ) → left ≡ set (set w (581 + t.constraints) 0) (651 + t.constraints) 1
          → r ≡ tally_constraint t AfterAuth → o ≡ false → Steps check_constraint add_constraint s t w a e (Ok r) left
      constraint_auth r left l q k =
          rw l (taken check_constraint add_constraint s t w a e _ r (tally_constraint t AfterAuth) constraint_room q
          (G.auth_grown s t w d.fits (part a e s) (sym is ∙ k) few_constraints) (kept w (simp length-set) (omega arith)))

  -- what the search among the roles answers, and that among the methods
  roles_room : 0 + t.roles ≤ length w
  roles_room = let f = d.fits in omega (arith, f.room, f.roles)

  methods_room : 32 + t.methods ≤ length w
  methods_room = let f = d.fits in omega (arith, f.room, f.methods)

  module _ (o : Maybe ℕ) (q : o ≡ found (part a e s) (texts_at s (region w 0 t.roles))) where
    roles_here : is_some o ≡ true → index_of (part a e s) (texts_at s (region w 0 t.roles)) < t.roles
    roles_here z = go o refl z
      where
        go : (x : Maybe ℕ) → o ≡ x → is_some x ≡ true → index_of (part a e s) (texts_at s (region w 0 t.roles)) < t.roles
        go (Some j) g h = let f = found_some s (part a e s) w 0 t.roles roles_room o q j g in rw (← f.0) f.1
        go None g h = absurd (never false h refl)

    roles_nowhere : is_some o ≡ false → t.roles ≤ index_of (part a e s) (texts_at s (region w 0 t.roles))
    roles_nowhere z = go o refl z
      where
        go : (x : Maybe ℕ) → o ≡ x → is_some x ≡ false → t.roles ≤ index_of (part a e s) (texts_at s (region w 0 t.roles))
        go (Some j) g h = absurd (never true refl h)
        go None g h = found_none s (part a e s) w 0 t.roles roles_room o q g

  -- `role⇥NAME`
  module _ (b : Bool) (good : b ≡ is_role_name (part a e s)) where
    pub role_bad : (left : List ℕ) → not b ≡ true → Steps check_role add_role s t w a e (Err BadName) left
    role_bad left y = refused check_role add_role s t w a e left BadName (rw (← good, y))

    module _ (y : not b ≡ false) (o : Maybe ℕ) (q : o ≡ found (part a e s) (texts_at s (region w 0 t.roles))) (k : Bool) (p : k ≡ is_some o) where
      abbrev i : ℕ
      i = index_of (part a e s) (texts_at s (region w 0 t.roles))

      pub role_twice_lem : (left : List ℕ) → k ≡ true → Steps check_role add_role s t w a e (Err RoleTwice) left
      unfolding tables_at
      role_twice_lem left z =
          let h : i < t.roles = roles_here o q (sym p ∙ z) in
          refused check_role add_role s t w a e left RoleTwice (rw (← good, y, G.count_roles s t w d.fits, lt-ltb _ _ h))

      pub role_past : (left : List ℕ) (most : ℕ) → most ≡ 32 → k ≡ false → most ≤ t.roles → Steps check_role add_role s t w a e (Err PastMost) left
      unfolding tables_at
      role_past left most x z g =
          let h : 32 ≤ t.roles = omega (arith, x) in
          refused check_role add_role s t w a e left PastMost (rw (← good, y, G.count_roles s t w d.fits, le-ltb _ _ (roles_nowhere o q (sym p ∙ z)), le-leb _ _ h))

      pub role_next : (r : Tally) (left : List ℕ) (most : ℕ) → most ≡ 32 → left ≡ set w (0 + t.roles) (packed s a e) → r ≡ tally_role t
          → k ≡ false → t.roles < most → Steps check_role add_role s t w a e (Ok r) left
      unfolding tables_at
      role_next r left most x l m z g =
          let h : t.roles < 32 = omega (arith, x) in
          rw l (taken check_role add_role s t w a e _ r (tally_role t)
          (rw (← good, y, G.count_roles s t w d.fits, le-ltb _ _ (roles_nowhere o q (sym p ∙ z)), lt-leb _ _ h)) m
          (G.role_grown s t w d.fits a e d.from d.to (role_name_short s a e d.to b good y) h)
          (kept w (simp length-set) (omega arith)))

  -- `allow⇥NAME` and `allow⇥*`
  module _ (b : Bool) (good : b ≡ is_name (part a e s)) where
    pub allow_bad : (left : List ℕ) → not b ≡ true → Steps check_allow add_allow s t w a e (Err BadName) left
    allow_bad left y = refused check_allow add_allow s t w a e left BadName (rw (← good, y))

    module _ (y : not b ≡ false) (o : Bool) (is : o ≡ is_star (part a e s)) where
      pub allow_star : (r : Tally) (left : List ℕ)
          → left ≡ set (set w (580 + t.constraints) (bit_or (get_or w (580 + t.constraints) 0) (lowest t.declared))) (650 + t.constraints) 2
          → r ≡ tally_at t AfterAllow → o ≡ true → Steps check_allow add_allow s t w a e (Ok r) left
      allow_star r left l m k =
          rw l (taken check_allow add_allow s t w a e _ r (tally_at t AfterAllow) (rw (← good, y, ← is, k)) m
          (G.star_grown s t w d.fits (part a e s) (sym is ∙ k)) (kept w (simp length-set) (omega arith)))

      module _ (n : o ≡ false) (v : Maybe ℕ) (found_as : v ≡ found (part a e s) (texts_at s (region w 0 t.roles))) where
        pub allow_known : (i : ℕ) (r : Tally) (left : List ℕ) → v ≡ Some i
            → left ≡ set (set w (580 + t.constraints) (bit_or (get_or w (580 + t.constraints) 0) (with_member 0 i))) (650 + t.constraints) 2
            → r ≡ tally_at t AfterAllow → Steps check_allow add_allow s t w a e (Ok r) left
        unfolding tables_at
        allow_known i r left k l m =
            let f = found_some s (part a e s) w 0 t.roles roles_room v found_as i k in
            let q = f.0 in
            let h = f.1 in
            rw l (taken check_allow add_allow s t w a e _ r (tally_at t AfterAllow)
            (rw (← good, y, ← is, n, G.count_roles s t w d.fits, ← q, lt-ltb _ _ h)) m
            (G.known_role_grown s t w d.fits (part a e s) (sym is ∙ n) i q h) (kept w (simp length-set) (omega arith)))

        pub allow_past : (left : List ℕ) (most : ℕ) → most ≡ 32 → v ≡ None → most ≤ t.roles → Steps check_allow add_allow s t w a e (Err PastMost) left
        unfolding tables_at
        allow_past left most x none_is g =
            let h : 32 ≤ t.roles = omega (arith, x) in
            let k = found_none s (part a e s) w 0 t.roles roles_room v found_as none_is in
            refused check_allow add_allow s t w a e left PastMost
            (rw (← good, y, ← is, n, G.count_roles s t w d.fits, le-ltb _ _ k, le-leb _ _ h))

        pub allow_new : (r : Tally) (u left : List ℕ) (most : ℕ) → most ≡ 32 → u ≡ set w (0 + t.roles) (packed s a e)
            → left ≡ set (set u (580 + t.constraints) (bit_or (get_or u (580 + t.constraints) 0) (with_member 0 t.roles))) (650 + t.constraints) 2
            → r ≡ tally_allowed t → v ≡ None → t.roles < most → Steps check_allow add_allow s t w a e (Ok r) left
        unfolding tables_at
        allow_new r u left most x z l m none_is g =
            let h : t.roles < 32 = omega (arith, x) in
            let k = found_none s (part a e s) w 0 t.roles roles_room v found_as none_is in
            rw l (taken check_allow add_allow s t w a e _ r (tally_allowed t)
            (rw (← good, y, ← is, n, G.count_roles s t w d.fits, le-ltb _ _ k, lt-leb _ _ h)) m
            (G.new_role_grown s t w d.fits a e d.from d.to (name_short s a e d.to b good y) (index_of (part a e s) (texts_at s (region w 0 t.roles))) (sym is ∙ n) refl k h u z)
            (kept w (rw z (simp length-set)) (omega arith)))

  -- `pattern⇥TEXT`
  module _ (b : Bool) (good : b ≡ is_pattern (part a e s)) where
    pub pattern_bad : (left : List ℕ) → not b ≡ true → Steps check_pattern add_pattern s t w a e (Err BadPattern) left
    pattern_bad left y = refused check_pattern add_pattern s t w a e left BadPattern (rw (← good, y))

    pub pattern_past : (left : List ℕ) (most : ℕ) → most ≡ 128 → not b ≡ false → most ≤ t.patterns → Steps check_pattern add_pattern s t w a e (Err PastMost) left
    pattern_past left most x y g =
        let h : 128 ≤ t.patterns = omega (arith, x) in
        refused check_pattern add_pattern s t w a e left PastMost (rw (← good, y, G.count_patterns s t w d.fits, le-leb _ _ h))

    pub pattern_next : (r : Tally) (left : List ℕ) (most : ℕ) → most ≡ 128
        → left ≡ set (set (set w (64 + t.patterns) (spanned a e)) (192 + t.patterns) t.collections) (320 + t.patterns) t.constraints
        → r ≡ tally_pattern t → not b ≡ false → t.patterns < most → Steps check_pattern add_pattern s t w a e (Ok r) left
    pattern_next r left most x l m y g =
        let h : t.patterns < 128 = omega (arith, x) in
        rw l (taken check_pattern add_pattern s t w a e _ r (tally_pattern t) (rw (← good, y, G.count_patterns s t w d.fits, lt-leb _ _ h)) m
        (G.pattern_grown s t w d.fits a e d.from d.to (pattern_short s a e d.to b good y) h)
        (kept w (simp length-set) (omega arith)))

  -- `method⇥NAME` and `omit⇥NAME`
  module _ (b : Bool) (good : b ≡ is_method_name (part a e s)) where
    pub line_bad : (add : Tables → Text → Tables) (left : List ℕ) → not b ≡ true → Steps check_method add s t w a e (Err BadName) left
    line_bad add left y = refused check_method add s t w a e left BadName (rw (← good, y))

    pub lines_past : (add : Tables → Text → Tables) (left : List ℕ) (most : ℕ) → most ≡ 512 → not b ≡ false → most ≤ t.lines
        → Steps check_method add s t w a e (Err PastMost) left
    unfolding tables_at
    lines_past add left most x y g =
        let h : 512 ≤ t.lines = omega (arith, x) in
        refused check_method add s t w a e left PastMost (rw (← good, y, le-leb _ _ h))

    module _ (y : not b ≡ false) (most : ℕ) (x : most ≡ 512) (few : t.lines < most) (o : Maybe ℕ) (q : o ≡ found (part a e s) (texts_at s (region w 32 t.methods))) where
      abbrev place : ℕ
      place = index_of (part a e s) (texts_at s (region w 32 t.methods))

      nowhere : o ≡ None → t.methods ≤ place
      nowhere z = found_none s (part a e s) w 32 t.methods methods_room o q z

      few_lines : t.lines < 512
      few_lines = omega (arith, x)

      pub methods_past : (add : Tables → Text → Tables) (left : List ℕ) (many : ℕ) → many ≡ 31 → o ≡ None → many ≤ t.methods
          → Steps check_method add s t w a e (Err PastMost) left
      unfolding tables_at
      methods_past add left many x z f =
          let h : 31 ≤ t.methods = omega (arith, x) in
          let k = nowhere z in
          refused check_method add s t w a e left PastMost
          (rw (← good, y, lt-leb _ _ few_lines, G.count_methods s t w d.fits, le-ltb _ _ k, le-leb _ _ h))

      known_room : place < t.methods → none ≡ check_method (tables_at s t w) (part a e s)
      unfolding tables_at
      known_room h = rw (← good, y, lt-leb _ _ few_lines, G.count_methods s t w d.fits, lt-ltb _ _ h)

      new_room : t.methods ≤ place → t.methods < 31 → none ≡ check_method (tables_at s t w) (part a e s)
      unfolding tables_at
      new_room k h = rw (← good, y, lt-leb _ _ few_lines, G.count_methods s t w d.fits, le-ltb _ _ k, lt-leb _ _ h)

      module _ (r : Tally) (left : List ℕ) where
        pub line_known : (omits : Bool) (stage : Stage) (j : ℕ) → stage ≡ stage_behind omits → o ≡ Some j
            → left ≡ set w (448 + t.collections) (marked omits (is_first_method t.stage) (get_or w (448 + t.collections) 0) j)
            → r ≡ tally_line t stage → Steps check_method (add_line omits) s t w a e (Ok r) left
        line_known omits stage j z k l m =
            let f = found_some s (part a e s) w 32 t.methods methods_room o q j k in
            by omits (m ∙ ap (tally_line t) z) (rw f.0 at l) (rw f.0 at f.1)
          where
            by : (x : Bool) → r ≡ tally_line t (stage_behind x) → left ≡ set w (448 + t.collections) (marked x (is_first_method t.stage) (get_or w (448 + t.collections) 0) place) → place < t.methods
                → Steps check_method (add_line x) s t w a e (Ok r) left
            by true m l h =
                rw l (taken check_method add_omit s t w a e _ r (tally_line t AfterOmit) (known_room h) m
                (G.known_omit_grown s t w d.fits (part a e s) place refl few_lines h) (kept w (simp length-set) (omega (arith, few_lines))))
            by false m l h =
                rw l (taken check_method add_method s t w a e _ r (tally_line t AfterMethod) (known_room h) m
                (G.known_method_grown s t w d.fits (part a e s) place refl (is_first_method t.stage) refl few_lines h) (kept w (simp length-set) (omega (arith, few_lines))))

        pub line_new : (omits : Bool) (stage : Stage) (v : List ℕ) (many : ℕ) → stage ≡ stage_behind omits → many ≡ 31 → v ≡ set w (32 + t.methods) (packed s a e)
            → left ≡ set v (448 + t.collections) (marked omits (is_first_method t.stage) (get_or v (448 + t.collections) 0) t.methods)
            → r ≡ tally_method t stage → o ≡ None → t.methods < many → Steps check_method (add_line omits) s t w a e (Ok r) left
        line_new true stage v many y' x z l m u f =
            let h : t.methods < 31 = omega (arith, x) in
            let k = nowhere u in
            rw l (taken check_method add_omit s t w a e _ r (tally_method t AfterOmit) (new_room k h) (m ∙ ap (tally_method t) y')
            (G.new_omit_grown s t w d.fits a e d.from d.to (method_name_short s a e d.to b good y) place few_lines refl k h v z)
            (kept w (rw z (simp length-set)) (omega (arith, few_lines))))
        line_new false stage v many y' x z l m u f =
            let h : t.methods < 31 = omega (arith, x) in
            let k = nowhere u in
            rw l (taken check_method add_method s t w a e _ r (tally_method t AfterMethod) (new_room k h) (m ∙ ap (tally_method t) y')
            (G.new_method_grown s t w d.fits a e d.from d.to (method_name_short s a e d.to b good y) place few_lines refl k h v z (is_first_method t.stage) refl)
            (kept w (rw z (simp length-set)) (omega (arith, few_lines))))

-- ---- by the kind of record
module _ (s : Text) (t : Tally) (w : List ℕ) (a e : ℕ) (k : Kind) (r : Result Tally Fault) (left : List ℕ) where
  pub field_role : k ≡ Role → Steps check_role add_role s t w a e r left → Steps (field_check k) (field_add k) s t w a e r left
  unfolding field_check field_add
  field_role q h = rw q h

  pub field_constraint : k ≡ Constraint → Steps check_constraint add_constraint s t w a e r left → Steps (field_check k) (field_add k) s t w a e r left
  unfolding field_check field_add
  field_constraint q h = rw q h

  pub field_allow : k ≡ Allow → Steps check_allow add_allow s t w a e r left → Steps (field_check k) (field_add k) s t w a e r left
  unfolding field_check field_add
  field_allow q h = rw q h

  pub field_collection : k ≡ Collection → Steps check_collection add_collection s t w a e r left → Steps (field_check k) (field_add k) s t w a e r left
  unfolding field_check field_add
  field_collection q h = rw q h

  pub field_pattern : k ≡ Pattern → Steps check_pattern add_pattern s t w a e r left → Steps (field_check k) (field_add k) s t w a e r left
  unfolding field_check field_add
  field_pattern q h = rw q h

  pub field_line : (omits : Bool) → (k ≡ Method) ⊎ (k ≡ Omit) → (k ≡ Method → omits ≡ false) → (k ≡ Omit → omits ≡ true)
      → Steps check_method (add_line omits) s t w a e r left → Steps (field_check k) (field_add k) s t w a e r left
  unfolding field_check field_add
  field_line omits (inl q) m o h = let h' = rw (m q) at h in rw q h'
  field_line omits (inr q) m o h = let h' = rw (o q) at h in rw q h'

pub field_end : (s : Text) (t r : Tally) (w : List ℕ) (a e : ℕ) (k : Kind) → Field s t w a e → k ≡ End → r ≡ tally_at t AfterEnd
    → Steps (field_check k) (field_add k) s t w a e (Ok r) w
unfolding field_check field_add tables_at
field_end s t r w a e k d q m = rw (q, m) (record { answer = refl; fits = omega arith })

-- ---- in a wrong place, and one that may follow
module _ (s : Text) (t : Tally) (w : List ℕ) (a e : ℕ) (k : Kind) (left : List ℕ) (b : Bool) (good : b ≡ may_follow t.stage k) where
  pub step_misplaced : not b ≡ true → StepOutcome s (step_from (tables_at s t w) (record_with k (part a e s))) (Err WrongPlace) left
  unfolding step_from check_record tables_at
  step_misplaced y = rw (← good, not-true b y) (record { answer = refl; fits = tt })

  pub step_placed : (r : Result Tally Fault) → not b ≡ false → Steps (field_check k) (field_add k) s t w a e r left
      → StepOutcome s (step_from (tables_at s t w) (record_with k (part a e s))) r left
  unfolding step_from check_record tables_at
  step_placed r y h = rw (← good, not-false b y) h
