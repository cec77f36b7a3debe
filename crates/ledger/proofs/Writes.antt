-- What a write in the table does to the ledger that it holds. The counts stand in the same table, so a ledger is first taken by counts and table.
use mathlib.Core.Path.{◌≡◌, refl, sym, ap, subst, ◌∙◌}
use mathlib.Core.Bool.{Bool, true, false, cond}
use mathlib.Core.Logic.{◌⊎◌, inl, inr}
use mathlib.Core.List.{List, [], ◌∷◌, ◌++◌, map, map-append}
use Prim.Native.Nat.{ℕ, zero, suc, ◌+◌, ◌-◌, ◌≤◌, ◌<◌}
use native.Mathlib.Numerals.{add-one}
use native.Mathlib.Omega.{arith}
use native.Mathlib.Decide.{dec_lt}
use lib.ListN.{length, take, drop, get_or, set, replicate, length-set, length-take, length-map, length-replicate, get_or-replicate, get_or-append}
use lib.Seq.{get_or-set_same, get_or-set_other, take-set-le, take-set-lt, take-suc-set, set_out}
use lib.Dec.{eqb, ltb, leb}
use borrow.Author.Tests.{lt-ltb, le-ltb, le-leb, eq-eqb, ne_eqb, eqb-true, eqb-false}
use Rattle.text.specs.Texts.{Text, known, index_of}
use Rattle.text.proofs.Indices.{index_bound, index_member}
use Rattle.worktable.specs.Work.{zeroed}
use Rattle.listings.specs.Records.{Record}
use Rattle.ledger.specs.Ledgers.{Ledger, no_records, most_kept, least, one_more, marked}
use Rattle.ledger.specs.Places.{record_at, name_at, names_at, records_at, ledger_at, Fits, Guarded, field_by, with_one, with_name, record_put, with_record, with_last}
use Rattle.ledger.proofs.Stamps.{names_length, names_apart, names_append}

-- ---- ledgers with one thing changed
abbrev pub with_records : Ledger → List Record → Ledger
with_records L x = record { size = L.size; records = x; roles = L.roles; methods = L.methods; declared = L.declared; constraints = L.constraints; collections = L.collections; patterns = L.patterns; lines = L.lines; last = L.last }

abbrev pub with_roles : Ledger → List Text → Ledger
with_roles L x = record { size = L.size; records = L.records; roles = x; methods = L.methods; declared = L.declared; constraints = L.constraints; collections = L.collections; patterns = L.patterns; lines = L.lines; last = L.last }

abbrev pub with_methods : Ledger → List Text → Ledger
with_methods L x = record { size = L.size; records = L.records; roles = L.roles; methods = x; declared = L.declared; constraints = L.constraints; collections = L.collections; patterns = L.patterns; lines = L.lines; last = L.last }

abbrev pub with_declared : Ledger → List Text → Ledger
with_declared L x = record { size = L.size; records = L.records; roles = L.roles; methods = L.methods; declared = x; constraints = L.constraints; collections = L.collections; patterns = L.patterns; lines = L.lines; last = L.last }

abbrev pub with_constraints : Ledger → ℕ → Ledger
with_constraints L x = record { size = L.size; records = L.records; roles = L.roles; methods = L.methods; declared = L.declared; constraints = x; collections = L.collections; patterns = L.patterns; lines = L.lines; last = L.last }

abbrev pub with_collections : Ledger → ℕ → Ledger
with_collections L x = record { size = L.size; records = L.records; roles = L.roles; methods = L.methods; declared = L.declared; constraints = L.constraints; collections = x; patterns = L.patterns; lines = L.lines; last = L.last }

abbrev pub with_patterns : Ledger → ℕ → Ledger
with_patterns L x = record { size = L.size; records = L.records; roles = L.roles; methods = L.methods; declared = L.declared; constraints = L.constraints; collections = L.collections; patterns = x; lines = L.lines; last = L.last }

abbrev pub with_lines : Ledger → ℕ → Ledger
with_lines L x = record { size = L.size; records = L.records; roles = L.roles; methods = L.methods; declared = L.declared; constraints = L.constraints; collections = L.collections; patterns = L.patterns; lines = x; last = L.last }

abbrev pub last_now : Ledger → ℕ → Ledger
last_now L x = record { size = L.size; records = L.records; roles = L.roles; methods = L.methods; declared = L.declared; constraints = L.constraints; collections = L.collections; patterns = L.patterns; lines = L.lines; last = x }

-- ---- the counts, and a ledger by them
record Counts : Type 0 where
  size : ℕ
  roles : ℕ
  methods : ℕ
  declared : ℕ
  constraints : ℕ
  collections : ℕ
  patterns : ℕ
  lines : ℕ
  last : ℕ

abbrev counts_at : List ℕ → Counts
counts_at w = record {
  size = get_or w 3700 0;
  roles = get_or w 3701 0;
  methods = get_or w 3702 0;
  declared = get_or w 3703 0;
  constraints = get_or w 3704 0;
  collections = get_or w 3705 0;
  patterns = get_or w 3706 0;
  lines = get_or w 3707 0;
  last = get_or w 3708 0;
}

abbrev ledger_by : Text → Counts → List ℕ → Ledger
ledger_by s C w = record {
  size = C.size;
  records = records_at s C.size w;
  roles = names_at s 3600 C.roles w;
  methods = names_at s 3632 C.methods w;
  declared = names_at s 3664 C.declared w;
  constraints = C.constraints;
  collections = C.collections;
  patterns = C.patterns;
  lines = C.lines;
  last = C.last;
}

ledger_by_lem : (s : Text) (w : List ℕ) → ledger_at s w ≡ ledger_by s (counts_at w) w
unfolding ledger_at
ledger_by_lem s w = refl

-- ---- a write, as the counts see it
-- the number at c is x
abbrev counts_with : ℕ → ℕ → Counts → Counts
counts_with c x C = record {
  size = cond (eqb 3700 c) x C.size;
  roles = cond (eqb 3701 c) x C.roles;
  methods = cond (eqb 3702 c) x C.methods;
  declared = cond (eqb 3703 c) x C.declared;
  constraints = cond (eqb 3704 c) x C.constraints;
  collections = cond (eqb 3705 c) x C.collections;
  patterns = cond (eqb 3706 c) x C.patterns;
  lines = cond (eqb 3707 c) x C.lines;
  last = cond (eqb 3708 c) x C.last;
}

read_back : (w : List ℕ) (c x k : ℕ) → c < length w → get_or (set w c x) k 0 ≡ cond (eqb k c) x (get_or w k 0)
read_back w c x k h = go (eqb k c) refl
  where
    go : (b : Bool) → eqb k c ≡ b → get_or (set w c x) k 0 ≡ cond b x (get_or w k 0)
    go true e = ap (λ (i : ℕ). get_or (set w c x) i 0) (eqb-true k c e) ∙ get_or-set_same w c x 0 h
    go false e = get_or-set_other w c k x 0 (eqb-false k c e)

counts_set : (w : List ℕ) (c x : ℕ) → c < length w → counts_at (set w c x) ≡ counts_with c x (counts_at w)
counts_set w c x h =
    rw (
      read_back w c x 3700 h,
      read_back w c x 3701 h,
      read_back w c x 3702 h,
      read_back w c x 3703 h,
      read_back w c x 3704 h,
      read_back w c x 3705 h,
      read_back w c x 3706 h,
      read_back w c x 3707 h,
      read_back w c x 3708 h,
    )

-- before the counts it leaves them
counts_below : (w : List ℕ) (j x : ℕ) → j < 3700 → counts_at (set w j x) ≡ counts_at w
counts_below w j x h =
    rw (
      get_or-set_other w j 3700 x 0 (λ e. omega arith),
      get_or-set_other w j 3701 x 0 (λ e. omega arith),
      get_or-set_other w j 3702 x 0 (λ e. omega arith),
      get_or-set_other w j 3703 x 0 (λ e. omega arith),
      get_or-set_other w j 3704 x 0 (λ e. omega arith),
      get_or-set_other w j 3705 x 0 (λ e. omega arith),
      get_or-set_other w j 3706 x 0 (λ e. omega arith),
      get_or-set_other w j 3707 x 0 (λ e. omega arith),
      get_or-set_other w j 3708 x 0 (λ e. omega arith),
    )

-- ---- a write, as the lists see it
-- how many records stand in the table
fewest : (n : ℕ) → least n most_kept ≤ 3600
fewest n = go (dec_lt n 3600)
  where
    go : Dec (n < 3600) → least n most_kept ≤ 3600
    go (yes h) = rw (lt-ltb n 3600 h) (omega arith)
    go (no h) = rw (le-ltb n 3600 (omega arith)) (omega arith)

records_apart : (s : Text) (n : ℕ) (w : List ℕ) (j x : ℕ) → 3600 ≤ j → records_at s n (set w j x) ≡ records_at s n w
unfolding records_at
records_apart s n w j x h = ap (λ (l : List ℕ). map (record_at s) l) (take-set-le (least n most_kept) w j x (let k = fewest n in omega arith))

-- the names stand in their own parts
record Apart (C : Counts) : Type 0 where
  roles : C.roles ≤ 32
  methods : C.methods ≤ 32
  declared : C.declared ≤ 32

module _ (s : Text) (C : Counts) (w : List ℕ) (a : Apart C) (j x : ℕ) where
  -- behind the lists it leaves them
  behind : 3700 ≤ j → ledger_by s C (set w j x) ≡ ledger_by s C w
  behind h =
      rw (
        records_apart s C.size w j x (omega arith),
        names_apart s 3600 C.roles w j x (λ k. omega arith),
        names_apart s 3632 C.methods w j x (λ k. omega arith),
        names_apart s 3664 C.declared w j x (λ k. omega arith),
      )

  -- in the room of one list it leaves the others
  in_roles : 3600 ≤ j → j < 3632 → ledger_by s C (set w j x) ≡ with_roles (ledger_by s C w) (names_at s 3600 C.roles (set w j x))
  in_roles l h =
      rw (
        records_apart s C.size w j x (omega arith),
        names_apart s 3632 C.methods w j x (λ k. omega arith),
        names_apart s 3664 C.declared w j x (λ k. omega arith),
      )

  in_methods_lem : 3632 ≤ j → j < 3664 → ledger_by s C (set w j x) ≡ with_methods (ledger_by s C w) (names_at s 3632 C.methods (set w j x))
  in_methods_lem l h =
      rw (
        records_apart s C.size w j x (omega arith),
        names_apart s 3600 C.roles w j x (λ k. omega arith),
        names_apart s 3664 C.declared w j x (λ k. omega arith),
      )

  in_declared : 3664 ≤ j → j < 3700 → ledger_by s C (set w j x) ≡ with_declared (ledger_by s C w) (names_at s 3664 C.declared (set w j x))
  in_declared l h =
      rw (
        records_apart s C.size w j x (omega arith),
        names_apart s 3600 C.roles w j x (λ k. omega arith),
        names_apart s 3632 C.methods w j x (λ k. omega arith),
      )

  in_records : j < 3600 → ledger_by s C (set w j x) ≡ with_records (ledger_by s C w) (records_at s C.size (set w j x))
  in_records h =
      rw (
        names_apart s 3600 C.roles w j x (λ k. omega arith),
        names_apart s 3632 C.methods w j x (λ k. omega arith),
        names_apart s 3664 C.declared w j x (λ k. omega arith),
      )

-- ---- the counts fit
record CountsFit (C : Counts) : Type 0 where
  size : C.size ≤ 3601
  roles : C.roles ≤ 32
  methods : C.methods ≤ 31
  declared : C.declared ≤ 32
  constraints : C.constraints ≤ 64
  collections : C.collections ≤ 128
  patterns : C.patterns ≤ 128
  lines : C.lines ≤ 512
  last : C.last ≤ 3602

counts_fit : (w : List ℕ) → Fits w → CountsFit (counts_at w)
counts_fit w f = omega arith

fits_by : (w w' : List ℕ) → Fits w → length w' ≡ length w → CountsFit (counts_at w') → Fits w'
fits_by w w' f l c = omega arith

-- a number is put at c, among the counts
module _ (s : Text) (w : List ℕ) (f : Fits w) (c x : ℕ) (from : 3700 ≤ c) (to : c < 4096) (g : CountsFit (counts_with c x (counts_at w))) where
  count_fits : Fits (set w c x)
  count_fits = fits_by w (set w c x) f (length-set w c x) (subst CountsFit (sym (counts_set w c x (omega arith))) g)

  count_put : ledger_at s (set w c x) ≡ ledger_by s (counts_with c x (counts_at w)) w
  count_put =
      ledger_by_lem s (set w c x)
      ∙ ap (λ (C : Counts). ledger_by s C (set w c x)) (counts_set w c x (omega arith))
      ∙ behind s (counts_with c x (counts_at w)) w (omega arith) c x from

-- ---- one more of what is counted
module _ (s : Text) (w : List ℕ) (f : Fits w) where
  pub constraint_fits : get_or w 3704 0 < 64 → Fits (with_one 3704 w)
  constraint_fits h = count_fits s w f 3704 (get_or w 3704 0 + 1) (omega arith) (omega arith) (omega arith)

  pub constraint_counted : get_or w 3704 0 < 64 → ledger_at s (with_one 3704 w) ≡ with_constraints (ledger_at s w) (suc (ledger_at s w).constraints)
  unfolding ledger_at
  constraint_counted h = count_put s w f 3704 (get_or w 3704 0 + 1) (omega arith) (omega arith) (omega arith) ∙ rw add-one

  pub collection_fits : get_or w 3705 0 < 128 → Fits (with_one 3705 w)
  collection_fits h = count_fits s w f 3705 (get_or w 3705 0 + 1) (omega arith) (omega arith) (omega arith)

  pub collection_counted : get_or w 3705 0 < 128 → ledger_at s (with_one 3705 w) ≡ with_collections (ledger_at s w) (suc (ledger_at s w).collections)
  unfolding ledger_at
  collection_counted h = count_put s w f 3705 (get_or w 3705 0 + 1) (omega arith) (omega arith) (omega arith) ∙ rw add-one

  pub pattern_fits_lem : get_or w 3706 0 < 128 → Fits (with_one 3706 w)
  pattern_fits_lem h = count_fits s w f 3706 (get_or w 3706 0 + 1) (omega arith) (omega arith) (omega arith)

  pub pattern_counted : get_or w 3706 0 < 128 → ledger_at s (with_one 3706 w) ≡ with_patterns (ledger_at s w) (suc (ledger_at s w).patterns)
  unfolding ledger_at
  pattern_counted h = count_put s w f 3706 (get_or w 3706 0 + 1) (omega arith) (omega arith) (omega arith) ∙ rw add-one

  pub line_fits : get_or w 3707 0 < 512 → Fits (with_one 3707 w)
  line_fits h = count_fits s w f 3707 (get_or w 3707 0 + 1) (omega arith) (omega arith) (omega arith)

  pub line_counted : get_or w 3707 0 < 512 → ledger_at s (with_one 3707 w) ≡ with_lines (ledger_at s w) (suc (ledger_at s w).lines)
  unfolding ledger_at
  line_counted h = count_put s w f 3707 (get_or w 3707 0 + 1) (omega arith) (omega arith) (omega arith) ∙ rw add-one

  -- the next record is the last constraint
  pub last_fits : Fits (with_last w)
  last_fits = count_fits s w f 3708 (get_or w 3700 0 + 1) (omega arith) (omega arith) (omega arith)

  pub last_put : ledger_at s (with_last w) ≡ last_now (ledger_at s w) (suc (ledger_at s w).size)
  unfolding ledger_at
  last_put = count_put s w f 3708 (get_or w 3700 0 + 1) (omega arith) (omega arith) (omega arith) ∙ rw add-one

-- ---- one more name
-- t put behind the names, which are counted at c, unless it is one of them
known_by : (us : List Text) (t : Text) (i n : ℕ) → i ≡ index_of t us → length us ≡ n → known us t ≡ cond (eqb i n) (us ++ t ∷ []) us
unfolding known
known_by us t i n e l = rw (← index_member t us, ← e, l) (go (dec_lt i n))
  where
    go : Dec (i < n) → cond (ltb i n) us (us ++ t ∷ []) ≡ cond (eqb i n) (us ++ t ∷ []) us
    go (yes h) = rw (lt-ltb i n h, ne_eqb i n (λ z. omega arith))
    go (no h) = let b : i ≤ n = rw (e, ← l) (index_bound t us) in rw (le-ltb i n (omega arith), eq-eqb i n (omega arith))

module _ (s : Text) (w : List ℕ) (f : Fits w) where
  pub roles_many : length (ledger_at s w).roles ≡ get_or w 3701 0
  unfolding ledger_at
  roles_many = names_length s 3600 (get_or w 3701 0) w (omega arith)

  pub methods_many : length (ledger_at s w).methods ≡ get_or w 3702 0
  unfolding ledger_at
  methods_many = names_length s 3632 (get_or w 3702 0) w (omega arith)

  pub declared_many : length (ledger_at s w).declared ≡ get_or w 3703 0
  unfolding ledger_at
  declared_many = names_length s 3664 (get_or w 3703 0) w (omega arith)

-- a name is put in the room of its list
module _ (w : List ℕ) (f : Fits w) (j x : ℕ) (h : j < 3700) where
  below_fits : Fits (set w j x)
  below_fits = fits_by w (set w j x) f (length-set w j x) (subst CountsFit (sym (counts_below w j x h)) (counts_fit w f))

module _ (s : Text) (w : List ℕ) (f : Fits w) (t : Text) (i x : ℕ) (says : name_at s x ≡ t) where
  module _ (few : i < 32) where
    role_more : get_or w 3701 0 ≡ i → ledger_at s (set (set w (3600 + i) x) 3701 (i + 1)) ≡ with_roles (ledger_at s w) ((ledger_at s w).roles ++ t ∷ [])
    unfolding ledger_at
    role_more e =
        let u : List ℕ = set w (3600 + i) x in
        let o : counts_at u ≡ counts_at w = counts_below w (3600 + i) x (omega arith) in
        let D : Counts = counts_with 3701 (i + 1) (counts_at w) in
        count_put s u (below_fits w f (3600 + i) x (omega arith)) 3701 (i + 1) (omega arith) (omega arith)
        (subst (λ (C : Counts). CountsFit (counts_with 3701 (i + 1) C)) (sym o) (omega arith))
        ∙ ap (λ (C : Counts). ledger_by s (counts_with 3701 (i + 1) C) u) o
        ∙ in_roles s D w (omega arith) (3600 + i) x (omega arith) (omega arith)
        ∙ ap (with_roles (ledger_at s w)) (names_append s 3600 i w x (omega arith) ∙ rw (says, e))

    pub role_name_fits : Fits (with_name 3600 3701 i x w)
    role_name_fits = go (eqb i (get_or w 3701 0))
      where
        go : (b : Bool) → Fits (cond b (set (set w (3600 + i) x) 3701 (i + 1)) w)
        go true =
            count_fits s (set w (3600 + i) x) (below_fits w f (3600 + i) x (omega arith)) 3701 (i + 1) (omega arith) (omega arith)
            (subst (λ (C : Counts). CountsFit (counts_with 3701 (i + 1) C)) (sym (counts_below w (3600 + i) x (omega arith))) (omega arith))
        go false = f

    pub role_named : i ≡ index_of t (ledger_at s w).roles → ledger_at s (with_name 3600 3701 i x w) ≡ with_roles (ledger_at s w) (known (ledger_at s w).roles t)
    role_named e = rw (known_by (ledger_at s w).roles t i (get_or w 3701 0) e (roles_many s w f)) (go (eqb i (get_or w 3701 0)) refl)
      where
        go : (b : Bool) → eqb i (get_or w 3701 0) ≡ b
            → ledger_at s (cond b (set (set w (3600 + i) x) 3701 (i + 1)) w) ≡ with_roles (ledger_at s w) (cond b ((ledger_at s w).roles ++ t ∷ []) (ledger_at s w).roles)
        go true q = role_more (sym (eqb-true i (get_or w 3701 0) q))
        go false q = refl

  module _ (few : i < 31) where
    method_more : get_or w 3702 0 ≡ i → ledger_at s (set (set w (3632 + i) x) 3702 (i + 1)) ≡ with_methods (ledger_at s w) ((ledger_at s w).methods ++ t ∷ [])
    unfolding ledger_at
    method_more e =
        let u : List ℕ = set w (3632 + i) x in
        let o : counts_at u ≡ counts_at w = counts_below w (3632 + i) x (omega arith) in
        let D : Counts = counts_with 3702 (i + 1) (counts_at w) in
        count_put s u (below_fits w f (3632 + i) x (omega arith)) 3702 (i + 1) (omega arith) (omega arith)
        (subst (λ (C : Counts). CountsFit (counts_with 3702 (i + 1) C)) (sym o) (omega arith))
        ∙ ap (λ (C : Counts). ledger_by s (counts_with 3702 (i + 1) C) u) o
        ∙ in_methods_lem s D w (omega arith) (3632 + i) x (omega arith) (omega arith)
        ∙ ap (with_methods (ledger_at s w)) (names_append s 3632 i w x (omega arith) ∙ rw (says, e))

    pub method_name_fits : Fits (with_name 3632 3702 i x w)
    method_name_fits = go (eqb i (get_or w 3702 0))
      where
        go : (b : Bool) → Fits (cond b (set (set w (3632 + i) x) 3702 (i + 1)) w)
        go true =
            count_fits s (set w (3632 + i) x) (below_fits w f (3632 + i) x (omega arith)) 3702 (i + 1) (omega arith) (omega arith)
            (subst (λ (C : Counts). CountsFit (counts_with 3702 (i + 1) C)) (sym (counts_below w (3632 + i) x (omega arith))) (omega arith))
        go false = f

    pub method_named : i ≡ index_of t (ledger_at s w).methods → ledger_at s (with_name 3632 3702 i x w) ≡ with_methods (ledger_at s w) (known (ledger_at s w).methods t)
    method_named e = rw (known_by (ledger_at s w).methods t i (get_or w 3702 0) e (methods_many s w f)) (go (eqb i (get_or w 3702 0)) refl)
      where
        go : (b : Bool) → eqb i (get_or w 3702 0) ≡ b
            → ledger_at s (cond b (set (set w (3632 + i) x) 3702 (i + 1)) w) ≡ with_methods (ledger_at s w) (cond b ((ledger_at s w).methods ++ t ∷ []) (ledger_at s w).methods)
        go true q = method_more (sym (eqb-true i (get_or w 3702 0) q))
        go false q = refl

  module _ (few : i < 32) where
    declared_more : get_or w 3703 0 ≡ i → ledger_at s (set (set w (3664 + i) x) 3703 (i + 1)) ≡ with_declared (ledger_at s w) ((ledger_at s w).declared ++ t ∷ [])
    unfolding ledger_at
    declared_more e =
        let u : List ℕ = set w (3664 + i) x in
        let o : counts_at u ≡ counts_at w = counts_below w (3664 + i) x (omega arith) in
        let D : Counts = counts_with 3703 (i + 1) (counts_at w) in
        count_put s u (below_fits w f (3664 + i) x (omega arith)) 3703 (i + 1) (omega arith) (omega arith)
        (subst (λ (C : Counts). CountsFit (counts_with 3703 (i + 1) C)) (sym o) (omega arith))
        ∙ ap (λ (C : Counts). ledger_by s (counts_with 3703 (i + 1) C) u) o
        ∙ in_declared s D w (omega arith) (3664 + i) x (omega arith) (omega arith)
        ∙ ap (with_declared (ledger_at s w)) (names_append s 3664 i w x (omega arith) ∙ rw (says, e))

    pub declared_name_fits : Fits (with_name 3664 3703 i x w)
    declared_name_fits = go (eqb i (get_or w 3703 0))
      where
        go : (b : Bool) → Fits (cond b (set (set w (3664 + i) x) 3703 (i + 1)) w)
        go true =
            count_fits s (set w (3664 + i) x) (below_fits w f (3664 + i) x (omega arith)) 3703 (i + 1) (omega arith) (omega arith)
            (subst (λ (C : Counts). CountsFit (counts_with 3703 (i + 1) C)) (sym (counts_below w (3664 + i) x (omega arith))) (omega arith))
        go false = f

    pub declared_named : i ≡ index_of t (ledger_at s w).declared → ledger_at s (with_name 3664 3703 i x w) ≡ with_declared (ledger_at s w) (known (ledger_at s w).declared t)
    declared_named e = rw (known_by (ledger_at s w).declared t i (get_or w 3703 0) e (declared_many s w f)) (go (eqb i (get_or w 3703 0)) refl)
      where
        go : (b : Bool) → eqb i (get_or w 3703 0) ≡ b
            → ledger_at s (cond b (set (set w (3664 + i) x) 3703 (i + 1)) w) ≡ with_declared (ledger_at s w) (cond b ((ledger_at s w).declared ++ t ∷ []) (ledger_at s w).declared)
        go true q = declared_more (sym (eqb-true i (get_or w 3703 0) q))
        go false q = refl

-- ---- one more record
-- the ledger with the record r, its names and counts aside
abbrev pub recorded : Ledger → Record → Ledger
recorded L r = record {
  size = one_more (leb L.size most_kept) L.size;
  records = cond (ltb L.size most_kept) (L.records ++ r ∷ []) L.records;
  roles = L.roles;
  methods = L.methods;
  declared = L.declared;
  constraints = L.constraints;
  collections = L.collections;
  patterns = L.patterns;
  lines = L.lines;
  last = L.last;
}

module _ (s : Text) (w : List ℕ) (f : Fits w) (x : ℕ) where
  records_append : (n : ℕ) → n < 3600 → records_at s (n + 1) (set w n x) ≡ records_at s n w ++ record_at s x ∷ []
  unfolding records_at
  records_append n h =
      let e : least (n + 1) most_kept ≡ suc n = rw add-one (go (dec_lt (suc n) 3600)) in
      let o : least n most_kept ≡ n = rw (lt-ltb n 3600 h) in
      let k : take (suc n) (set w n x) ≡ take n w ++ x ∷ [] = take-suc-set w n x (omega arith) in
      ap (λ (m : ℕ). map (record_at s) (take m (set w n x))) e
      ∙ ap (λ (l : List ℕ). map (record_at s) l) k
      ∙ map-append (record_at s) (take n w) (x ∷ [])
      ∙ ap (λ (m : ℕ). map (record_at s) (take m w) ++ record_at s x ∷ []) (sym o)
    where
      go : Dec (suc n < 3600) → least (suc n) most_kept ≡ suc n
      go (yes l) = rw (lt-ltb (suc n) 3600 l)
      go (no l) = rw (le-ltb (suc n) 3600 (omega arith)) (omega arith)

  room_fits : (n : ℕ) → get_or w 3700 0 ≡ n → n < 3600 → Fits (set (set w n x) 3700 (n + 1))
  room_fits n e h =
      count_fits s (set w n x) (below_fits w f n x (omega arith)) 3700 (n + 1) (omega arith) (omega arith)
      (subst (λ (C : Counts). CountsFit (counts_with 3700 (n + 1) C)) (sym (counts_below w n x (omega arith))) (omega arith))

  room_put : (n : ℕ) → get_or w 3700 0 ≡ n → n < 3600 → ledger_at s (set (set w n x) 3700 (n + 1)) ≡ recorded (ledger_at s w) (record_at s x)
  unfolding ledger_at
  room_put n e h =
      let u : List ℕ = set w n x in
      let o : counts_at u ≡ counts_at w = counts_below w n x (omega arith) in
      let D : Counts = counts_with 3700 (n + 1) (counts_at w) in
      count_put s u (below_fits w f n x (omega arith)) 3700 (n + 1) (omega arith) (omega arith)
      (subst (λ (C : Counts). CountsFit (counts_with 3700 (n + 1) C)) (sym o) (omega arith))
      ∙ ap (λ (C : Counts). ledger_by s (counts_with 3700 (n + 1) C) u) o
      ∙ in_records s D w (omega arith) n x (omega arith)
      ∙ rw (records_append n h, e, lt-ltb n 3600 h, le-leb n 3600 (omega arith), add-one n)

  -- the first one that has no room is counted
  over_fits : get_or w 3700 0 ≡ 3600 → Fits (set w 3700 3601)
  over_fits e = count_fits s w f 3700 3601 (omega arith) (omega arith) (omega arith)

  over_put : get_or w 3700 0 ≡ 3600 → ledger_at s (set w 3700 3601) ≡ recorded (ledger_at s w) (record_at s x)
  unfolding ledger_at records_at
  over_put e = count_put s w f 3700 3601 (omega arith) (omega arith) (omega arith) ∙ rw e

  -- and no more
  past_put : get_or w 3700 0 ≡ 3601 → ledger_at s w ≡ recorded (ledger_at s w) (record_at s x)
  unfolding ledger_at
  past_put e = rw e

  pub record_fits : Fits (with_record x w)
  record_fits = go (dec_lt (get_or w 3700 0) 3600)
    where
      else_go : (n : ℕ) → 3600 ≤ n → get_or w 3700 0 ≡ n → Dec (3600 < n) → Fits (record_put n x w)
      else_go n h e (yes l) = rw (le-ltb n 3600 h, ne_eqb n 3600 (λ z. omega arith)) f
      else_go n h e (no l) = let k : n ≡ 3600 = omega arith in rw (le-ltb n 3600 h, eq-eqb n 3600 k, k) (over_fits (e ∙ k))

      go : Dec (get_or w 3700 0 < 3600) → Fits (with_record x w)
      go (yes l) = rw (lt-ltb (get_or w 3700 0) 3600 l) (room_fits (get_or w 3700 0) refl l)
      go (no l) = else_go (get_or w 3700 0) (omega arith) refl (dec_lt 3600 (get_or w 3700 0))

  pub record_put_lem : ledger_at s (with_record x w) ≡ recorded (ledger_at s w) (record_at s x)
  record_put_lem = go (dec_lt (get_or w 3700 0) 3600)
    where
      else_go : (n : ℕ) → 3600 ≤ n → get_or w 3700 0 ≡ n → Dec (3600 < n) → ledger_at s (record_put n x w) ≡ recorded (ledger_at s w) (record_at s x)
      else_go n h e (yes l) = rw (le-ltb n 3600 h, ne_eqb n 3600 (λ z. omega arith)) (past_put (omega arith))
      else_go n h e (no l) = let k : n ≡ 3600 = omega arith in rw (le-ltb n 3600 h, eq-eqb n 3600 k, k) (over_put (e ∙ k))

      go : Dec (get_or w 3700 0 < 3600) → ledger_at s (with_record x w) ≡ recorded (ledger_at s w) (record_at s x)
      go (yes l) = rw (lt-ltb (get_or w 3700 0) 3600 l) (room_put (get_or w 3700 0) refl l)
      go (no l) = else_go (get_or w 3700 0) (omega arith) refl (dec_lt 3600 (get_or w 3700 0))

-- ---- the last constraint guarded
map_set : {A B : Type 0} (g : A → B) (xs : List A) (i : ℕ) (a : A) → map g (set xs i a) ≡ set (map g xs) i (g a)
map_set g [] i a = refl
map_set g (x ∷ xs) zero a = refl
map_set g (x ∷ xs) (suc i) a = ap (λ l. g x ∷ l) (map_set g xs i a)

take_set : {A : Type 0} (n : ℕ) (xs : List A) (i : ℕ) (a : A) → take n (set xs i a) ≡ set (take n xs) i a
take_set n xs i a = go (dec_lt i n)
  where
    go : Dec (i < n) → take n (set xs i a) ≡ set (take n xs) i a
    go (yes h) = take-set-lt n xs i a h
    go (no h) = take-set-le n xs i a (omega arith) ∙ sym (set_out (take n xs) i a (simp length-take (omega arith)))

records_set : (s : Text) (n : ℕ) (w : List ℕ) (i x : ℕ) → records_at s n (set w i x) ≡ set (records_at s n w) i (record_at s x)
unfolding records_at
records_set s n w i x = ap (λ (l : List ℕ). map (record_at s) l) (take_set (least n most_kept) w i x) ∙ map_set (record_at s) (take (least n most_kept) w) i x

module _ (w : List ℕ) (f : Fits w) (n : ℕ) (e : n ≡ get_or w 3708 0) where
  pub guard_none : n ≡ 0 → Guarded w w
  unfolding ledger_at marked
  guard_none z = record { ledger = λ s. rw (← e, z); fits = f }

  -- it has no room
  pub guard_past : 3600 < n → Guarded w w
  unfolding ledger_at marked records_at
  guard_past h = record { ledger = λ s. rw (← e, ne_eqb n 0 (λ z. omega arith), set_out (records_at s (get_or w 3700 0) w) (n - 1) (record_at s 2) (long s)); fits = f }
    where
      long : (s : Text) → length (records_at s (get_or w 3700 0) w) ≤ n - 1
      long s = let k = fewest (get_or w 3700 0) in rw (length-map (take (least (get_or w 3700 0) most_kept) w) (record_at s)) (simp length-take (omega arith))

  pub guard_stays : (n ≡ 0) ⊎ ((n ≡ 0 → ⊥) × (3600 < n)) → Guarded w w
  guard_stays (inl z) = guard_none z
  guard_stays (inr (z, h)) = guard_past h

  pub guard_put : (x : ℕ) → x ≡ 2 → (n ≡ 0 → ⊥) → n ≤ 3600 → Guarded w (set w (n - 1) x)
  unfolding ledger_at marked field_by
  guard_put x auth z h = rw auth (record { ledger = held; fits = below_fits w f (n - 1) 2 (omega arith) })
    where
      held : (s : Text) → ledger_at s (set w (n - 1) 2) ≡ marked (ledger_at s w)
      held s =
          ledger_by_lem s (set w (n - 1) 2)
          ∙ ap (λ (C : Counts). ledger_by s C (set w (n - 1) 2)) (counts_below w (n - 1) 2 (omega arith))
          ∙ in_records s (counts_at w) w (omega arith) (n - 1) 2 (omega arith)
          ∙ rw (records_set s (get_or w 3700 0) w (n - 1) 2, ← e, ne_eqb n 0 z)

-- ---- a table of zeros
pub zeros_fit : (w : List ℕ) → 4096 ≤ length w → ((i : ℕ) → i < 4096 → get_or w i 0 ≡ 0) → Fits w
zeros_fit w h z =
    fits_by_zeros (z 3700 (omega arith)) (z 3701 (omega arith)) (z 3702 (omega arith)) (z 3703 (omega arith)) (z 3704 (omega arith))
    (z 3705 (omega arith)) (z 3706 (omega arith)) (z 3707 (omega arith)) (z 3708 (omega arith))
  where
    fits_by_zeros : get_or w 3700 0 ≡ 0 → get_or w 3701 0 ≡ 0 → get_or w 3702 0 ≡ 0 → get_or w 3703 0 ≡ 0 → get_or w 3704 0 ≡ 0
        → get_or w 3705 0 ≡ 0 → get_or w 3706 0 ≡ 0 → get_or w 3707 0 ≡ 0 → get_or w 3708 0 ≡ 0 → Fits w
    fits_by_zeros a b c d e g i j k = omega arith

pub zeros_hold_none : (s : Text) (w : List ℕ) → ((i : ℕ) → i < 4096 → get_or w i 0 ≡ 0) → ledger_at s w ≡ no_records
unfolding ledger_at records_at names_at
zeros_hold_none s w z =
    rw (
      z 3700 (omega arith),
      z 3701 (omega arith),
      z 3702 (omega arith),
      z 3703 (omega arith),
      z 3704 (omega arith),
      z 3705 (omega arith),
      z 3706 (omega arith),
      z 3707 (omega arith),
      z 3708 (omega arith),
    )

-- the work table as a call begins with it
pub zeroed_numbers : (w : List ℕ) (i : ℕ) → i < 4096 → get_or (zeroed 4096 w) i 0 ≡ 0
unfolding zeroed
zeroed_numbers w i h =
    get_or-append (replicate 4096 0) (drop 4096 w) 0 i (rw (length-replicate {A = ℕ} 4096 0) h) ∙ get_or-replicate 4096 i 0 0 h

-- ---- the writes, as the code makes them
module _ (w : List ℕ) (a c i x n : ℕ) (e : n ≡ get_or w c 0) where
  pub name_put : i ≡ n → set (set w (a + i) x) c (i + 1) ≡ with_name a c i x w
  name_put h = rw (← e, eq-eqb i n h)

  pub name_there : (i ≡ n → ⊥) → w ≡ with_name a c i x w
  name_there h = rw (← e, ne_eqb i n h)

-- the count stands in the table
pub size_there : (w : List ℕ) (i x : ℕ) → 4096 ≤ length w → 3700 < length (set w i x)
size_there w i x h = rw (length-set w i x) (omega arith)

module _ (w : List ℕ) (x n : ℕ) (e : n ≡ get_or w 3700 0) where
  pub record_room : n < 3600 → set (set w n x) 3700 (n + 1) ≡ with_record x w
  record_room h = rw (← e, lt-ltb n 3600 h)

  pub record_over : 3600 ≤ n → n ≡ 3600 → set w 3700 (n + 1) ≡ with_record x w
  record_over h z = rw (← e, le-ltb n 3600 h, eq-eqb n 3600 z)

  pub record_past : 3600 ≤ n → (n ≡ 3600 → ⊥) → w ≡ with_record x w
  record_past h z = rw (← e, le-ltb n 3600 h, ne_eqb n 3600 z)

-- the constraints may be counted behind the last one
module _ (w u : List ℕ) (f : Fits w) (e : u ≡ with_last w) where
  pub constraint_there : 3704 < length u
  constraint_there = rw (e, length-set w 3708 (get_or w 3700 0 + 1)) (omega arith)

  pub constraint_few : get_or u 3704 0 ≤ 3602
  constraint_few = rw (e, get_or-set_other w 3708 3704 (get_or w 3700 0 + 1) 0 (λ z. omega arith)) (omega arith)
