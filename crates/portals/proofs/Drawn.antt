-- The listing of arranged records: its declared roles and its constraints.
use mathlib.Core.Path.{◌≡◌, refl, sym, ap, ap₂, ◌∙◌}
use mathlib.Core.Bool.{Bool, true, false, cond}
use mathlib.Core.List.{List, [], ◌∷◌, ◌++◌, flat_map, append-nil}
use lib.Seq.{append_snoc}
use Rattle.text.specs.Texts.{Text, bytes, same, run, on_last}
use Rattle.listings.specs.Records.{Record, is_kind, fields_where, declared_in}
use Rattle.listings.specs.Listings.{Collected, Constrained, adds, constraints_in}
use Rattle.listings.specs.declared.records.Kind.TheVariants.{Role, Allow, Pattern, Method, Omit, End}
use Rattle.portals.specs.Records.{record_of}
use Rattle.portals.proofs.Eaches.{Each, each_append, each_map, each_flat}
use Rattle.portals.proofs.Shapes.{of_kind, under_collection, of_collection, of_collections, as_given, as_listed, each_collected, Item, declares, constrains, given_by, declared_by}
use Rattle.portals.proofs.Fields.{fields_append, fields_none, fields_of_kind}

-- the records of a listing with these roles and constraints, up to its `end`
abbrev pub records_for : List Text → List Constrained → List Record
records_for ns ks = of_kind Role ns ++ flat_map as_listed ks

-- ---- the roles
NoRole : Record → Type 0
NoRole r = is_kind Role r ≡ false

no_role_allowed : (ns : List Text) → Each NoRole (of_kind Allow ns)
unfolding NoRole
no_role_allowed ns = each_map NoRole (record_of Allow) (λ t. refl) ns

no_role_collected : (cs : List Collected) → Each NoRole (of_collections cs)
unfolding NoRole
no_role_collected cs = each_collected NoRole refl (λ t. refl) (λ t. refl) (λ t. refl) cs

no_role_listed : (k : Constrained) → Each NoRole (as_listed k)
unfolding NoRole
no_role_listed k = (refl, each_append NoRole (of_kind Allow k.allowed) (of_collections k.collections) (no_role_allowed k.allowed) (no_role_collected k.collections))

no_role_given : (k : Constrained) → Each NoRole (as_given k)
unfolding NoRole
no_role_given k = (refl, each_append NoRole (of_collections k.collections) (of_kind Allow k.allowed) (no_role_collected k.collections) (no_role_allowed k.allowed))

-- of the listing's records, and with its `end`
pub declared_listed : (ns : List Text) (ks : List Constrained) → declared_in (records_for ns ks) ≡ ns
unfolding declared_in NoRole
declared_listed ns ks =
    fields_append (is_kind Role) (of_kind Role ns) (flat_map as_listed ks)
    ∙ ap₂ ◌++◌ (fields_of_kind (is_kind Role) Role (λ t. refl) ns) (fields_none (is_kind Role) (flat_map as_listed ks) (each_flat NoRole as_listed no_role_listed ks))
    ∙ append-nil ns

pub declared_drawn : (ns : List Text) (ks : List Constrained) → declared_in (records_for ns ks ++ record_of End [] ∷ []) ≡ ns
unfolding declared_in fields_where
declared_drawn ns ks = fields_append (is_kind Role) (records_for ns ks) (record_of End [] ∷ []) ∙ append-nil _ ∙ declared_listed ns ks

-- of the file's records
pub declared_given : (I : List Item) → declared_in (flat_map given_by I) ≡ declared_by I
unfolding declared_in flat_map declared_by fields_where NoRole
declared_given [] = refl
declared_given (declares n ∷ I) = ap (λ (x : List Text). n ∷ x) (declared_given I)
declared_given (constrains k ∷ I) =
    fields_append (is_kind Role) (as_given k) (flat_map given_by I)
    ∙ ap₂ ◌++◌ (fields_none (is_kind Role) (as_given k) (no_role_given k)) (declared_given I)

-- ---- the constraints
run_append {ℓ κ} : {S : Type ℓ} {A : Type κ} (f : S → A → S) (z : S) (xs ys : List A) → run f z (xs ++ ys) ≡ run f (run f z xs) ys
unfolding run
run_append f z [] ys = refl
run_append f z (x ∷ xs) ys = run_append f (f z x) xs ys

on_last_lem : {A : Type 0} (f : A → A) (xs : List A) (y : A) → on_last f (xs ++ y ∷ []) ≡ xs ++ f y ∷ []
unfolding on_last
on_last_lem f [] y = refl
on_last_lem f (x ∷ []) y = refl
on_last_lem f (x ∷ z ∷ zs) y = ap (λ l. x ∷ l) (on_last_lem f (z ∷ zs) y)

abbrev collected : List Text → List Text → List Text → Collected
collected ps ms os = record { patterns = ps; methods = ms; omitted = os }

abbrev constrained : Bool → List Text → List Collected → Constrained
constrained o ns cs = record { is_open = o; allowed = ns; collections = cs }

module _ (ks : List Constrained) (o : Bool) (ns : List Text) where
  -- behind others, a constraint with those collections so far
  abbrev with : List Collected → List Constrained
  with cs = ks ++ constrained o ns cs ∷ []

  -- behind those, a last collection
  abbrev and : List Collected → Collected → List Constrained
  and cs c = with (cs ++ c ∷ [])

  changed : (f : Collected → Collected) (cs : List Collected) (c : Collected)
      → on_last (λ (k : Constrained). constrained k.is_open k.allowed (on_last f k.collections)) (and cs c) ≡ and cs (f c)
  changed f cs c = on_last_lem _ ks (constrained o ns (cs ++ c ∷ [])) ∙ ap with (on_last_lem f cs c)

  run_patterns : (cs : List Collected) (ps ms os ts : List Text) → run adds (and cs (collected ps ms os)) (of_kind Pattern ts) ≡ and cs (collected (ps ++ ts) ms os)
  unfolding run adds
  run_patterns cs ps ms os [] = ap (λ (x : List Text). and cs (collected x ms os)) (sym (append-nil ps))
  run_patterns cs ps ms os (t ∷ ts) =
      ap (λ (x : List Constrained). run adds x (of_kind Pattern ts)) (changed _ cs (collected ps ms os))
      ∙ run_patterns cs (ps ++ t ∷ []) ms os ts ∙ ap (λ (x : List Text). and cs (collected x ms os)) (append_snoc ps t ts)

  run_methods : (cs : List Collected) (ps ms os ts : List Text) → run adds (and cs (collected ps ms os)) (of_kind Method ts) ≡ and cs (collected ps (ms ++ ts) os)
  unfolding run adds
  run_methods cs ps ms os [] = ap (λ (x : List Text). and cs (collected ps x os)) (sym (append-nil ms))
  run_methods cs ps ms os (t ∷ ts) =
      ap (λ (x : List Constrained). run adds x (of_kind Method ts)) (changed _ cs (collected ps ms os))
      ∙ run_methods cs ps (ms ++ t ∷ []) os ts ∙ ap (λ (x : List Text). and cs (collected ps x os)) (append_snoc ms t ts)

  run_omitted : (cs : List Collected) (ps ms os ts : List Text) → run adds (and cs (collected ps ms os)) (of_kind Omit ts) ≡ and cs (collected ps ms (os ++ ts))
  unfolding run adds
  run_omitted cs ps ms os [] = ap (λ (x : List Text). and cs (collected ps ms x)) (sym (append-nil os))
  run_omitted cs ps ms os (t ∷ ts) =
      ap (λ (x : List Constrained). run adds x (of_kind Omit ts)) (changed _ cs (collected ps ms os))
      ∙ run_omitted cs ps ms (os ++ t ∷ []) ts ∙ ap (λ (x : List Text). and cs (collected ps ms x)) (append_snoc os t ts)

  -- one more collection
  run_collection : (cs : List Collected) (c : Collected) → run adds (with cs) (of_collection c) ≡ with (cs ++ c ∷ [])
  unfolding run adds
  run_collection cs c =
      ap (λ (x : List Constrained). run adds x (under_collection c)) (on_last_lem _ ks (constrained o ns cs))
      ∙ run_append adds (and cs (collected [] [] [])) (of_kind Pattern c.patterns) _
      ∙ ap (λ (x : List Constrained). run adds x (of_kind Method c.methods ++ of_kind Omit c.omitted)) (run_patterns cs [] [] [] c.patterns)
      ∙ run_append adds (and cs (collected c.patterns [] [])) (of_kind Method c.methods) _
      ∙ ap (λ (x : List Constrained). run adds x (of_kind Omit c.omitted)) (run_methods cs c.patterns [] [] c.methods)
      ∙ run_omitted cs c.patterns c.methods [] c.omitted

  run_collections : (cs ds : List Collected) → run adds (with cs) (of_collections ds) ≡ with (cs ++ ds)
  unfolding run flat_map
  run_collections cs [] = ap with (sym (append-nil cs))
  run_collections cs (d ∷ ds) =
      run_append adds (with cs) (of_collection d) (of_collections ds)
      ∙ ap (λ (x : List Constrained). run adds x (of_collections ds)) (run_collection cs d)
      ∙ run_collections (cs ++ d ∷ []) ds ∙ ap with (append_snoc cs d ds)

-- the names that it allows
run_allowed : (ks : List Constrained) (o : Bool) (ns ts : List Text) → run adds (ks ++ constrained o ns [] ∷ []) (of_kind Allow ts) ≡ ks ++ constrained o (ns ++ ts) [] ∷ []
unfolding run adds
run_allowed ks o ns [] = ap (λ (x : List Text). ks ++ constrained o x [] ∷ []) (sym (append-nil ns))
run_allowed ks o ns (t ∷ ts) =
    ap (λ (x : List Constrained). run adds x (of_kind Allow ts)) (on_last_lem _ ks (constrained o ns []))
    ∙ run_allowed ks o (ns ++ t ∷ []) ts ∙ ap (λ (x : List Text). ks ++ constrained o x [] ∷ []) (append_snoc ns t ts)

-- `open` is open, `auth` is not
head_tells : (b : Bool) → same (cond b (bytes "open") (bytes "auth")) (bytes "open") ≡ b
unfolding same
head_tells true = refl
head_tells false = refl

-- one more constraint
run_constraint : (ks : List Constrained) (k : Constrained) → run adds ks (as_listed k) ≡ ks ++ k ∷ []
unfolding run adds
run_constraint ks k =
    ap (λ (b : Bool). run adds (ks ++ constrained b [] [] ∷ []) (of_kind Allow k.allowed ++ of_collections k.collections)) (head_tells k.is_open)
    ∙ run_append adds (ks ++ constrained k.is_open [] [] ∷ []) (of_kind Allow k.allowed) _
    ∙ ap (λ (x : List Constrained). run adds x (of_collections k.collections)) (run_allowed ks k.is_open [] k.allowed)
    ∙ run_collections ks k.is_open k.allowed [] k.collections

run_constraints : (js ks : List Constrained) → run adds js (flat_map as_listed ks) ≡ js ++ ks
unfolding run flat_map
run_constraints js [] = sym (append-nil js)
run_constraints js (k ∷ ks) =
    run_append adds js (as_listed k) (flat_map as_listed ks)
    ∙ ap (λ (x : List Constrained). run adds x (flat_map as_listed ks)) (run_constraint js k)
    ∙ run_constraints (js ++ k ∷ []) ks ∙ append_snoc js k ks

run_roles : (js : List Constrained) (ns : List Text) → run adds js (of_kind Role ns) ≡ js
unfolding run adds
run_roles js [] = refl
run_roles js (n ∷ ns) = run_roles js ns

pub constraints_drawn : (ns : List Text) (ks : List Constrained) → constraints_in (records_for ns ks ++ record_of End [] ∷ []) ≡ ks
unfolding constraints_in run adds
constraints_drawn ns ks =
    run_append adds [] (records_for ns ks) (record_of End [] ∷ [])
    ∙ run_append adds [] (of_kind Role ns) (flat_map as_listed ks)
    ∙ ap (λ (x : List Constrained). run adds x (flat_map as_listed ks)) (run_roles [] ns)
    ∙ run_constraints [] ks
