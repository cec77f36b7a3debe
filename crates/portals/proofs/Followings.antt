-- What may follow what: the records of a listing with roles and constraints of a file's shape stand in their places.
use mathlib.Core.Path.{◌≡◌, refl, sym, ap, subst, ◌∙◌}
use mathlib.Core.Bool.{Bool, true, false, cond}
use mathlib.Core.List.{List, [], ◌∷◌, ◌++◌, flat_map, append-nil}
use mathlib.Core.Logic.{◌⊎◌, inl, inr}
use Rattle.text.specs.Texts.{Text, bytes, same}
use Rattle.text.proofs.Truths.{never}
use Rattle.listings.specs.Records.{Record, stage_of, stage_after, is_among, may_follow}
use Rattle.listings.specs.Listings.{Collected, Constrained, is_empty}
use Rattle.listings.specs.declared.records.Kind.{Kind}
use Rattle.listings.specs.declared.records.Kind.TheVariants.{Role, Constraint, Allow, Collection, Pattern, Method, Omit, End}
use Rattle.listings.specs.declared.records.Stage.{Stage}
use Rattle.listings.specs.declared.records.Stage.TheVariants.{AfterFirst, AfterRole, AfterOpen, AfterAuth, AfterAllow, AfterCollection, AfterPattern, AfterMethod, AfterOmit}
use Rattle.portals.specs.Records.{record_of}
use Rattle.portals.proofs.Eaches.{Each}
use Rattle.portals.proofs.Shapes.{of_kind, of_collection, of_collections, headed, as_listed, ShapedCollection, is_none, Shaped}
use Rattle.portals.proofs.Drawn.{records_for}

-- ---- from place to place
-- each record may stand where those before it leave the reader
abbrev pub Follows : Stage → List Record → Type 0
Follows p [] = Unit {0}
Follows p (r ∷ rs) = (may_follow p r.kind ≡ true) × Follows (stage_of r) rs

abbrev pub last_stage : Stage → List Record → Stage
last_stage p [] = p
last_stage p (r ∷ rs) = last_stage (stage_of r) rs

pub stage_after_lem : (rs : List Record) → stage_after rs ≡ last_stage AfterFirst rs
unfolding stage_after
stage_after_lem [] = refl
stage_after_lem (r ∷ []) = refl
stage_after_lem (r ∷ q ∷ rs) = stage_after_lem (q ∷ rs)

follows_append : (p : Stage) (xs ys : List Record) → Follows p xs → Follows (last_stage p xs) ys → Follows p (xs ++ ys)
follows_append p [] ys f g = g
follows_append p (x ∷ xs) ys f g = (f.0, follows_append (stage_of x) xs ys f.1 g)

last_append : (p : Stage) (xs ys : List Record) → last_stage p (xs ++ ys) ≡ last_stage (last_stage p xs) ys
last_append p [] ys = refl
last_append p (x ∷ xs) ys = last_append (stage_of x) xs ys

-- the record behind some of them
pub follows_at : (p : Stage) (xs ys : List Record) (r : Record) → Follows p (xs ++ r ∷ ys) → may_follow (last_stage p xs) r.kind ≡ true
follows_at p [] ys r f = f.0
follows_at p (x ∷ xs) ys r f = follows_at (stage_of x) xs ys r f.1

-- ---- records of one kind
module _ (k : Kind) (q : Stage) (leaves : (t : Text) → stage_of (record_of k t) ≡ q) (again : may_follow q k ≡ true) where
  kind_follows : (p : Stage) → may_follow p k ≡ true → (ts : List Text) → Follows p (of_kind k ts)
  kind_follows p h [] = tt
  kind_follows p h (t ∷ ts) = (h, rw (leaves t) (kind_follows q again ts))

  kind_last : (p : Stage) (ts : List Text) → last_stage p (of_kind k ts) ≡ cond (is_empty ts) p q
  kind_last p [] = refl
  kind_last p (t ∷ ts) = ap (λ (x : Stage). last_stage x (of_kind k ts)) (leaves t) ∙ kind_last q ts ∙ stays (is_empty ts)
    where
      stays : (b : Bool) → cond b q q ≡ q
      stays true = refl
      stays false = refl

-- ---- a collection
-- where a collection may begin; where it, a constraint and `end` may
abbrev Ready : Stage → Type 0
Ready p = may_follow p Collection ≡ true

pub record Rests (p : Stage) : Type 0 where
  pub constraint : may_follow p Constraint ≡ true
  pub end : may_follow p End ≡ true

pub record Closes (p : Stage) : Type 0 where
  pub rests : Rests p
  pub ready : Ready p

after_pattern : Closes AfterPattern
unfolding may_follow is_among
after_pattern = record { rests = record { constraint = refl; end = refl }; ready = refl }

after_method : Closes AfterMethod
unfolding may_follow is_among
after_method = record { rests = record { constraint = refl; end = refl }; ready = refl }

after_omit : Closes AfterOmit
unfolding may_follow is_among
after_omit = record { rests = record { constraint = refl; end = refl }; ready = refl }

-- its methods or its omissions
module _ (ms os : List Text) where
  methods_follow : (ms ≡ []) ⊎ (os ≡ []) → Follows AfterPattern (of_kind Method ms ++ of_kind Omit os) × Closes (last_stage AfterPattern (of_kind Method ms ++ of_kind Omit os))
  unfolding may_follow is_among stage_of
  methods_follow (inl e) =
      rw e (kind_follows Omit AfterOmit (λ t. refl) refl AfterPattern refl os, subst Closes (sym (kind_last Omit AfterOmit (λ t. refl) refl AfterPattern os)) (either (is_empty os)))
    where
      either : (b : Bool) → Closes (cond b AfterPattern AfterOmit)
      either true = after_pattern
      either false = after_omit
  methods_follow (inr e) =
      rw (e, append-nil (of_kind Method ms))
      (kind_follows Method AfterMethod (λ t. refl) refl AfterPattern refl ms, subst Closes (sym (kind_last Method AfterMethod (λ t. refl) refl AfterPattern ms)) (either (is_empty ms)))
    where
      either : (b : Bool) → Closes (cond b AfterPattern AfterMethod)
      either true = after_pattern
      either false = after_method

collection_follows : (p : Stage) (c : Collected) → Ready p → ShapedCollection c → Follows p (of_collection c) × Closes (last_stage p (of_collection c))
unfolding may_follow is_among stage_of
collection_follows p c h s =
    let ps = of_kind Pattern c.patterns in
    let rest = of_kind Method c.methods ++ of_kind Omit c.omitted in
    let m = methods_follow c.methods c.omitted s.one_sort in
    let l : last_stage AfterCollection ps ≡ AfterPattern =
    kind_last Pattern AfterPattern (λ t. refl) refl AfterCollection c.patterns ∙ ap (λ (b : Bool). cond b AfterCollection AfterPattern) s.patterned in (
      (h, follows_append AfterCollection ps rest (kind_follows Pattern AfterPattern (λ t. refl) refl AfterCollection refl c.patterns) (rw l m.0)),
      subst Closes (sym (last_append AfterCollection ps rest ∙ ap (λ (x : Stage). last_stage x rest) l)) m.1,
    )

collections_follow : (p : Stage) (cs : List Collected) → Closes p → Each ShapedCollection cs → Follows p (of_collections cs) × Closes (last_stage p (of_collections cs))
unfolding flat_map
collections_follow p [] h s = (tt, h)
collections_follow p (c ∷ cs) h s =
    let f = collection_follows p c h.ready s.0 in
    let g = collections_follow (last_stage p (of_collection c)) cs f.1 s.1 in
    (follows_append p (of_collection c) (of_collections cs) f.0 g.0, subst Closes (sym (last_append p (of_collection c) (of_collections cs))) g.1)

-- one at least
some_follow : (p : Stage) (cs : List Collected) → Ready p → is_none cs ≡ false → Each ShapedCollection cs → Follows p (of_collections cs) × Closes (last_stage p (of_collections cs))
unfolding flat_map
some_follow p [] h n s = absurd (never true refl n)
some_follow p (c ∷ cs) h n s =
    let f = collection_follows p c h s.0 in
    let g = collections_follow (last_stage p (of_collection c)) cs f.1 s.1 in
    (follows_append p (of_collection c) (of_collections cs) f.0 g.0, subst Closes (sym (last_append p (of_collection c) (of_collections cs))) g.1)

-- ---- a constraint
-- the names that it allows, behind its first line
allowed_follow : (o : Bool) (ns : List Text) → (o ≡ true → ns ≡ []) → Follows (cond o AfterOpen AfterAuth) (of_kind Allow ns) × Ready (last_stage (cond o AfterOpen AfterAuth) (of_kind Allow ns))
unfolding may_follow is_among stage_of
allowed_follow true ns h = rw (h refl) (tt, refl)
allowed_follow false ns h = (kind_follows Allow AfterAllow (λ t. refl) refl AfterAuth refl ns, subst Ready (sym (kind_last Allow AfterAllow (λ t. refl) refl AfterAuth ns)) (either (is_empty ns)))
  where
    either : (b : Bool) → Ready (cond b AfterAuth AfterAllow)
    either true = refl
    either false = refl

head_place : (k : Constrained) → stage_of (headed k) ≡ cond k.is_open AfterOpen AfterAuth
unfolding stage_of same
head_place k = go k.is_open
  where
    go : (b : Bool) → stage_of (record_of Constraint (cond b (bytes "open") (bytes "auth"))) ≡ cond b AfterOpen AfterAuth
    go true = refl
    go false = refl

constraint_follows : (p : Stage) (k : Constrained) → Rests p → Shaped k → Follows p (as_listed k) × Rests (last_stage p (as_listed k))
constraint_follows p k h s =
    let q = cond k.is_open AfterOpen AfterAuth in
    let ns = of_kind Allow k.allowed in
    let cs = of_collections k.collections in
    let a = allowed_follow k.is_open k.allowed s.shut in
    let c = some_follow (last_stage q ns) k.collections a.1 s.collected s.collections in (
      (h.constraint, rw (head_place k) (follows_append q ns cs a.0 c.0)),
      subst Rests (sym (ap (λ (x : Stage). last_stage x (ns ++ cs)) (head_place k) ∙ last_append q ns cs)) c.1.rests,
    )

constraints_follow : (p : Stage) (ks : List Constrained) → Rests p → Each Shaped ks → Follows p (flat_map as_listed ks) × Rests (last_stage p (flat_map as_listed ks))
unfolding flat_map
constraints_follow p [] h s = (tt, h)
constraints_follow p (k ∷ ks) h s =
    let f = constraint_follows p k h s.0 in
    let g = constraints_follow (last_stage p (as_listed k)) ks f.1 s.1 in
    (follows_append p (as_listed k) (flat_map as_listed ks) f.0 g.0, subst Rests (sym (last_append p (as_listed k) (flat_map as_listed ks))) g.1)

-- ---- the listing
after_roles : (ns : List Text) → Rests (last_stage AfterFirst (of_kind Role ns))
unfolding may_follow is_among stage_of
after_roles ns = subst Rests (sym (kind_last Role AfterRole (λ t. refl) refl AfterFirst ns)) (either (is_empty ns))
  where
    either : (b : Bool) → Rests (cond b AfterFirst AfterRole)
    either true = record { constraint = refl; end = refl }
    either false = record { constraint = refl; end = refl }

-- its records may stand where they do, and `end` behind them
pub records_follow : (ns : List Text) (ks : List Constrained) → Each Shaped ks → Follows AfterFirst (records_for ns ks) × Rests (last_stage AfterFirst (records_for ns ks))
unfolding may_follow is_among stage_of
records_follow ns ks s =
    let c = constraints_follow (last_stage AfterFirst (of_kind Role ns)) ks (after_roles ns) s in (
      follows_append AfterFirst (of_kind Role ns) (flat_map as_listed ks) (kind_follows Role AfterRole (λ t. refl) refl AfterFirst refl ns) c.0,
      subst Rests (sym (last_append AfterFirst (of_kind Role ns) (flat_map as_listed ks))) c.1,
    )
