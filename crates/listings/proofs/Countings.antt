-- One record more: what it changes in the stage, the counts and the names of the records.
use mathlib.Core.Path.{◌≡◌, refl, ap, ◌∙◌}
use mathlib.Core.Bool.{Bool, true, false, cond}
use mathlib.Core.List.{List, [], ◌∷◌, ◌++◌}
use Prim.Native.Nat.{suc}
use lib.ListN.{length}
use Rattle.text.specs.Texts.{Text, known, distinct}
use Rattle.text.proofs.Indices.{run_snoc, length_snoc}
use Rattle.listings.specs.Records.{Record, stage_of, stage_after, is_kind, fields_where, names_role, names_method, declared_in, roles_in, methods_in}
use Rattle.listings.specs.Counts.{count}
use Rattle.listings.specs.declared.records.Kind.{Kind}
use Rattle.listings.specs.declared.records.Kind.TheVariants.{Role}

-- a text more is put behind the distinct ones, unless it is one of them
pub distinct_snoc : (ts : List Text) (t : Text) → distinct (ts ++ t ∷ []) ≡ known (distinct ts) t
unfolding distinct
distinct_snoc ts t = run_snoc known [] ts t

-- ---- one record more
-- the stage after it is its own
pub stage_snoc : (rs : List Record) (r : Record) → stage_after (rs ++ r ∷ []) ≡ stage_of r
unfolding stage_after
stage_snoc [] r = refl
stage_snoc (q ∷ []) r = refl
stage_snoc (q ∷ p ∷ rs) r = stage_snoc (p ∷ rs) r

-- its field comes last, if it passes
pub fields_snoc : (test : Record → Bool) (rs : List Record) (r : Record) →
    fields_where test (rs ++ r ∷ []) ≡ cond (test r) (fields_where test rs ++ r.field ∷ []) (fields_where test rs)
unfolding fields_where
fields_snoc test [] r = refl
fields_snoc test (q ∷ rs) r = rw (fields_snoc test rs r) (go (test q) (test r))
  where
    go : (a b : Bool) →
        cond a (q.field ∷ cond b (fields_where test rs ++ r.field ∷ []) (fields_where test rs)) (cond b (fields_where test rs ++ r.field ∷ []) (fields_where test rs))
        ≡ cond b (cond a (q.field ∷ fields_where test rs) (fields_where test rs) ++ r.field ∷ []) (cond a (q.field ∷ fields_where test rs) (fields_where test rs))
    go true true = refl
    go true false = refl
    go false true = refl
    go false false = refl

module _ (rs : List Record) (r : Record) where
  -- the count of its kind is one more
  pub count_snoc : (k : Kind) → count k (rs ++ r ∷ []) ≡ cond (is_kind k r) (suc (count k rs)) (count k rs)
  unfolding count
  count_snoc k = ap length (fields_snoc (is_kind k) rs r) ∙ go (is_kind k r)
    where
      go : (b : Bool) → length (cond b (fields_where (is_kind k) rs ++ r.field ∷ []) (fields_where (is_kind k) rs))
          ≡ cond b (suc (length (fields_where (is_kind k) rs))) (length (fields_where (is_kind k) rs))
      go true = length_snoc (fields_where (is_kind k) rs) r.field
      go false = refl

  -- `role` declares one role more
  pub declared_snoc : declared_in (rs ++ r ∷ []) ≡ cond (is_kind Role r) (declared_in rs ++ r.field ∷ []) (declared_in rs)
  unfolding declared_in
  declared_snoc = fields_snoc (is_kind Role) rs r

  -- the distinct fields of those that pass
  distinct_fields : (test : Record → Bool) → distinct (fields_where test (rs ++ r ∷ []))
      ≡ cond (test r) (known (distinct (fields_where test rs)) r.field) (distinct (fields_where test rs))
  distinct_fields test = ap distinct (fields_snoc test rs r) ∙ go (test r)
    where
      go : (b : Bool) → distinct (cond b (fields_where test rs ++ r.field ∷ []) (fields_where test rs))
          ≡ cond b (known (distinct (fields_where test rs)) r.field) (distinct (fields_where test rs))
      go true = distinct_snoc (fields_where test rs) r.field
      go false = refl

  pub roles_snoc : roles_in (rs ++ r ∷ []) ≡ cond (names_role r) (known (roles_in rs) r.field) (roles_in rs)
  unfolding roles_in
  roles_snoc = distinct_fields names_role

  pub methods_snoc : methods_in (rs ++ r ∷ []) ≡ cond (names_method r) (known (methods_in rs) r.field) (methods_in rs)
  unfolding methods_in
  methods_snoc = distinct_fields names_method
