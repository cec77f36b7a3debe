-- Records that hold no more than others: no more lines of each kind that is counted, and no other role names and methods. Such are the starts of a list, and a file's records arranged.
use mathlib.Core.Path.{◌≡◌, refl, sym, ap, ap₂, ◌∙◌}
use mathlib.Core.Bool.{Bool, true, false, not, cond, ◌&&◌, ◌||◌}
use mathlib.Core.List.{List, [], ◌∷◌, ◌++◌, append-nil}
use Prim.Native.Nat.{ℕ, suc, ◌+◌, ◌≤◌}
use native.Mathlib.Omega.{arith}
use lib.ListN.{length, length-append}
use lib.Dec.{eqb}
use borrow.Author.Tests.{le-ltb, eqb-true}
use Rattle.text.specs.Texts.{Text, bytes, member}
use Rattle.text.proofs.Truths.{never}
use Rattle.names.proofs.Plainly.{member_append}
use Rattle.limits.specs.Limits.{most_constraints, most_collections, most_patterns, most_method_lines, most_roles, most_methods}
use Rattle.listings.specs.Records.{Record, is_kind, kind_number, fields_where, names_role, names_method, roles_in, methods_in}
use Rattle.listings.specs.Counts.{count, too_many}
use Rattle.listings.proofs.Sound.{Few, few}
use Rattle.listings.specs.declared.records.Kind.{Kind}
use Rattle.listings.specs.declared.records.Kind.TheVariants.{Role, Constraint, Allow, Collection, Pattern, Method, Omit, End}
use Rattle.portals.specs.Records.{record_of, any_constraint, guarded}
use Rattle.portals.specs.Listings.{roles_first, allows, blocks, arranged}
use Rattle.portals.proofs.Eaches.{Each, each_append}
use Rattle.portals.proofs.Distincts.{Among, distinct_fewer}
use Rattle.portals.proofs.Fields.{fields_append, fields_none, fields_among, fields_own}

-- the kinds whose lines are counted
abbrev pub is_counted : Kind → Bool
is_counted Role = false
is_counted Constraint = true
is_counted Allow = false
is_counted Collection = true
is_counted Pattern = true
is_counted Method = true
is_counted Omit = true
is_counted End = false

pub record Fewer (xs rs : List Record) : Type 0 where
  pub counts : (k : Kind) → is_counted k ≡ true → count k xs ≤ count k rs
  pub roles : Among (fields_where names_role xs) (fields_where names_role rs)
  pub methods : Among (fields_where names_method xs) (fields_where names_method rs)

-- ---- they are not too many where the others are not
not_many : (rs : List Record) → Few rs → too_many rs ≡ false
unfolding too_many
not_many rs f =
    rw (
      le-ltb most_constraints (count Constraint rs) f.constraints,
      le-ltb most_collections (count Collection rs) f.collections,
      le-ltb most_patterns (count Pattern rs) f.patterns,
      le-ltb most_method_lines (count Method rs + count Omit rs) f.lines,
      le-ltb most_roles (length (roles_in rs)) f.roles,
      le-ltb most_methods (length (methods_in rs)) f.methods,
    )

module _ (xs rs : List Record) (l : Fewer xs rs) where
  roles_fewer : length (roles_in xs) ≤ length (roles_in rs)
  unfolding roles_in
  roles_fewer = distinct_fewer (fields_where names_role xs) (fields_where names_role rs) l.roles

  methods_fewer : length (methods_in xs) ≤ length (methods_in rs)
  unfolding methods_in
  methods_fewer = distinct_fewer (fields_where names_method xs) (fields_where names_method rs) l.methods

  pub fewer_few : too_many rs ≡ false → too_many xs ≡ false
  fewer_few h =
      let f = few rs h in
      not_many xs (record {
        constraints = omega (arith, f.constraints, l.counts Constraint refl);
        collections = omega (arith, f.collections, l.counts Collection refl);
        patterns = omega (arith, f.patterns, l.counts Pattern refl);
        lines = omega (arith, f.lines, l.counts Method refl, l.counts Omit refl);
        roles = omega (arith, f.roles, roles_fewer);
        methods = omega (arith, f.methods, methods_fewer);
      })

-- ---- the start of a list
among_start : (us vs : List Text) → Among us (us ++ vs)
among_start us vs t e = member_append t us vs ∙ ap (λ (b : Bool). b || member t vs) e

pub start_fewer : (xs ys : List Record) → Fewer xs (xs ++ ys)
unfolding count
start_fewer xs ys = record {
  counts = λ k c. omega (arith, ap length (fields_append (is_kind k) xs ys), length-append (fields_where (is_kind k) xs) (fields_where (is_kind k) ys));
  roles = rw (fields_append names_role xs ys) (among_start (fields_where names_role xs) (fields_where names_role ys));
  methods = rw (fields_append names_method xs ys) (among_start (fields_where names_method xs) (fields_where names_method ys));
}

-- ---- with an `end` behind them
same_fields : (test : Record → Bool) (xs : List Record) → test (record_of End []) ≡ false → fields_where test (xs ++ record_of End [] ∷ []) ≡ fields_where test xs
same_fields test xs e =
    fields_append test xs (record_of End [] ∷ []) ∙ ap (λ (x : List Text). fields_where test xs ++ x) (fields_none test (record_of End [] ∷ []) (e, tt)) ∙ append-nil (fields_where test xs)

pub end_fewer : (xs : List Record) → Fewer (xs ++ record_of End [] ∷ []) xs
unfolding count names_role
end_fewer xs = record {
  counts = λ k c. omega (arith, ap length (same_fields (is_kind k) xs (ended k c)));
  roles = λ t e. ap (member t) (sym (same_fields names_role xs refl)) ∙ e;
  methods = λ t e. ap (member t) (sym (same_fields names_method xs refl)) ∙ e;
}
  where
    ended : (k : Kind) → is_counted k ≡ true → is_kind k (record_of End []) ≡ false
    ended Role c = refl
    ended Constraint c = refl
    ended Allow c = refl
    ended Collection c = refl
    ended Pattern c = refl
    ended Method c = refl
    ended Omit c = refl
    ended End c = absurd (never false c refl)

-- ---- arranged
-- each of the arranged records is one of the records
module _ (P : Record → Type 0) where
  each_role_first : (rs : List Record) → Each P rs → Each P (roles_first rs)
  unfolding roles_first
  each_role_first [] a = tt
  each_role_first (r ∷ rs) a = go (is_kind Role r) (each_role_first rs a.1)
    where
      go : (b : Bool) → Each P (roles_first rs) → Each P (cond b (r ∷ roles_first rs) (roles_first rs))
      go true h = (a.0, h)
      go false h = h

  each_allows : (rs : List Record) → Each P rs → Each P (allows rs)
  unfolding allows
  each_allows [] a = tt
  each_allows (r ∷ rs) a = go (is_kind Constraint r) (is_kind Allow r) (each_allows rs a.1)
    where
      go : (b c : Bool) → Each P (allows rs) → Each P (cond b [] (cond c (r ∷ allows rs) (allows rs)))
      go true c h = tt
      go false true h = (a.0, h)
      go false false h = h

  each_blocks : (rs : List Record) → Each P rs → Each P (blocks rs)
  unfolding blocks
  each_blocks [] a = tt
  each_blocks (r ∷ rs) a = go r.kind r.field a.0 (each_blocks rs a.1)
    where
      go : (k : Kind) (t : Text) → P (record_of k t) → Each P (blocks rs) → Each P (blocks (record_of k t ∷ rs))
      go Role t p h = h
      go Constraint t p h = (p, each_append P (allows rs) (blocks rs) (each_allows rs a.1) h)
      go Allow t p h = h
      go Collection t p h = (p, h)
      go Pattern t p h = (p, h)
      go Method t p h = (p, h)
      go Omit t p h = (p, h)
      go End t p h = h

  pub each_arranged : (rs : List Record) → Each P rs → Each P (arranged rs)
  unfolding arranged
  each_arranged rs a = each_append P (roles_first rs) (blocks rs) (each_role_first rs a) (each_blocks rs a)

-- a test that no role, no allowed name and no `end` passes finds the same fields
module _ (test : Record → Bool) (no_role : (t : Text) → test (record_of Role t) ≡ false) (no_allow : (t : Text) → test (record_of Allow t) ≡ false) (no_end : (t : Text) → test (record_of End t) ≡ false) where
  roles_unseen : (rs : List Record) → Each (λ (r : Record). test r ≡ false) (roles_first rs)
  unfolding roles_first
  roles_unseen [] = tt
  roles_unseen (r ∷ rs) = go r.kind r.field (roles_unseen rs)
    where
      go : (k : Kind) (t : Text) → Each (λ (r : Record). test r ≡ false) (roles_first rs) → Each (λ (r : Record). test r ≡ false) (roles_first (record_of k t ∷ rs))
      go Role t h = (no_role t, h)
      go Constraint t h = h
      go Allow t h = h
      go Collection t h = h
      go Pattern t h = h
      go Method t h = h
      go Omit t h = h
      go End t h = h

  allows_unseen : (rs : List Record) → Each (λ (r : Record). test r ≡ false) (allows rs)
  unfolding allows
  allows_unseen [] = tt
  allows_unseen (r ∷ rs) = go r.kind r.field (allows_unseen rs)
    where
      go : (k : Kind) (t : Text) → Each (λ (r : Record). test r ≡ false) (allows rs) → Each (λ (r : Record). test r ≡ false) (allows (record_of k t ∷ rs))
      go Role t h = h
      go Constraint t h = tt
      go Allow t h = (no_allow t, h)
      go Collection t h = h
      go Pattern t h = h
      go Method t h = h
      go Omit t h = h
      go End t h = h

  -- the first record, seen or not
  abbrev seen : Record → List Record → List Text
  seen r rs = cond (test r) (r.field ∷ fields_where test rs) (fields_where test rs)

  blocks_seen : (rs : List Record) → fields_where test (blocks rs) ≡ fields_where test rs
  unfolding blocks fields_where
  blocks_seen [] = refl
  blocks_seen (r ∷ rs) = go r.kind r.field (blocks_seen rs)
    where
      behind : fields_where test (blocks rs) ≡ fields_where test rs → fields_where test (allows rs ++ blocks rs) ≡ fields_where test rs
      behind h = fields_append test (allows rs) (blocks rs) ∙ ap₂ ◌++◌ (fields_none test (allows rs) (allows_unseen rs)) h

      go : (k : Kind) (t : Text) → fields_where test (blocks rs) ≡ fields_where test rs → fields_where test (blocks (record_of k t ∷ rs)) ≡ seen (record_of k t) rs
      go Role t h = rw (no_role t) h
      go Constraint t h = ap (λ (x : List Text). cond (test (record_of Constraint t)) (t ∷ x) x) (behind h)
      go Allow t h = rw (no_allow t) h
      go Collection t h = ap (λ (x : List Text). cond (test (record_of Collection t)) (t ∷ x) x) h
      go Pattern t h = ap (λ (x : List Text). cond (test (record_of Pattern t)) (t ∷ x) x) h
      go Method t h = ap (λ (x : List Text). cond (test (record_of Method t)) (t ∷ x) x) h
      go Omit t h = ap (λ (x : List Text). cond (test (record_of Omit t)) (t ∷ x) x) h
      go End t h = rw (no_end t) h

  arranged_seen : (rs : List Record) → fields_where test (arranged rs) ≡ fields_where test rs
  unfolding arranged
  arranged_seen rs = fields_append test (roles_first rs) (blocks rs) ∙ ap₂ ◌++◌ (fields_none test (roles_first rs) (roles_unseen rs)) (blocks_seen rs)

pub arranged_fewer : (rs : List Record) → Fewer (arranged rs) rs
unfolding count
arranged_fewer rs = record {
  counts = λ k c. omega (arith, ap length (same k c));
  roles = fields_among names_role (fields_where names_role rs) (arranged rs) (each_arranged _ rs (fields_own names_role rs));
  methods = fields_among names_method (fields_where names_method rs) (arranged rs) (each_arranged _ rs (fields_own names_method rs));
}
  where
    same : (k : Kind) → is_counted k ≡ true → fields_where (is_kind k) (arranged rs) ≡ fields_where (is_kind k) rs
    same Role c = absurd (never false c refl)
    same Constraint c = arranged_seen (is_kind Constraint) (λ t. refl) (λ t. refl) (λ t. refl) rs
    same Allow c = absurd (never false c refl)
    same Collection c = arranged_seen (is_kind Collection) (λ t. refl) (λ t. refl) (λ t. refl) rs
    same Pattern c = arranged_seen (is_kind Pattern) (λ t. refl) (λ t. refl) (λ t. refl) rs
    same Method c = arranged_seen (is_kind Method) (λ t. refl) (λ t. refl) (λ t. refl) rs
    same Omit c = arranged_seen (is_kind Omit) (λ t. refl) (λ t. refl) (λ t. refl) rs
    same End c = absurd (never false c refl)

-- ---- with the last constraint `auth`
abbrev authed : Record
authed = record_of Constraint (bytes "auth")

pub each_guarded : (P : Record → Type 0) → P authed → (rs : List Record) → Each P rs → Each P (guarded rs)
unfolding guarded
each_guarded P p [] a = tt
each_guarded P p (r ∷ rs) a = go (is_kind Constraint r && not (any_constraint rs)) (each_guarded P p rs a.1)
  where
    go : (b : Bool) → Each P (guarded rs) → Each P (cond b (authed ∷ rs) (r ∷ guarded rs))
    go true h = (p, a.1)
    go false h = (a.0, h)

-- a test that no constraint passes finds the same fields
pub guarded_fields : (test : Record → Bool) → ((t : Text) → test (record_of Constraint t) ≡ false) → (rs : List Record) → fields_where test (guarded rs) ≡ fields_where test rs
unfolding guarded fields_where
guarded_fields test n [] = refl
guarded_fields test n (r ∷ rs) = go r.kind r.field (any_constraint rs) (guarded_fields test n rs)
  where
    go : (k : Kind) (t : Text) (b : Bool) → fields_where test (guarded rs) ≡ fields_where test rs
        → fields_where test (cond (is_kind Constraint (record_of k t) && not b) (authed ∷ rs) (record_of k t ∷ guarded rs)) ≡ cond (test (record_of k t)) (t ∷ fields_where test rs) (fields_where test rs)
    go Role t b h = ap (λ (x : List Text). cond (test (record_of Role t)) (t ∷ x) x) h
    go Constraint t true h = ap (λ (x : List Text). cond (test (record_of Constraint t)) (t ∷ x) x) h
    go Constraint t false h = rw (n t, n (bytes "auth"))
    go Allow t b h = ap (λ (x : List Text). cond (test (record_of Allow t)) (t ∷ x) x) h
    go Collection t b h = ap (λ (x : List Text). cond (test (record_of Collection t)) (t ∷ x) x) h
    go Pattern t b h = ap (λ (x : List Text). cond (test (record_of Pattern t)) (t ∷ x) x) h
    go Method t b h = ap (λ (x : List Text). cond (test (record_of Method t)) (t ∷ x) x) h
    go Omit t b h = ap (λ (x : List Text). cond (test (record_of Omit t)) (t ∷ x) x) h
    go End t b h = ap (λ (x : List Text). cond (test (record_of End t)) (t ∷ x) x) h

-- and there are as many lines of each kind
guarded_counts : (k : Kind) (rs : List Record) → length (fields_where (is_kind k) (guarded rs)) ≡ length (fields_where (is_kind k) rs)
unfolding guarded fields_where
guarded_counts k [] = refl
guarded_counts k (r ∷ rs) = go (is_kind Constraint r) refl (any_constraint rs) (guarded_counts k rs)
  where
    same : (b : Bool) (t : Text) (us vs : List Text) → length us ≡ length vs → length (cond b (t ∷ us) us) ≡ length (cond b (r.field ∷ vs) vs)
    same true t us vs h = ap suc h
    same false t us vs h = h

    go : (b : Bool) → is_kind Constraint r ≡ b → (c : Bool) → length (fields_where (is_kind k) (guarded rs)) ≡ length (fields_where (is_kind k) rs)
        → length (fields_where (is_kind k) (cond (b && not c) (authed ∷ rs) (r ∷ guarded rs))) ≡ length (cond (is_kind k r) (r.field ∷ fields_where (is_kind k) rs) (fields_where (is_kind k) rs))
    go true e true h = same (is_kind k r) r.field (fields_where (is_kind k) (guarded rs)) (fields_where (is_kind k) rs) h
    go true e false h =
        ap (λ (n : ℕ). length (cond (eqb n (kind_number k)) (bytes "auth" ∷ fields_where (is_kind k) rs) (fields_where (is_kind k) rs))) (sym (eqb-true (kind_number r.kind) 1 e))
        ∙ same (is_kind k r) (bytes "auth") (fields_where (is_kind k) rs) (fields_where (is_kind k) rs) refl
    go false e c h = same (is_kind k r) r.field (fields_where (is_kind k) (guarded rs)) (fields_where (is_kind k) rs) h

pub guarded_fewer : (rs : List Record) → Fewer (guarded rs) rs
unfolding count names_role
guarded_fewer rs = record {
  counts = λ k c. omega (arith, guarded_counts k rs);
  roles = λ t e. ap (member t) (sym (guarded_fields names_role (λ t. refl) rs)) ∙ e;
  methods = λ t e. ap (member t) (sym (guarded_fields names_method (λ t. refl) rs)) ∙ e;
}
