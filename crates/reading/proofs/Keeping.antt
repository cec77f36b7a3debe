-- What the tables keep of the records before: their stage, counts and names. So what refuses a record over the tables is the first rule that it breaks.
use mathlib.Core.Path.{◌≡◌, refl, sym, ap, ◌∙◌}
use mathlib.Core.Bool.{Bool, true, false, not, cond, ◌||◌}
use mathlib.Core.List.{List, [], ◌∷◌, ◌++◌, append_assoc, append-nil}
use mathlib.Core.Option.{none, some}
use Prim.Native.Nat.{ℕ, suc, ◌+◌}
use native.Mathlib.Omega.{arith}
use lib.ListN.{length}
use lib.Dec.{ltb, leb, leb-suc-suc}
use borrow.Author.Tests.{le-ltb}
use Rattle.text.specs.Texts.{Text, bytes, same, member, known, run, distinct, index_of}
use Rattle.listings.specs.Records.{Record, stage_of, stage_after, may_follow, is_among, is_kind, fields_where, names_role, names_method, declared_in, roles_in, methods_in}
use Rattle.names.specs.Names.{is_star, is_role_name}
use Rattle.listings.specs.Fields.{name_fits, pattern_fits}
use Rattle.limits.specs.Limits.{most_constraints, most_collections, most_patterns, most_method_lines, most_roles, most_methods}
use Rattle.listings.specs.Counts.{count, too_many}
use Rattle.listings.specs.Refusals.{declares_again, first_broken}
use Rattle.entries.specs.Tables.{Tables, indexed, field_add, tables_with, tables_of, field_check, check_record, record_with}
use Rattle.listings.specs.declared.records.Kind.{Kind}
use Rattle.listings.specs.declared.records.Kind.TheVariants.{Role, Constraint, Allow, Collection, Pattern, Method, Omit, End}
use Rattle.listings.specs.declared.records.Stage.TheVariants.{AfterOpen, AfterAuth}
use Rattle.listings.specs.declared.answers.Fault.TheVariants.{WrongPlace, PastMost}
use Rattle.text.proofs.Truths.{never}
use Rattle.text.proofs.Indices.{length_snoc, index_member}
use Rattle.listings.proofs.Countings.{stage_snoc, count_snoc, declared_snoc, roles_snoc, methods_snoc}
use Rattle.reading.proofs.Countings.{length_on_last, indexed_known, tables_snoc}
use Rattle.listings.proofs.Sound.{Passes, Sound, sound_none, sound_more, fault_by, first_broken_lem, Within, Few, few}

-- what tables keep of records
pub record Kept (rs : List Record) (T : Tables) : Type 0 where
  pub stage : T.stage ≡ stage_after rs
  pub constraints : length T.accesses ≡ count Constraint rs
  pub collections : length T.covers ≡ count Collection rs
  pub patterns : length T.patterns ≡ count Pattern rs
  pub lines : T.lines ≡ count Method rs + count Omit rs
  pub roles : T.roles ≡ roles_in rs
  pub methods : T.methods ≡ methods_in rs
  pub declared : T.declared ≡ length (declared_in rs)
  -- the declared roles are the first of them
  pub first : (more : List Text) × (T.roles ≡ declared_in rs ++ more)
  -- and all of them, as long as `role` may follow
  pub early : may_follow T.stage Role ≡ true → T.roles ≡ declared_in rs
  pub few : too_many rs ≡ false

-- ---- the mosts passed by one record more
-- one of six numbers is past its most
abbrev past : ℕ → ℕ → ℕ → ℕ → ℕ → ℕ → Bool
past a b c d e f =
    ltb most_constraints a || (ltb most_collections b || (ltb most_patterns c || (ltb most_method_lines d || (ltb most_roles e || ltb most_methods f))))

-- the numbers that a record leaves
past_snoc : (rs : List Record) (r : Record) → too_many (rs ++ r ∷ []) ≡ past
    (cond (is_kind Constraint r) (suc (count Constraint rs)) (count Constraint rs))
    (cond (is_kind Collection r) (suc (count Collection rs)) (count Collection rs))
    (cond (is_kind Pattern r) (suc (count Pattern rs)) (count Pattern rs))
    (cond (is_kind Method r) (suc (count Method rs)) (count Method rs) + cond (is_kind Omit r) (suc (count Omit rs)) (count Omit rs))
    (length (cond (names_role r) (known (roles_in rs) r.field) (roles_in rs)))
    (length (cond (names_method r) (known (methods_in rs) r.field) (methods_in rs)))
unfolding too_many
past_snoc rs r =
    rw (count_snoc rs r Constraint, count_snoc rs r Collection, count_snoc rs r Pattern)
    (rw (count_snoc rs r Method, count_snoc rs r Omit, roles_snoc rs r, methods_snoc rs r))

-- nothing to add to a test
or_false : (b : Bool) → (b || false) ≡ b
or_false true = refl
or_false false = refl

-- none of the numbers moved, or one of them, or two, by one
module _ {a b c d e f : ℕ} (W : Within a b c d e f) where
  A : ltb most_constraints a ≡ false
  A = le-ltb _ a W.constraints

  B : ltb most_collections b ≡ false
  B = le-ltb _ b W.collections

  C : ltb most_patterns c ≡ false
  C = le-ltb _ c W.patterns

  D : ltb most_method_lines d ≡ false
  D = le-ltb _ d W.lines

  E : ltb most_roles e ≡ false
  E = le-ltb _ e W.roles

  F : ltb most_methods f ≡ false
  F = le-ltb _ f W.methods

  past_none : past a b c d e f ≡ false
  past_none = rw (A, B, C, D, E, F)

  past_constraint : past (suc a) b c d e f ≡ leb most_constraints a
  past_constraint = rw (B, C, D, E, F, or_false) (leb-suc-suc most_constraints a)

  past_collection : past a (suc b) c d e f ≡ leb most_collections b
  past_collection = rw (A, C, D, E, F, or_false) (leb-suc-suc most_collections b)

  past_pattern : past a b (suc c) d e f ≡ leb most_patterns c
  past_pattern = rw (A, B, D, E, F, or_false) (leb-suc-suc most_patterns c)

  past_role : past a b c d (suc e) f ≡ leb most_roles e
  past_role = rw (A, B, C, D, F, or_false) (leb-suc-suc most_roles e)

  past_line : past a b c (suc d) e f ≡ leb most_method_lines d
  past_line = rw (A, B, C, E, F, or_false) (leb-suc-suc most_method_lines d)

  past_method : past a b c (suc d) e (suc f) ≡ (leb most_method_lines d || leb most_methods f)
  past_method = rw (A, B, C, E, leb-suc-suc most_method_lines d, leb-suc-suc most_methods f)

-- ---- what refuses a record is the first rule that it breaks
-- a test that is passed over
skipped : (s x : Bool) → cond (cond s false x) (some PastMost) none ≡ cond s none (cond x (some PastMost) none)
skipped true x = refl
skipped false x = refl

-- two tests in turn
joined : (a x : Bool) → cond (a || x) (some PastMost) none ≡ cond a (some PastMost) (cond x (some PastMost) none)
joined true x = refl
joined false x = refl

module _ (rs : List Record) (T : Tables) (K : Kept rs T) where
  W : Few rs
  W = few rs K.few

  -- ---- what a record of each kind passes
  past_at_role : (t : Text) → member t T.roles ≡ false → too_many (rs ++ record_with Role t ∷ []) ≡ leb most_roles (length T.roles)
  unfolding known names_role
  past_at_role t m = past_snoc rs (record_with Role t) ∙ rw (← K.roles, m, length_snoc T.roles t, K.roles) (past_role W)

  past_at_constraint : (t : Text) → too_many (rs ++ record_with Constraint t ∷ []) ≡ leb most_constraints (length T.accesses)
  unfolding names_role
  past_at_constraint t = past_snoc rs (record_with Constraint t) ∙ rw K.constraints (past_constraint W)

  past_at_allow : (t : Text) →
      too_many (rs ++ record_with Allow t ∷ []) ≡ cond (is_star t) false (cond (member t T.roles) false (leb most_roles (length T.roles)))
  unfolding names_role known
  past_at_allow t = past_snoc rs (record_with Allow t) ∙ rw K.roles (go (is_star t) (member t (roles_in rs)))
    where
      go : (s m : Bool) → past (count Constraint rs) (count Collection rs) (count Pattern rs) (count Method rs + count Omit rs)
          (length (cond (not s) (cond m (roles_in rs) (roles_in rs ++ t ∷ [])) (roles_in rs))) (length (methods_in rs))
          ≡ cond s false (cond m false (leb most_roles (length (roles_in rs))))
      go true m = past_none W
      go false true = past_none W
      go false false = rw (length_snoc (roles_in rs) t) (past_role W)

  past_at_collection : (t : Text) → too_many (rs ++ record_with Collection t ∷ []) ≡ leb most_collections (length T.covers)
  unfolding names_role
  past_at_collection t = past_snoc rs (record_with Collection t) ∙ rw K.collections (past_collection W)

  past_at_pattern : (t : Text) → too_many (rs ++ record_with Pattern t ∷ []) ≡ leb most_patterns (length T.patterns)
  unfolding names_role
  past_at_pattern t = past_snoc rs (record_with Pattern t) ∙ rw K.patterns (past_pattern W)

  past_at_end : (t : Text) → too_many (rs ++ record_with End t ∷ []) ≡ false
  unfolding names_role
  past_at_end t = past_snoc rs (record_with End t) ∙ past_none W

  -- a `method` or an `omit` line more
  past_at_line : (t : Text) (d : ℕ) → d ≡ suc (count Method rs + count Omit rs) →
      past (count Constraint rs) (count Collection rs) (count Pattern rs) d (length (roles_in rs)) (length (known (methods_in rs) t))
      ≡ (leb most_method_lines T.lines || cond (member t T.methods) false (leb most_methods (length T.methods)))
  unfolding known
  past_at_line t d e = rw (e, K.lines, K.methods) (go (member t (methods_in rs)))
    where
      go : (m : Bool) → past (count Constraint rs) (count Collection rs) (count Pattern rs) (suc (count Method rs + count Omit rs))
          (length (roles_in rs)) (length (cond m (methods_in rs) (methods_in rs ++ t ∷ [])))
          ≡ (leb most_method_lines (count Method rs + count Omit rs) || cond m false (leb most_methods (length (methods_in rs))))
      go true = past_line W ∙ sym (or_false _)
      go false = rw (length_snoc (methods_in rs) t) (past_method W)

  past_at_method : (t : Text) → too_many (rs ++ record_with Method t ∷ [])
      ≡ (leb most_method_lines T.lines || cond (member t T.methods) false (leb most_methods (length T.methods)))
  unfolding names_role
  past_at_method t = past_snoc rs (record_with Method t) ∙ past_at_line t (suc (count Method rs) + count Omit rs) (omega arith)

  past_at_omit : (t : Text) → too_many (rs ++ record_with Omit t ∷ [])
      ≡ (leb most_method_lines T.lines || cond (member t T.methods) false (leb most_methods (length T.methods)))
  unfolding names_role
  past_at_omit t = past_snoc rs (record_with Omit t) ∙ past_at_line t (count Method rs + suc (count Omit rs)) (omega arith)

  -- what refuses a record that may follow
  field_check_lem : (k : Kind) (t : Text) → may_follow T.stage k ≡ true →
      field_check k T t
      ≡ fault_by true (name_fits (record_with k t)) (pattern_fits (record_with k t)) (declares_again rs (record_with k t)) (too_many (rs ++ record_with k t ∷ []))
  unfolding field_check name_fits pattern_fits declares_again
  field_check_lem Role t h = rw (index_member t T.roles, ← K.early h) (go (member t T.roles) refl)
    where
      go : (m : Bool) → member t T.roles ≡ m →
          fault_by true (is_role_name t) true m (leb most_roles (length T.roles)) ≡ fault_by true (is_role_name t) true m (too_many (rs ++ record_with Role t ∷ []))
      go true e = refl
      go false e = rw (past_at_role t e)
  field_check_lem Constraint t h = rw (past_at_constraint t)
  field_check_lem Allow t h = rw (past_at_allow t, index_member t T.roles, skipped, skipped)
  field_check_lem Collection t h = rw (past_at_collection t)
  field_check_lem Pattern t h = rw (past_at_pattern t)
  field_check_lem Method t h = rw (past_at_method t, index_member t T.methods, joined, skipped)
  field_check_lem Omit t h = rw (past_at_omit t, index_member t T.methods, joined, skipped)
  field_check_lem End t h = rw (past_at_end t)

  -- what refuses a record over the tables is the first rule that it breaks
  pub check_first : (r : Record) → check_record T r ≡ first_broken rs r
  unfolding check_record
  check_first r = go (may_follow T.stage r.kind) refl ∙ sym (first_broken_lem rs r ∙ rw K.stage)
    where
      go : (b : Bool) → may_follow T.stage r.kind ≡ b →
          cond b (field_check r.kind T r.field) (some WrongPlace) ≡ fault_by b (name_fits r) (pattern_fits r) (declares_again rs r) (too_many (rs ++ r ∷ []))
      go true e = field_check_lem r.kind r.field e
      go false e = refl

-- ---- the tables after one record more
module _ (rs : List Record) (T : Tables) (K : Kept rs T) where
  -- ---- each part of the tables by the kind of record
  added_stage : (k : Kind) (t : Text) → (field_add k T t).stage ≡ stage_of (record_with k t)
  unfolding field_add stage_of
  added_stage Role t = refl
  added_stage Constraint t = refl
  added_stage Allow t = refl
  added_stage Collection t = refl
  added_stage Pattern t = refl
  added_stage Method t = refl
  added_stage Omit t = refl
  added_stage End t = refl

  added_accesses : (k : Kind) (t : Text) →
      length (field_add k T t).accesses ≡ cond (is_kind Constraint (record_with k t)) (suc (length T.accesses)) (length T.accesses)
  unfolding field_add
  added_accesses Role t = refl
  added_accesses Constraint t = rw length_snoc
  added_accesses Allow t = rw length_on_last
  added_accesses Collection t = refl
  added_accesses Pattern t = refl
  added_accesses Method t = refl
  added_accesses Omit t = refl
  added_accesses End t = refl

  added_covers : (k : Kind) (t : Text) →
      length (field_add k T t).covers ≡ cond (is_kind Collection (record_with k t)) (suc (length T.covers)) (length T.covers)
  unfolding field_add
  added_covers Role t = refl
  added_covers Constraint t = refl
  added_covers Allow t = refl
  added_covers Collection t = rw length_snoc
  added_covers Pattern t = refl
  added_covers Method t = rw length_on_last
  added_covers Omit t = rw length_on_last
  added_covers End t = refl

  added_patterns : (k : Kind) (t : Text) →
      length (field_add k T t).patterns ≡ cond (is_kind Pattern (record_with k t)) (suc (length T.patterns)) (length T.patterns)
  unfolding field_add
  added_patterns Role t = refl
  added_patterns Constraint t = refl
  added_patterns Allow t = refl
  added_patterns Collection t = refl
  added_patterns Pattern t = rw length_snoc
  added_patterns Method t = refl
  added_patterns Omit t = refl
  added_patterns End t = refl

  -- a count that moves with the records of one kind
  counted : (r : Record) (k : Kind) (m n : ℕ) → m ≡ cond (is_kind k r) (suc n) n → n ≡ count k rs → m ≡ count k (rs ++ r ∷ [])
  counted r k m n e h = e ∙ ap (λ (x : ℕ). cond (is_kind k r) (suc x) x) h ∙ sym (count_snoc rs r k)

  added_lines : (k : Kind) (t : Text) → (field_add k T t).lines ≡ count Method (rs ++ record_with k t ∷ []) + count Omit (rs ++ record_with k t ∷ [])
  unfolding field_add
  added_lines k t = rw (count_snoc rs (record_with k t) Method, count_snoc rs (record_with k t) Omit) (go k)
    where
      go : (k : Kind) → (field_add k T t).lines
          ≡ cond (is_kind Method (record_with k t)) (suc (count Method rs)) (count Method rs)
          + cond (is_kind Omit (record_with k t)) (suc (count Omit rs)) (count Omit rs)
      go Role = K.lines
      go Constraint = K.lines
      go Allow = K.lines
      go Collection = K.lines
      go Pattern = K.lines
      go Method = omega (arith, K.lines)
      go Omit = omega (arith, K.lines)
      go End = K.lines

  added_methods : (k : Kind) (t : Text) → (field_add k T t).methods ≡ methods_in (rs ++ record_with k t ∷ [])
  unfolding field_add
  added_methods k t =
      go k ∙ ap (λ (ms : List Text). cond (names_method (record_with k t)) (known ms t) ms) K.methods ∙ sym (methods_snoc rs (record_with k t))
    where
      go : (k : Kind) → (field_add k T t).methods ≡ cond (names_method (record_with k t)) (known T.methods t) T.methods
      go Role = refl
      go Constraint = refl
      go Allow = refl
      go Collection = refl
      go Pattern = refl
      go Method = indexed_known t T.methods
      go Omit = indexed_known t T.methods
      go End = refl

  -- where `role` stands, the roles are the declared ones
  all_declared : (t : Text) → Passes rs (record_with Role t) → T.roles ≡ declared_in rs
  all_declared t p = K.early (rw K.stage p.stage)

  -- so the new one is none of them
  fresh : (t : Text) → Passes rs (record_with Role t) → member t T.roles ≡ false
  unfolding declares_again
  fresh t p = rw (all_declared t p) p.once

  added_roles : (k : Kind) (t : Text) → Passes rs (record_with k t) → (field_add k T t).roles ≡ roles_in (rs ++ record_with k t ∷ [])
  unfolding field_add names_role known
  added_roles k t p =
      go k p ∙ ap (λ (us : List Text). cond (names_role (record_with k t)) (known us t) us) K.roles ∙ sym (roles_snoc rs (record_with k t))
    where
      star : (s : Bool) → cond s T.roles (indexed t T.roles) ≡ cond (not s) (known T.roles t) T.roles
      star true = refl
      star false = indexed_known t T.roles

      go : (k : Kind) → Passes rs (record_with k t) → (field_add k T t).roles ≡ cond (names_role (record_with k t)) (known T.roles t) T.roles
      go Role p = rw (fresh t p)
      go Constraint p = refl
      go Allow p = star (is_star t)
      go Collection p = refl
      go Pattern p = refl
      go Method p = refl
      go Omit p = refl
      go End p = refl

  added_declared : (k : Kind) (t : Text) → (field_add k T t).declared ≡ length (declared_in (rs ++ record_with k t ∷ []))
  unfolding field_add
  added_declared k t = rw (declared_snoc rs (record_with k t)) (go k)
    where
      go : (k : Kind) → (field_add k T t).declared ≡ length (cond (is_kind Role (record_with k t)) (declared_in rs ++ t ∷ []) (declared_in rs))
      go Role = rw length_snoc (omega (arith, K.declared))
      go Constraint = K.declared
      go Allow = K.declared
      go Collection = K.declared
      go Pattern = K.declared
      go Method = K.declared
      go Omit = K.declared
      go End = K.declared

  -- `allow` puts at most one role behind the others
  added_allowed : (t : Text) → (more : List Text) × (cond (is_star t) T.roles (indexed t T.roles) ≡ T.roles ++ more)
  unfolding indexed
  added_allowed t = go (is_star t) (ltb (index_of t T.roles) (length T.roles))
    where
      go : (s b : Bool) → (more : List Text) × (cond s T.roles (cond b T.roles (T.roles ++ t ∷ [])) ≡ T.roles ++ more)
      go true b = ([], sym (append-nil T.roles))
      go false true = ([], sym (append-nil T.roles))
      go false false = (t ∷ [], refl)

  -- the declared roles stay the first
  added_first : (k : Kind) (t : Text) → Passes rs (record_with k t) →
      (more : List Text) × ((field_add k T t).roles ≡ declared_in (rs ++ record_with k t ∷ []) ++ more)
  unfolding field_add
  added_first k t p = rw (declared_snoc rs (record_with k t)) (go k p)
    where
      go : (k : Kind) → Passes rs (record_with k t) →
          (more : List Text) × ((field_add k T t).roles ≡ cond (is_kind Role (record_with k t)) (declared_in rs ++ t ∷ []) (declared_in rs) ++ more)
      go Role p = ([], rw (append-nil, all_declared t p))
      go Constraint p = K.first
      go Allow p =
          let a = added_allowed t in
          (K.first.0 ++ a.0, a.1 ∙ ap (λ (us : List Text). us ++ a.0) K.first.1 ∙ append_assoc (declared_in rs) K.first.0 a.0)
      go Collection p = K.first
      go Pattern p = K.first
      go Method p = K.first
      go Omit p = K.first
      go End p = K.first

  -- `role` may follow only behind roles
  added_early : (k : Kind) (t : Text) → Passes rs (record_with k t) →
      may_follow (stage_of (record_with k t)) Role ≡ true → (field_add k T t).roles ≡ declared_in (rs ++ record_with k t ∷ [])
  unfolding field_add stage_of may_follow is_among
  added_early Role t p e = rw (all_declared t p) (sym (declared_snoc rs (record_with Role t)))
  added_early Constraint t p e = absurd (go (same t (bytes "open")) e)
    where
      go : (b : Bool) → may_follow (cond b AfterOpen AfterAuth) Role ≡ true → ⊥
      go true h = never false h refl
      go false h = never false h refl
  added_early Allow t p e = absurd (never false e refl)
  added_early Collection t p e = absurd (never false e refl)
  added_early Pattern t p e = absurd (never false e refl)
  added_early Method t p e = absurd (never false e refl)
  added_early Omit t p e = absurd (never false e refl)
  added_early End t p e = absurd (never false e refl)

  -- the tables keep all of it over one record more
  pub kept_more : (r : Record) → Passes rs r → Kept (rs ++ r ∷ []) (tables_with T r)
  kept_more r p = record {
    stage = added_stage r.kind r.field ∙ sym (stage_snoc rs r);
    constraints = counted r Constraint _ _ (added_accesses r.kind r.field) K.constraints;
    collections = counted r Collection _ _ (added_covers r.kind r.field) K.collections;
    patterns = counted r Pattern _ _ (added_patterns r.kind r.field) K.patterns;
    lines = added_lines r.kind r.field;
    roles = added_roles r.kind r.field p;
    methods = added_methods r.kind r.field;
    declared = added_declared r.kind r.field;
    first = added_first r.kind r.field p;
    early = λ e. added_early r.kind r.field p (rw (added_stage r.kind r.field) at e);
    few = p.few;
  }

-- the tables of sound records
pub kept : (rs : List Record) → Sound rs → Kept rs (tables_of rs)
unfolding tables_of run stage_after count fields_where roles_in methods_in declared_in distinct too_many
kept rs sound_none =
    record {
      stage = refl;
      constraints = refl;
      collections = refl;
      patterns = refl;
      lines = refl;
      roles = refl;
      methods = refl;
      declared = refl;
      first = ([], refl);
      early = λ e. refl;
      few = refl;
    }
kept rs (sound_more before r s p) = rw (tables_snoc before r) (kept_more before (tables_of before) (kept before s) r p)
