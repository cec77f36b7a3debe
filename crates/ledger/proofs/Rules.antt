-- The ledger of records that were added one by one breaks the same rule by one more as they do, and goes with them.
use mathlib.Core.Path.{◌≡◌, refl, sym, ap, ◌∙◌}
use mathlib.Core.Bool.{Bool, true, false, not, cond, ◌&&◌, ◌||◌}
use mathlib.Core.List.{List, [], ◌∷◌, ◌++◌}
use mathlib.Core.Option.{none, some, some-ne-none}
use Prim.Native.Nat.{ℕ, suc, ◌+◌, ◌≤◌}
use native.Mathlib.Omega.{arith}
use lib.ListN.{length}
use lib.Dec.{leb, ltb, leb-suc-suc}
use borrow.Author.Tests.{lt-ltb, le-ltb, leb-true}
use Rattle.text.specs.Texts.{Text, member, known}
use Rattle.text.proofs.Indices.{length_snoc}
use Rattle.names.specs.Names.{is_star}
use Rattle.documents.specs.Parts.{bad_name, bad_pattern, role_twice, past_most}
use Rattle.listings.specs.Records.{Record, is_kind, names_role, names_method, fields_where, declared_in, roles_in, methods_in}
use Rattle.listings.specs.Counts.{count, too_many}
use Rattle.listings.specs.Refusals.{has_bad_name, has_bad_pattern, declares_again}
use Rattle.listings.specs.declared.records.Kind.{Kind}
use Rattle.listings.specs.declared.records.Kind.TheVariants.{Role, Constraint, Allow, Collection, Pattern, Method, Omit, End}
use Rattle.listings.proofs.Countings.{count_snoc, declared_snoc, roles_snoc, methods_snoc}
use Rattle.listings.proofs.Sound.{few}
use Rattle.portals.specs.Records.{record_of, first_fault, guarded}
use Rattle.ledger.specs.Ledgers.{Ledger, no_records, is_full, ledger_fault, one_more, kept, marked, ledger_of}
use Rattle.ledger.proofs.Pictures.{lines_more, kept_more, none_kept, fields_guarded, constraints_guarded, marked_guarded}
use Rattle.ledger.proofs.Spares.{outside, Spare, known_there, known_new, spare_named, spare_declared}

-- ---- the rules
-- what is known of records that were added one by one, none breaking a rule, and what is kept of them
pub record Pictured (rs : List Record) (L : Ledger) : Type 0 where
  pub is : L ≡ ledger_of rs
  pub few : too_many rs ≡ false
  pub spare : Spare (declared_in rs) (roles_in rs)

spare_more : (rs : List Record) (r : Record) → declares_again rs r ≡ false → Spare (declared_in rs) (roles_in rs) → Spare (declared_in (rs ++ r ∷ [])) (roles_in (rs ++ r ∷ []))
unfolding declares_again names_role
spare_more rs r n h = rw (declared_snoc rs r, roles_snoc rs r) (go r.kind r.field n)
  where
    go : (k : Kind) (t : Text) → (is_kind Role (record_of k t) && member t (declared_in rs)) ≡ false
        → Spare (cond (is_kind Role (record_of k t)) (declared_in rs ++ t ∷ []) (declared_in rs)) (cond (names_role (record_of k t)) (known (roles_in rs) t) (roles_in rs))
    go Role t n = spare_declared (declared_in rs) (roles_in rs) t n h
    go Allow t n = star (is_star t)
      where
        star : (b : Bool) → Spare (declared_in rs) (cond (not b) (known (roles_in rs) t) (roles_in rs))
        star true = h
        star false = spare_named (declared_in rs) (roles_in rs) t h
    go Constraint t n = h
    go Collection t n = h
    go Pattern t n = h
    go Method t n = h
    go Omit t n = h
    go End t n = h

-- one more of something passes the most exactly where they are as many already
one_past : (m n : ℕ) → ltb m (suc n) ≡ leb m n
one_past m n = leb-suc-suc m n

known_past : (us : List Text) (t : Text) (m : ℕ) → length us ≤ m → ltb m (length (known us t)) ≡ (not (member t us) && leb m (length us))
known_past us t m h = go (member t us) refl
  where
    go : (b : Bool) → member t us ≡ b → ltb m (length (known us t)) ≡ (not b && leb m (length us))
    go true e = rw (known_there us t e, le-ltb m (length us) h)
    go false e = rw (known_new us t e, length_snoc us t, one_past m (length us))

or_none : (b : Bool) → (b || false) ≡ b
or_none true = refl
or_none false = refl

module _ (rs : List Record) (h : too_many rs ≡ false) where
  -- what the records with one more come to
  many_with : (k : Kind) (t : Text) → too_many (rs ++ record_of k t ∷ [])
      ≡ (ltb 64 (one_more (is_kind Constraint (record_of k t)) (count Constraint rs))
      || (ltb 128 (one_more (is_kind Collection (record_of k t)) (count Collection rs))
      || (ltb 128 (one_more (is_kind Pattern (record_of k t)) (count Pattern rs))
      || (ltb 512 (one_more (names_method (record_of k t)) (count Method rs + count Omit rs))
      || (ltb 32 (length (cond (names_role (record_of k t)) (known (roles_in rs) t) (roles_in rs)))
      || ltb 31 (length (cond (names_method (record_of k t)) (known (methods_in rs) t) (methods_in rs))))))))
  unfolding too_many
  many_with k t =
      let r = record_of k t in
      rw (
        count_snoc rs r Constraint,
        count_snoc rs r Collection,
        count_snoc rs r Pattern,
        count_snoc rs r Method,
        count_snoc rs r Omit,
        roles_snoc rs r,
        methods_snoc rs r,
        lines_more k t (count Method rs) (count Omit rs),
      )

  -- none of what is as it was is too many
  not_constraints : ltb 64 (count Constraint rs) ≡ false
  not_constraints = le-ltb 64 (count Constraint rs) (few rs h).constraints

  not_collections : ltb 128 (count Collection rs) ≡ false
  not_collections = le-ltb 128 (count Collection rs) (few rs h).collections

  not_patterns : ltb 128 (count Pattern rs) ≡ false
  not_patterns = le-ltb 128 (count Pattern rs) (few rs h).patterns

  not_lines : ltb 512 (count Method rs + count Omit rs) ≡ false
  not_lines = le-ltb 512 (count Method rs + count Omit rs) (few rs h).lines

  not_roles : ltb 32 (length (roles_in rs)) ≡ false
  not_roles = le-ltb 32 (length (roles_in rs)) (few rs h).roles

  not_methods : ltb 31 (length (methods_in rs)) ≡ false
  not_methods = le-ltb 31 (length (methods_in rs)) (few rs h).methods

  -- a role: 32 declared ones leave no room for another name
  role_many : (t : Text) → member t (declared_in rs) ≡ false → Spare (declared_in rs) (roles_in rs)
      → (leb 32 (length (declared_in rs)) || (not (member t (roles_in rs)) && leb 32 (length (roles_in rs)))) ≡ ltb 32 (length (known (roles_in rs) t))
  role_many t n sp = rw (← known_past (roles_in rs) t 32 (few rs h).roles) (go (leb 32 (length (declared_in rs))) refl)
    where
      go : (b : Bool) → leb 32 (length (declared_in rs)) ≡ b → (b || ltb 32 (length (known (roles_in rs) t))) ≡ ltb 32 (length (known (roles_in rs) t))
      go true e =
          let j = leb-true 32 (length (declared_in rs)) e in
          let k = spare_declared (declared_in rs) (roles_in rs) t n sp in
          let i = length_snoc (declared_in rs) t in
          sym (lt-ltb 32 (length (known (roles_in rs) t)) (omega arith))
      go false e = refl

  full_many : (k : Kind) (t : Text) → declares_again rs (record_of k t) ≡ false → Spare (declared_in rs) (roles_in rs)
      → is_full (ledger_of rs) (record_of k t) ≡ too_many (rs ++ record_of k t ∷ [])
  unfolding is_full ledger_of declares_again names_role
  full_many Role t n sp =
      role_many t n sp ∙ sym (many_with Role t ∙ rw (not_constraints, not_collections, not_patterns, not_lines, not_methods) (or_none _))
  full_many Constraint t n sp =
      sym (many_with Constraint t ∙ rw (not_collections, not_patterns, not_lines, not_roles, not_methods, one_past 64 (count Constraint rs)) (or_none _))
  full_many Allow t n sp = sym (many_with Allow t ∙ rw (not_constraints, not_collections, not_patterns, not_lines, not_methods) (star (is_star t)))
    where
      star : (b : Bool) → (ltb 32 (length (cond (not b) (known (roles_in rs) t) (roles_in rs))) || false) ≡ (not b && (not (member t (roles_in rs)) && leb 32 (length (roles_in rs))))
      star true = rw not_roles
      star false = rw (known_past (roles_in rs) t 32 (few rs h).roles) (or_none _)
  full_many Collection t n sp =
      sym (many_with Collection t ∙ rw (not_constraints, not_patterns, not_lines, not_roles, not_methods, one_past 128 (count Collection rs)) (or_none _))
  full_many Pattern t n sp =
      sym (many_with Pattern t ∙ rw (not_constraints, not_collections, not_lines, not_roles, not_methods, one_past 128 (count Pattern rs)) (or_none _))
  full_many Method t n sp =
      sym (many_with Method t
      ∙ rw (not_constraints, not_collections, not_patterns, not_roles, one_past 512 (count Method rs + count Omit rs), known_past (methods_in rs) t 31 (few rs h).methods))
  full_many Omit t n sp =
      sym (many_with Omit t
      ∙ rw (not_constraints, not_collections, not_patterns, not_roles, one_past 512 (count Method rs + count Omit rs), known_past (methods_in rs) t 31 (few rs h).methods))
  full_many End t n sp = sym (many_with End t ∙ rw (not_constraints, not_collections, not_patterns, not_lines, not_roles, not_methods))

-- the ledger breaks the rule that the records break
module _ (rs : List Record) (L : Ledger) (p : Pictured rs L) (r : Record) where
  pub same_rule : ledger_fault L r ≡ first_fault rs r
  unfolding ledger_fault first_fault ledger_of declares_again
  same_rule = rw p.is (go (has_bad_name r) (has_bad_pattern r) (declares_again rs r) refl)
    where
      go : (a b c : Bool) → declares_again rs r ≡ c
          → cond a (some bad_name) (cond b (some bad_pattern) (cond c (some role_twice) (cond (is_full (ledger_of rs) r) (some past_most) none)))
          ≡ cond a (some bad_name) (cond b (some bad_pattern) (cond c (some role_twice) (cond (too_many (rs ++ r ∷ [])) (some past_most) none)))
      go true b c e = refl
      go false true c e = refl
      go false false true e = refl
      go false false false e = rw (full_many rs p.few r.kind r.field e p.spare)

  pub picture_added : first_fault rs r ≡ none → Pictured (rs ++ r ∷ []) (kept L r)
  unfolding first_fault
  picture_added n = record { is = ap (λ (M : Ledger). kept M r) p.is ∙ kept_more rs r; few = passes.1; spare = spare_more rs r passes.0 p.spare }
    where
      go : (a b c d : Bool) → cond a (some bad_name) (cond b (some bad_pattern) (cond c (some role_twice) (cond d (some past_most) none))) ≡ none → (c ≡ false) × (d ≡ false)
      go true b c d e = absurd (some-ne-none bad_name e)
      go false true c d e = absurd (some-ne-none bad_pattern e)
      go false false true d e = absurd (some-ne-none role_twice e)
      go false false false true e = absurd (some-ne-none past_most e)
      go false false false false e = (refl, refl)

      passes : (declares_again rs r ≡ false) × (too_many (rs ++ r ∷ []) ≡ false)
      passes = go (has_bad_name r) (has_bad_pattern r) (declares_again rs r) (too_many (rs ++ r ∷ [])) n

pub picture_guarded : (rs : List Record) (L : Ledger) → Pictured rs L → Pictured (guarded rs) (marked L)
unfolding too_many roles_in methods_in declared_in count names_role
picture_guarded rs L p =
    record {
      is = ap marked p.is ∙ marked_guarded rs;
      few =
          rw (
            constraints_guarded rs,
            fields_guarded (is_kind Collection) (λ t. refl) rs,
            fields_guarded (is_kind Pattern) (λ t. refl) rs,
            fields_guarded (is_kind Method) (λ t. refl) rs,
            fields_guarded (is_kind Omit) (λ t. refl) rs,
            fields_guarded names_role (λ t. refl) rs,
            fields_guarded names_method (λ t. refl) rs,
          )
          p.few;
      spare = rw (fields_guarded (is_kind Role) (λ t. refl) rs, fields_guarded names_role (λ t. refl) rs) p.spare;
    }

pub picture_none : Pictured [] no_records
unfolding too_many roles_in methods_in declared_in count fields_where outside
picture_none = record { is = sym none_kept; few = refl; spare = omega arith }
