-- What is kept is what the records are: with one more, and with the last constraint guarded.
use mathlib.Core.Path.{◌≡◌, refl, sym, ap, ◌∙◌}
use mathlib.Core.Bool.{Bool, true, false, not, cond, ◌&&◌, ◌||◌}
use mathlib.Core.List.{List, [], ◌∷◌, ◌++◌}
use Prim.Native.Nat.{ℕ, suc, ◌+◌, ◌-◌, ◌≤◌, ◌<◌}
use native.Mathlib.Omega.{arith}
use native.Mathlib.Decide.{dec_lt}
use lib.ListN.{length, take, set, length-take}
use lib.Seq.{take-append-le, take_all, take-set-le, take-set-lt, set_out}
use lib.Dec.{eqb, leb, ltb}
use borrow.Author.Tests.{lt-ltb, le-ltb, le-leb, ne_eqb}
use Rattle.text.specs.Texts.{Text, bytes}
use Rattle.text.proofs.Truths.{never, or_left, or_right}
use Rattle.text.proofs.Indices.{length_snoc}
use Rattle.listings.specs.Records.{Record, is_kind, names_role, names_method, fields_where, declared_in, roles_in, methods_in}
use Rattle.listings.specs.Counts.{count}
use Rattle.listings.specs.declared.records.Kind.{Kind}
use Rattle.listings.specs.declared.records.Kind.TheVariants.{Role, Constraint, Allow, Collection, Pattern, Method, Omit, End}
use Rattle.listings.proofs.Countings.{count_snoc, declared_snoc, roles_snoc, methods_snoc}
use Rattle.portals.specs.Records.{record_of, any_constraint, guarded}
use Rattle.ledger.specs.Ledgers.{most_kept, no_records, one_more, kept, marked, least, last_from, ledger_of}

-- ---- one more record is kept as it is
least_more : (n : ℕ) → one_more (leb (least 3601 n) 3600) (least 3601 n) ≡ least 3601 (suc n)
least_more n = go (dec_lt 3600 n)
  where
    go : Dec (3600 < n) → one_more (leb (least 3601 n) 3600) (least 3601 n) ≡ least 3601 (suc n)
    go (yes h) = rw (lt-ltb 3601 (suc n) (omega arith)) (past (dec_lt 3601 n))
      where
        past : Dec (3601 < n) → one_more (leb (least 3601 n) 3600) (least 3601 n) ≡ 3601
        past (yes k) = rw (lt-ltb 3601 n k)
        past (no k) = let e : n ≡ 3601 = omega arith in rw e
    go (no h) = rw (le-ltb 3601 n (omega arith), le-leb n 3600 (omega arith), le-ltb 3601 (suc n) (omega arith))

taken_more : (rs : List Record) (r : Record) → cond (ltb (least 3601 (length rs)) 3600) (take 3600 rs ++ r ∷ []) (take 3600 rs) ≡ take 3600 (rs ++ r ∷ [])
taken_more rs r = go (dec_lt (length rs) 3600)
  where
    go : Dec (length rs < 3600) → cond (ltb (least 3601 (length rs)) 3600) (take 3600 rs ++ r ∷ []) (take 3600 rs) ≡ take 3600 (rs ++ r ∷ [])
    go (yes h) =
        let e = length_snoc rs r in
        rw (le-ltb 3601 (length rs) (omega arith), lt-ltb (length rs) 3600 h, take_all 3600 rs (omega arith), take_all 3600 (rs ++ r ∷ []) (omega arith))
    go (no h) = rw (take-append-le 3600 rs (r ∷ []) (omega arith)) (past (dec_lt 3601 (length rs)))
      where
        past : Dec (3601 < length rs) → cond (ltb (least 3601 (length rs)) 3600) (take 3600 rs ++ r ∷ []) (take 3600 rs) ≡ take 3600 rs
        past (yes k) = rw (lt-ltb 3601 (length rs) k)
        past (no k) = rw (le-ltb 3601 (length rs) (omega arith), le-ltb (length rs) 3600 (omega arith))

last_more : (rs : List Record) (r : Record) (i z : ℕ) → last_from i z (rs ++ r ∷ []) ≡ cond (is_kind Constraint r) (suc (least 3601 (i + length rs))) (last_from i z rs)
unfolding last_from
last_more [] r i z = let e : i + 0 ≡ i = omega arith in rw e
last_more (q ∷ rs) r i z =
    let e : suc i + length rs ≡ i + suc (length rs) = omega arith in
    last_more rs r (suc i) (cond (is_kind Constraint q) (suc (least 3601 i)) z) ∙ rw e

last_kept : (rs : List Record) (r : Record) → last_from 0 0 (rs ++ r ∷ []) ≡ cond (is_kind Constraint r) (suc (least 3601 (length rs))) (last_from 0 0 rs)
last_kept rs r = let e : 0 + length rs ≡ length rs = omega arith in last_more rs r 0 0 ∙ rw e

-- `method` and `omit` lines are counted together
pub lines_more : (k : Kind) (t : Text) (a b : ℕ) → one_more (names_method (record_of k t)) (a + b) ≡ cond (is_kind Method (record_of k t)) (suc a) a + cond (is_kind Omit (record_of k t)) (suc b) b
lines_more Role t a b = refl
lines_more Constraint t a b = refl
lines_more Allow t a b = refl
lines_more Collection t a b = refl
lines_more Pattern t a b = refl
lines_more Method t a b = omega arith
lines_more Omit t a b = omega arith
lines_more End t a b = refl

pub kept_more : (rs : List Record) (r : Record) → kept (ledger_of rs) r ≡ ledger_of (rs ++ r ∷ [])
unfolding kept ledger_of
kept_more rs r =
    rw (
      least_more (length rs),
      taken_more rs r,
      length_snoc rs r,
      roles_snoc rs r,
      methods_snoc rs r,
      declared_snoc rs r,
      count_snoc rs r Constraint,
      count_snoc rs r Collection,
      count_snoc rs r Pattern,
      count_snoc rs r Method,
      count_snoc rs r Omit,
      last_kept rs r,
      lines_more r.kind r.field (count Method rs) (count Omit rs),
    )

pub none_kept : ledger_of [] ≡ no_records
unfolding ledger_of roles_in methods_in declared_in count fields_where last_from
none_kept = refl

-- ---- the last constraint guarded
constraint_is : (k : Kind) (t : Text) → is_kind Constraint (record_of k t) ≡ true → k ≡ Constraint
constraint_is Role t e = absurd (never false e refl)
constraint_is Constraint t e = refl
constraint_is Allow t e = absurd (never false e refl)
constraint_is Collection t e = absurd (never false e refl)
constraint_is Pattern t e = absurd (never false e refl)
constraint_is Method t e = absurd (never false e refl)
constraint_is Omit t e = absurd (never false e refl)
constraint_is End t e = absurd (never false e refl)

-- no other record's field changes
module _ (test : Record → Bool) (other : (t : Text) → test (record_of Constraint t) ≡ false) where
  passes_not : (r : Record) → is_kind Constraint r ≡ true → test r ≡ false
  passes_not r e = ap (λ (k : Kind). test (record_of k r.field)) (constraint_is r.kind r.field e) ∙ other r.field

  pub fields_guarded : (rs : List Record) → fields_where test (guarded rs) ≡ fields_where test rs
  unfolding guarded fields_where
  fields_guarded [] = refl
  fields_guarded (r ∷ rs) = go (is_kind Constraint r) (any_constraint rs) refl (fields_guarded rs)
    where
      go : (c d : Bool) → is_kind Constraint r ≡ c → fields_where test (guarded rs) ≡ fields_where test rs
          → fields_where test (cond (c && not d) (record_of Constraint (bytes "auth") ∷ rs) (r ∷ guarded rs)) ≡ fields_where test (r ∷ rs)
      go true true e again = rw again
      go true false e again = rw (other (bytes "auth"), passes_not r e)
      go false d e again = rw again

pub constraints_guarded : (rs : List Record) → count Constraint (guarded rs) ≡ count Constraint rs
unfolding count guarded fields_where
constraints_guarded [] = refl
constraints_guarded (r ∷ rs) = go (is_kind Constraint r) (any_constraint rs) refl (constraints_guarded rs)
  where
    go : (c d : Bool) → is_kind Constraint r ≡ c → length (fields_where (is_kind Constraint) (guarded rs)) ≡ length (fields_where (is_kind Constraint) rs)
        → length (fields_where (is_kind Constraint) (cond (c && not d) (record_of Constraint (bytes "auth") ∷ rs) (r ∷ guarded rs))) ≡ length (fields_where (is_kind Constraint) (r ∷ rs))
    go true true e again = rw (e, again)
    go true false e again = rw e
    go false d e again = rw (e, again)

length_guarded : (rs : List Record) → length (guarded rs) ≡ length rs
unfolding guarded
length_guarded [] = refl
length_guarded (r ∷ rs) = go (is_kind Constraint r && not (any_constraint rs)) (length_guarded rs)
  where
    go : (b : Bool) → length (guarded rs) ≡ length rs → length (cond b (record_of Constraint (bytes "auth") ∷ rs) (r ∷ guarded rs)) ≡ suc (length rs)
    go true again = refl
    go false again = ap suc again

last_guarded : (rs : List Record) (i z : ℕ) → last_from i z (guarded rs) ≡ last_from i z rs
unfolding guarded last_from
last_guarded [] i z = refl
last_guarded (r ∷ rs) i z = go (is_kind Constraint r) (any_constraint rs) refl (last_guarded rs)
  where
    go : (c d : Bool) → is_kind Constraint r ≡ c → ((j y : ℕ) → last_from j y (guarded rs) ≡ last_from j y rs)
        → last_from i z (cond (c && not d) (record_of Constraint (bytes "auth") ∷ rs) (r ∷ guarded rs)) ≡ last_from i z (r ∷ rs)
    go true true e again = again (suc i) _
    go true false e again = rw e
    go false d e again = again (suc i) _

-- the place of the last constraint, where there is one
last_place : List Record → ℕ
last_place [] = 0
last_place (r ∷ rs) = cond (any_constraint rs) (suc (last_place rs)) 0

no_constraint : (rs : List Record) (i z : ℕ) → any_constraint rs ≡ false → (guarded rs ≡ rs) × (last_from i z rs ≡ z)
unfolding guarded last_from any_constraint
no_constraint [] i z e = (refl, refl)
no_constraint (r ∷ rs) i z e =
    let c : is_kind Constraint r ≡ false = or_left (is_kind Constraint r) (any_constraint rs) e in
    let again = no_constraint rs (suc i) z (or_right (is_kind Constraint r) (any_constraint rs) e) in
    (rw (c, again.0), rw c again.1)

last_at_lem : (rs : List Record) (i z : ℕ) → any_constraint rs ≡ true → last_from i z rs ≡ suc (least 3601 (i + last_place rs))
unfolding last_from any_constraint last_place
last_at_lem [] i z e = absurd (never false e refl)
last_at_lem (r ∷ rs) i z e = go (any_constraint rs) refl (is_kind Constraint r) refl e (last_at_lem rs)
  where
    go : (d : Bool) → any_constraint rs ≡ d → (c : Bool) → is_kind Constraint r ≡ c → (c || d) ≡ true
        → ((j y : ℕ) → any_constraint rs ≡ true → last_from j y rs ≡ suc (least 3601 (j + last_place rs)))
        → last_from (suc i) (cond c (suc (least 3601 i)) z) rs ≡ suc (least 3601 (i + cond d (suc (last_place rs)) 0))
    go true d c q h again = let x : suc i + last_place rs ≡ i + suc (last_place rs) = omega arith in again (suc i) _ d ∙ rw x
    go false d true q h again = let x : i + 0 ≡ i = omega arith in rw x (no_constraint rs (suc i) (suc (least 3601 i)) d).1
    go false d false q h again = absurd (never false h refl)

guarded_at : (rs : List Record) → any_constraint rs ≡ true → guarded rs ≡ set rs (last_place rs) (record_of Constraint (bytes "auth"))
unfolding guarded any_constraint last_place
guarded_at [] e = absurd (never false e refl)
guarded_at (r ∷ rs) e = go (any_constraint rs) refl (is_kind Constraint r) e (guarded_at rs)
  where
    go : (d : Bool) → any_constraint rs ≡ d → (c : Bool) → (c || d) ≡ true
        → (any_constraint rs ≡ true → guarded rs ≡ set rs (last_place rs) (record_of Constraint (bytes "auth")))
        → cond (c && not d) (record_of Constraint (bytes "auth") ∷ rs) (r ∷ guarded rs) ≡ set (r ∷ rs) (cond d (suc (last_place rs)) 0) (record_of Constraint (bytes "auth"))
    go true q true h again = ap (λ (l : List Record). r ∷ l) (again q)
    go true q false h again = ap (λ (l : List Record). r ∷ l) (again q)
    go false q true h again = refl
    go false q false h again = absurd (never false h refl)

-- it is changed where it has room
changed : (rs : List Record) (p : ℕ) (a : Record) → set (take 3600 rs) (least 3601 p) a ≡ take 3600 (set rs p a)
changed rs p a = go (dec_lt p 3600)
  where
    short : length (take 3600 rs) ≤ 3600
    short = simp length-take (omega arith)

    far : 3600 ≤ p → Dec (3601 < p) → 3600 ≤ least 3601 p
    far h (yes k) = rw (lt-ltb 3601 p k) (omega arith)
    far h (no k) = rw (le-ltb 3601 p (omega arith)) h

    go : Dec (p < 3600) → set (take 3600 rs) (least 3601 p) a ≡ take 3600 (set rs p a)
    go (yes h) = rw (le-ltb 3601 p (omega arith)) (sym (take-set-lt 3600 rs p a h))
    go (no h) =
        set_out (take 3600 rs) (least 3601 p) a (let k = far (omega arith) (dec_lt 3601 p) in let m = short in omega arith)
        ∙ sym (take-set-le 3600 rs p a (omega arith))

records_guarded : (rs : List Record) → cond (eqb (last_from 0 0 rs) 0) (take 3600 rs) (set (take 3600 rs) (last_from 0 0 rs - 1) (record_of Constraint (bytes "auth"))) ≡ take 3600 (guarded rs)
records_guarded rs = go (any_constraint rs) refl
  where
    go : (d : Bool) → any_constraint rs ≡ d
        → cond (eqb (last_from 0 0 rs) 0) (take 3600 rs) (set (take 3600 rs) (last_from 0 0 rs - 1) (record_of Constraint (bytes "auth"))) ≡ take 3600 (guarded rs)
    go true d =
        let z : 0 + last_place rs ≡ last_place rs = omega arith in
        let n : ℕ = least 3601 (last_place rs) in
        let x : suc n - 1 ≡ n = omega arith in
        rw (last_at_lem rs 0 0 d, z, ne_eqb (suc n) 0 (λ e. omega arith), x, guarded_at rs d) (changed rs (last_place rs) (record_of Constraint (bytes "auth")))
    go false d = rw ((no_constraint rs 0 0 d).1, (no_constraint rs 0 0 d).0)

pub marked_guarded : (rs : List Record) → marked (ledger_of rs) ≡ ledger_of (guarded rs)
unfolding marked ledger_of roles_in methods_in declared_in count names_role
marked_guarded rs =
    rw (
      records_guarded rs,
      length_guarded rs,
      fields_guarded names_role (λ t. refl) rs,
      fields_guarded names_method (λ t. refl) rs,
      fields_guarded (is_kind Role) (λ t. refl) rs,
      constraints_guarded rs,
      fields_guarded (is_kind Collection) (λ t. refl) rs,
      fields_guarded (is_kind Pattern) (λ t. refl) rs,
      fields_guarded (is_kind Method) (λ t. refl) rs,
      fields_guarded (is_kind Omit) (λ t. refl) rs,
      last_guarded rs 0 0,
    )

-- ---- what is kept of few
pub size_few : (rs : List Record) → (ledger_of rs).size ≤ most_kept → length rs ≤ most_kept
unfolding ledger_of
size_few rs h = go (dec_lt 3601 (length rs)) h
  where
    go : Dec (3601 < length rs) → least 3601 (length rs) ≤ 3600 → length rs ≤ 3600
    go (yes k) l = let e : 3601 ≤ 3600 = rw (lt-ltb 3601 (length rs) k) at l in absurd (omega arith)
    go (no k) l = let e : length rs ≤ 3600 = rw (le-ltb 3601 (length rs) (omega arith)) at l in e

pub all_kept : (rs : List Record) → (ledger_of rs).size ≤ most_kept → (ledger_of rs).records ≡ rs
unfolding ledger_of
all_kept rs h = take_all 3600 rs (size_few rs h)

pub size_past : (rs : List Record) → most_kept < (ledger_of rs).size → most_kept < length rs
unfolding ledger_of
size_past rs h = go (dec_lt 3601 (length rs)) h
  where
    go : Dec (3601 < length rs) → 3600 < least 3601 (length rs) → 3600 < length rs
    go (yes k) l = omega arith
    go (no k) l = let e : 3600 < length rs = rw (le-ltb 3601 (length rs) (omega arith)) at l in e
