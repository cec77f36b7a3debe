-- What adding a record comes to, return by return. A law's premises are what the code knows there: the results of its calls, the tests that it has made, and the table that it hands back.
use mathlib.Core.Path.{◌≡◌, refl, sym, ap, subst, ◌∙◌}
use mathlib.Core.Bool.{Bool, true, false, not, cond, ◌&&◌, ◌||◌}
use mathlib.Core.List.{List, []}
use mathlib.Core.Option.{none, some}
use Rattle.std.specs.Prelude.{Result, Ok, Err}
use Prim.Native.Nat.{ℕ, zero, suc, ◌+◌, ◌*◌, ◌≤◌, ◌<◌}
use native.Mathlib.Omega.{arith}
use native.Mathlib.Decide.{dec_lt}
use lib.ListN.{length, get_or}
use lib.Seq.{get_or-set_other}
use mathlib.Core.Logic.{◌⊎◌, inl, inr}
use lib.Arith.{digits_div, digits_mod}
use lib.Dec.{leb, ltb}
use borrow.Author.Tests.{lt-ltb, le-ltb, le-leb, lt-leb, leb-true, ne_eqb, not-true, not-false}
use Rattle.text.specs.Texts.{Text, same, all, member, known, index_of}
use Rattle.text.specs.Bytes.{is_text, is_token, between}
use Rattle.text.proofs.Truths.{and_left, and_right}
use Rattle.text.proofs.Indices.{index_bound, index_member}
use Rattle.names.specs.Names.{made_of, is_name, is_star, is_role_name, is_method_name, is_pattern, is_constraint_kind}
use Rattle.documents.specs.Parts.{Fault, bad_name, bad_pattern, role_twice, past_most}
use Rattle.listings.specs.Records.{names_role}
use Rattle.listings.specs.Fields.{name_fits, pattern_fits}
use Rattle.listings.specs.declared.records.Kind.{Kind}
use Rattle.listings.specs.declared.records.Kind.TheVariants.{Role, Constraint, Allow, Collection, Pattern, Method, Omit}
use Rattle.portals.specs.Records.{record_of}
use Rattle.markup.specs.declared.answers.Cause.{Cause}
use Rattle.markup.specs.declared.answers.Cause.TheVariants as C
use Rattle.markup.specs.Places.{cause_of}
use Rattle.ledger.specs.Ledgers.{Ledger, is_full, ledger_fault, kept}
use Rattle.ledger.specs.Places.{text_at, field_by, kind_by, record_by, record_at, name_at, names_at, ledger_at, Fits, Added, Offered, Judged, HasText, Sought, name_number, with_one, with_name, with_record, with_last, long_fault}
use Rattle.ledger.proofs.Stamps.{number_says}
use Rattle.ledger.proofs.Writes as W

abbrev Answer : Type 0
Answer = Result (Unit {0}) Cause

-- ---- names that are looked for
made_short : (class : ℕ → Bool) (hi : ℕ) (t : Text) → made_of class 1 hi t ≡ true → (1 ≤ length t) × (length t ≤ hi)
made_short class hi t y =
    let b : between 1 hi (length t) ≡ true = and_left (between 1 hi (length t)) (all class t) y in
    (leb-true 1 (length t) (and_left (leb 1 (length t)) (leb (length t) hi) b), leb-true (length t) hi (and_right (leb 1 (length t)) (leb (length t) hi) b))

module _ (s : Text) (w : List ℕ) (k p : ℕ) (t : Text) (o : Offered s w k p t) (r : Bool) (y : not r ≡ false) where
  sought : (class : ℕ → Bool) (hi : ℕ) → hi ≤ 255 → made_of class 1 hi t ≡ true → Sought s t
  sought class hi l m = let h = made_short class hi t m in let a = h.0 in let b = h.1 in let c = o.file in record { file = c; full = a; short = omega arith }

  pub name_sought : r ≡ is_name t → Sought s t
  unfolding is_name
  name_sought q = sought is_text 64 (omega arith) (and_left _ _ (sym q ∙ not-false r y))

  pub role_name_sought : r ≡ is_role_name t → Sought s t
  unfolding is_role_name is_name
  role_name_sought q = sought is_text 64 (omega arith) (and_left _ _ (and_left (is_name t) _ (sym q ∙ not-false r y)))

  pub method_name_sought : r ≡ is_method_name t → Sought s t
  unfolding is_method_name
  method_name_sought q = sought is_token 24 (omega arith) (sym q ∙ not-false r y)

-- ---- a new name is too many where its place is
new_by : (us : List Text) (t : Text) (i m : ℕ) → i ≡ index_of t us → length us ≤ m → (not (member t us) && leb m (length us)) ≡ leb m i
new_by us t i m e h = rw (← index_member t us, ← e) (go (dec_lt i (length us)))
  where
    go : Dec (i < length us) → (not (ltb i (length us)) && leb m (length us)) ≡ leb m i
    go (yes l) = rw (lt-ltb i (length us) l, lt-leb m i (omega arith))
    go (no l) = let b : i ≤ length us = rw e (index_bound t us) in let k : length us ≡ i = omega arith in rw (le-ltb i (length us) (omega arith), k)

-- ---- an outcome, from what the rules answer
-- the number of a record says it
number_record : (s : Text) (k p : ℕ) → k < 8 → record_at s (p * 8 + k) ≡ record_by s k p
number_record s k p h = rw (digits_div p h, digits_mod p h)

module _ (s : Text) (w : List ℕ) (k p : ℕ) (t : Text) (o : Offered s w k p t) where
  -- the field is the text that is lent
  as_lent : (n : Answer) (left : List ℕ) → Added s (ledger_at s w) (record_of (kind_by k) t) n left → Judged s w k p n left
  as_lent n left a = subst (λ (u : Text). Added s (ledger_at s w) (record_of (kind_by k) u) n left) (sym o.text) a

  refused : (f : Fault) → ledger_fault (ledger_at s w) (record_of (kind_by k) t) ≡ some f → Judged s w k p (Err (cause_of f)) w
  refused f e = as_lent (Err (cause_of f)) w (record { answer = rw e refl; fits = o.fits })

  -- the record's number put behind the others, where names and counts are kept in u
  taken : (u : List ℕ) (M : Ledger) → Fits u → ledger_at s u ≡ M → ledger_fault (ledger_at s w) (record_of (kind_by k) t) ≡ none
      → W.recorded M (record_of (kind_by k) t) ≡ kept (ledger_at s w) (record_of (kind_by k) t) → Judged s w k p (Ok tt) (with_record (p * 8 + k) u)
  taken u M f h e all_kept =
      as_lent (Ok tt) (with_record (p * 8 + k) u) (record { answer = rw e (refl, put_last); fits = W.record_fits s u f (p * 8 + k) })
    where
      put_last : ledger_at s (with_record (p * 8 + k) u) ≡ kept (ledger_at s w) (record_of (kind_by k) t)
      put_last =
          W.record_put_lem s u f (p * 8 + k)
          ∙ ap (W.recorded (ledger_at s u)) (number_record s k p o.kind ∙ ap (record_of (kind_by k)) o.text)
          ∙ ap (λ (N : Ledger). W.recorded N (record_of (kind_by k) t)) h
          ∙ all_kept

-- a record whose field is a text of the file
text_of : (s : Text) (k p : ℕ) → HasText k → field_by s k p ≡ text_at s p
unfolding field_by
text_of s k p h = rw (ne_eqb k 1 h.0, ne_eqb k 2 h.1, ne_eqb k 4 h.2)

-- ---- a role
module _ (s : Text) (w : List ℕ) (p : ℕ) (t : Text) (o : Offered s w 0 p t) (b : Bool) (good : b ≡ is_role_name t) where
  pub role_bad : not b ≡ true → Judged s w 0 p (Err C.BadName) w
  unfolding ledger_fault name_fits
  role_bad y = refused s w 0 p t o bad_name (rw (← good, y))

  module _ (y : not b ≡ false) (d c : ℕ) (q : d ≡ index_of t (names_at s 3664 (get_or w 3703 0) w)) (n : c ≡ get_or w 3703 0) where
    declared_by_lem : member t (ledger_at s w).declared ≡ ltb d c
    unfolding ledger_at
    declared_by_lem = sym (index_member t (ledger_at s w).declared) ∙ rw (W.declared_many s w o.fits, ← q, ← n)

    pub role_twice_lem : d < c → Judged s w 0 p (Err C.RoleTwice) w
    unfolding ledger_fault name_fits pattern_fits
    role_twice_lem h = refused s w 0 p t o role_twice (rw (← good, y, declared_by_lem, lt-ltb d c h))

    module _ (l : c ≤ d) (most : ℕ) (m : most ≡ 32) (i : ℕ) (e : i ≡ index_of t (names_at s 3600 (get_or w 3701 0) w)) where
      at_end : d ≡ c
      unfolding ledger_at
      at_end = let k : d ≤ length (ledger_at s w).declared = rw q (index_bound t (ledger_at s w).declared) in let h = W.declared_many s w o.fits in omega arith

      role_full : is_full (ledger_at s w) (record_of Role t) ≡ (leb 32 d || leb 32 i)
      unfolding is_full ledger_at
      role_full =
          rw (new_by (ledger_at s w).roles t i 32 e (let k = W.roles_many s w o.fits in let f = o.fits in omega arith), W.declared_many s w o.fits, ← n, ← at_end)

      role_fault : (x : Bool) → (leb 32 d || leb 32 i) ≡ x → ledger_fault (ledger_at s w) (record_of Role t) ≡ cond x (some past_most) none
      unfolding ledger_fault name_fits pattern_fits
      role_fault x h = rw (← good, y, declared_by_lem, le-ltb d c l, role_full, h)

      pub role_past : (most ≤ d) ⊎ ((d < most) × (most ≤ i)) → Judged s w 0 p (Err C.PastMost) w
      role_past (inl h) = refused s w 0 p t o past_most (role_fault true (rw (le-leb 32 d (omega arith))))
      role_past (inr (g, h)) = refused s w 0 p t o past_most (role_fault true (rw (lt-leb 32 d (omega arith), le-leb 32 i (omega arith))))

      pub role_kept : (x : ℕ) (left : List ℕ) → d < most → i < most → x ≡ name_number p t
          → left ≡ with_record (p * 8 + 0) (with_name 3600 3701 i x (with_name 3664 3703 d x w)) → Judged s w 0 p (Ok tt) left
      unfolding kept ledger_at names_role known field_by
      role_kept x left g h a z =
          rw z (taken s w 0 p t o (with_name 3600 3701 i x u) _ (W.role_name_fits s u fu t i x says (omega arith))
          (W.role_named s u fu t i x says (omega arith) (e ∙ ap (λ (M : Ledger). index_of t M.roles) (sym hu)) ∙ ap (λ (M : Ledger). W.with_roles M (known M.roles t)) hu)
          (role_fault false (rw (lt-leb 32 d (omega arith), lt-leb 32 i (omega arith))))
          (rw (declared_by_lem, le-ltb d c l)))
        where
          u : List ℕ
          u = with_name 3664 3703 d x w

          says : name_at s x ≡ t
          says = rw a (number_says s p t o.text)

          fu : Fits u
          fu = W.declared_name_fits s w o.fits t d x says (omega arith)

          hu : ledger_at s u ≡ W.with_declared (ledger_at s w) (known (ledger_at s w).declared t)
          hu = W.declared_named s w o.fits t d x says (omega arith) q

-- ---- an allowed name
module _ (s : Text) (w : List ℕ) (p : ℕ) (t : Text) (o : Offered s w 3 p t) (b : Bool) (good : b ≡ is_name t) where
  pub allow_bad : not b ≡ true → Judged s w 3 p (Err C.BadName) w
  unfolding ledger_fault name_fits
  allow_bad y = refused s w 3 p t o bad_name (rw (← good, y))

  module _ (y : not b ≡ false) (a : Bool) (k : a ≡ is_star t) where
    pub allow_star : (left : List ℕ) → a ≡ true → left ≡ with_record (p * 8 + 3) w → Judged s w 3 p (Ok tt) left
    unfolding ledger_fault name_fits pattern_fits is_full kept names_role
    allow_star left h z =
        rw z (taken s w 3 p t o w (ledger_at s w) o.fits refl (rw (← good, y, ← k, h)) (rw (← k, h)))

    module _ (h : a ≡ false) (i : ℕ) (e : i ≡ index_of t (names_at s 3600 (get_or w 3701 0) w)) (most : ℕ) (m : most ≡ 32) where
      allow_fault : (x : Bool) → leb 32 i ≡ x → ledger_fault (ledger_at s w) (record_of Allow t) ≡ cond x (some past_most) none
      unfolding ledger_fault name_fits pattern_fits is_full ledger_at
      allow_fault x l =
          rw (← good, y, ← k, h, new_by (ledger_at s w).roles t i 32 e (let j = W.roles_many s w o.fits in let f = o.fits in omega arith), l)

      pub allow_past : most ≤ i → Judged s w 3 p (Err C.PastMost) w
      allow_past l = refused s w 3 p t o past_most (allow_fault true (le-leb 32 i (omega arith)))

      pub allow_kept : (x : ℕ) (u left : List ℕ) → i < most → x ≡ name_number p t → u ≡ with_name 3600 3701 i x w → left ≡ with_record (p * 8 + 3) u → Judged s w 3 p (Ok tt) left
      unfolding kept ledger_at names_role known field_by
      allow_kept x u left l g v z =
          rw (z, v) (taken s w 3 p t o (with_name 3600 3701 i x w) _ (W.role_name_fits s w o.fits t i x says (omega arith))
          (W.role_named s w o.fits t i x says (omega arith) e)
          (allow_fault false (lt-leb 32 i (omega arith)))
          (rw (← k, h)))
        where
          says : name_at s x ≡ t
          says = rw g (number_says s p t o.text)

-- ---- a pattern
module _ (s : Text) (w : List ℕ) (p : ℕ) (t : Text) (o : Offered s w 5 p t) (b : Bool) (good : b ≡ is_pattern t) where
  pub pattern_bad : not b ≡ true → Judged s w 5 p (Err C.BadPattern) w
  unfolding ledger_fault name_fits pattern_fits
  pattern_bad y = refused s w 5 p t o bad_pattern (rw (← good, y))

  module _ (y : not b ≡ false) (most n : ℕ) (m : most ≡ 128) (e : n ≡ get_or w 3706 0) where
    pattern_fault : (x : Bool) → leb 128 n ≡ x → ledger_fault (ledger_at s w) (record_of Pattern t) ≡ cond x (some past_most) none
    unfolding ledger_fault name_fits pattern_fits is_full ledger_at
    pattern_fault x l = rw (← good, y, ← e, l)

    pub pattern_past : most ≤ n → Judged s w 5 p (Err C.PastMost) w
    pattern_past l = refused s w 5 p t o past_most (pattern_fault true (le-leb 128 n (omega arith)))

    pub pattern_kept : (u left : List ℕ) → n < most → u ≡ with_one 3706 w → left ≡ with_record (p * 8 + 5) u → Judged s w 5 p (Ok tt) left
    unfolding kept names_role
    pattern_kept u left l v z =
        rw (z, v) (taken s w 5 p t o (with_one 3706 w) _ (W.pattern_fits_lem s w o.fits (omega arith)) (W.pattern_counted s w o.fits (omega arith))
        (pattern_fault false (lt-leb 128 n (omega arith))) refl)

-- ---- a collection
module _ (s : Text) (w : List ℕ) (p : ℕ) (f : Fits w) (file : length s ≤ 65536) (near : p ≤ 65536) (most n : ℕ) (m : most ≡ 128) (e : n ≡ get_or w 3705 0) where
  collection_offered : Offered s w 4 p []
  unfolding field_by
  collection_offered = record { file = file; kind = omega arith; place = near; text = refl; fits = f }

  collection_fault : (x : Bool) → leb 128 n ≡ x → ledger_fault (ledger_at s w) (record_of Collection []) ≡ cond x (some past_most) none
  unfolding ledger_fault name_fits pattern_fits is_full ledger_at
  collection_fault x l = rw (← e, l)

  pub collection_past : most ≤ n → Judged s w 4 p (Err C.PastMost) w
  collection_past l = refused s w 4 p [] collection_offered past_most (collection_fault true (le-leb 128 n (omega arith)))

  pub collection_kept : (u left : List ℕ) → n < most → u ≡ with_one 3705 w → left ≡ with_record (p * 8 + 4) u → Judged s w 4 p (Ok tt) left
  unfolding kept names_role
  collection_kept u left l v z =
      rw (z, v) (taken s w 4 p [] collection_offered (with_one 3705 w) _ (W.collection_fits s w f (omega arith)) (W.collection_counted s w f (omega arith))
      (collection_fault false (lt-leb 128 n (omega arith))) refl)

-- ---- a constraint
-- 1 and 2 are its kinds, and the field is good
constraint_kind : (k : ℕ) → 1 ≤ k → k ≤ 2 → kind_by k ≡ Constraint
constraint_kind k a b = go (dec_lt 1 k)
  where
    go : Dec (1 < k) → kind_by k ≡ Constraint
    go (yes l) = let e : k ≡ 2 = omega arith in rw e
    go (no l) = let e : k ≡ 1 = omega arith in rw e

constraint_good : (s : Text) (k p : ℕ) → 1 ≤ k → k ≤ 2 → is_constraint_kind (field_by s k p) ≡ true
unfolding field_by is_constraint_kind same
constraint_good s k p a b = go (dec_lt 1 k)
  where
    go : Dec (1 < k) → is_constraint_kind (field_by s k p) ≡ true
    go (yes l) = let e : k ≡ 2 = omega arith in rw e
    go (no l) = let e : k ≡ 1 = omega arith in rw e

module _ (s : Text) (w : List ℕ) (k p : ℕ) (f : Fits w) (from : 1 ≤ k) (to : k ≤ 2) (file : length s ≤ 65536) (near : p ≤ 65536) (most n : ℕ) (m : most ≡ 64) (e : n ≡ get_or w 3704 0) where
  constraint_offered : Offered s w k p (field_by s k p)
  constraint_offered = record { file = file; kind = omega arith; place = near; text = refl; fits = f }

  constraint_fault : (x : Bool) → leb 64 n ≡ x → ledger_fault (ledger_at s w) (record_of (kind_by k) (field_by s k p)) ≡ cond x (some past_most) none
  unfolding ledger_fault name_fits pattern_fits is_full ledger_at
  constraint_fault x l = rw (constraint_kind k from to, constraint_good s k p from to, ← e, l)

  pub constraint_past : most ≤ n → Judged s w k p (Err C.PastMost) w
  constraint_past l = refused s w k p (field_by s k p) constraint_offered past_most (constraint_fault true (le-leb 64 n (omega arith)))

  pub constraint_kept : (left : List ℕ) → n < most → left ≡ with_record (p * 8 + k) (with_one 3704 (with_last w)) → Judged s w k p (Ok tt) left
  unfolding kept names_role
  constraint_kept left l z =
      rw z (taken s w k p (field_by s k p) constraint_offered (with_one 3704 (with_last w)) _ (W.constraint_fits s (with_last w) (W.last_fits s w f) few)
      (W.constraint_counted s (with_last w) (W.last_fits s w f) few ∙ ap (λ (M : Ledger). W.with_constraints M (suc M.constraints)) (W.last_put s w f))
      (constraint_fault false (lt-leb 64 n (omega arith)))
      (rw (constraint_kind k from to)))
    where
      few : get_or (with_last w) 3704 0 < 64
      few = rw (get_or-set_other w 3708 3704 (get_or w 3700 0 + 1) 0 (λ z. omega arith)) (omega arith)

-- ---- a method or an omission
method_kind : (k : ℕ) → 6 ≤ k → k < 8 → (kind_by k ≡ Method) ⊎ (kind_by k ≡ Omit)
method_kind k a b = go (dec_lt 6 k)
  where
    go : Dec (6 < k) → (kind_by k ≡ Method) ⊎ (kind_by k ≡ Omit)
    go (yes l) = let e : k ≡ 7 = omega arith in inr (rw e)
    go (no l) = let e : k ≡ 6 = omega arith in inl (rw e)

-- of either kind
module _ (L : Ledger) (K : Kind) (t : Text) where
  line_bad : (K ≡ Method) ⊎ (K ≡ Omit) → is_method_name t ≡ false → ledger_fault L (record_of K t) ≡ some bad_name
  unfolding ledger_fault name_fits
  line_bad (inl e) y = rw (e, y)
  line_bad (inr e) y = rw (e, y)

  line_fault : (K ≡ Method) ⊎ (K ≡ Omit) → is_method_name t ≡ true → (x : Bool) → (leb 512 L.lines || (not (member t L.methods) && leb 31 (length L.methods))) ≡ x
      → ledger_fault L (record_of K t) ≡ cond x (some past_most) none
  unfolding ledger_fault name_fits pattern_fits is_full
  line_fault (inl e) y x h = rw (e, y, h)
  line_fault (inr e) y x h = rw (e, y, h)

  line_kept : (K ≡ Method) ⊎ (K ≡ Omit) → W.recorded (W.with_methods (W.with_lines L (suc L.lines)) (known L.methods t)) (record_of K t) ≡ kept L (record_of K t)
  unfolding kept names_role
  line_kept (inl e) = rw e
  line_kept (inr e) = rw e

module _ (s : Text) (w : List ℕ) (k p : ℕ) (t : Text) (o : Offered s w k p t) (from : 6 ≤ k) (b : Bool) (good : b ≡ is_method_name t) where
  either : (kind_by k ≡ Method) ⊎ (kind_by k ≡ Omit)
  either = method_kind k from o.kind

  pub method_bad : not b ≡ true → Judged s w k p (Err C.BadName) w
  method_bad y = refused s w k p t o bad_name (line_bad (ledger_at s w) (kind_by k) t either (sym good ∙ not-true b y))

  module _ (y : not b ≡ false) (mostLines n : ℕ) (m : mostLines ≡ 512) (e : n ≡ get_or w 3707 0) where
    method_fault : (x : Bool) → (leb 512 n || (not (member t (ledger_at s w).methods) && leb 31 (length (ledger_at s w).methods))) ≡ x
        → ledger_fault (ledger_at s w) (record_of (kind_by k) t) ≡ cond x (some past_most) none
    unfolding ledger_at
    method_fault x h = line_fault (ledger_at s w) (kind_by k) t either (sym good ∙ not-false b y) x (rw (← e) h)

    pub line_past : mostLines ≤ n → Judged s w k p (Err C.PastMost) w
    line_past l = refused s w k p t o past_most (method_fault true (rw (le-leb 512 n (omega arith))))

    module _ (l : n < mostLines) (i most : ℕ) (q : i ≡ index_of t (names_at s 3632 (get_or w 3702 0) w)) (g : most ≡ 31) where
      methods_by : (leb 512 n || (not (member t (ledger_at s w).methods) && leb 31 (length (ledger_at s w).methods))) ≡ leb 31 i
      unfolding ledger_at
      methods_by =
          rw (lt-leb 512 n (omega arith), new_by (ledger_at s w).methods t i 31 q (let j = W.methods_many s w o.fits in let f = o.fits in omega arith))

      pub method_past : most ≤ i → Judged s w k p (Err C.PastMost) w
      method_past h = refused s w k p t o past_most (method_fault true (methods_by ∙ le-leb 31 i (omega arith)))

      pub method_kept : (x : ℕ) (left : List ℕ) → i < most → x ≡ name_number p t
          → left ≡ with_record (p * 8 + k) (with_name 3632 3702 i x (with_one 3707 w)) → Judged s w k p (Ok tt) left
      unfolding ledger_at
      method_kept x left h a z =
          rw z (taken s w k p t o (with_name 3632 3702 i x u) _ (W.method_name_fits s u fu t i x says (omega arith))
          (W.method_named s u fu t i x says (omega arith) (q ∙ ap (λ (M : Ledger). index_of t M.methods) (sym hu)) ∙ ap (λ (M : Ledger). W.with_methods M (known M.methods t)) hu)
          (method_fault false (methods_by ∙ lt-leb 31 i (omega arith)))
          (line_kept (ledger_at s w) (kind_by k) t either))
        where
          u : List ℕ
          u = with_one 3707 w

          says : name_at s x ≡ t
          says = rw a (number_says s p t (sym (text_of s k p ((λ c. omega arith), (λ c. omega arith), (λ c. omega arith))) ∙ o.text))

          fu : Fits u
          fu = W.line_fits s w o.fits (omega arith)

          hu : ledger_at s u ≡ W.with_lines (ledger_at s w) (suc (ledger_at s w).lines)
          hu = W.line_counted s w o.fits (omega arith)

-- ---- a text of over 255 bytes
-- is no name and no pattern
long_made : (class : ℕ → Bool) (lo hi : ℕ) (t : Text) → hi ≤ 255 → 255 < length t → made_of class lo hi t ≡ false
long_made class lo hi t l h = rw (lt-leb (length t) hi (omega arith)) (go (leb lo (length t)))
  where
    go : (b : Bool) → ((b && false) && all class t) ≡ false
    go true = refl
    go false = refl

module _ (t : Text) (h : 255 < length t) where
  long_name_not : is_name t ≡ false
  unfolding is_name
  long_name_not = rw (long_made is_text 1 64 t (omega arith) h)

  long_role_not : is_role_name t ≡ false
  unfolding is_role_name
  long_role_not = rw long_name_not

  long_method_not : is_method_name t ≡ false
  unfolding is_method_name
  long_method_not = long_made is_token 1 24 t (omega arith) h

  long_pattern_not : is_pattern t ≡ false
  unfolding is_pattern
  long_pattern_not = rw (long_made is_text 0 255 t (omega arith) h)

-- from 7 on the kind is that of an omission
omit_kind : (k : ℕ) → 7 ≤ k → kind_by k ≡ Omit
omit_kind k h =
    rw (
      ne_eqb k 0 (λ e. omega arith),
      ne_eqb k 1 (λ e. omega arith),
      ne_eqb k 2 (λ e. omega arith),
      ne_eqb k 3 (λ e. omega arith),
      ne_eqb k 4 (λ e. omega arith),
      ne_eqb k 5 (λ e. omega arith),
      ne_eqb k 6 (λ e. omega arith),
    )

long_omit : (L : Ledger) (k : ℕ) (t : Text) → 7 ≤ k → 255 < length t → ledger_fault L (record_of (kind_by k) t) ≡ some (long_fault k)
unfolding ledger_fault name_fits
long_omit L k t l h =
    ap (λ (K : Kind). ledger_fault L (record_of K t)) (omit_kind k l) ∙ rw (long_method_not t h, ne_eqb k 5 (λ e. omega arith))

-- and breaks that rule first, whatever is kept
pub long_breaks : (L : Ledger) (s : Text) (k p : ℕ) → 255 < length (field_by s k p) → ledger_fault L (record_by s k p) ≡ some (long_fault k)
unfolding ledger_fault name_fits pattern_fits field_by
long_breaks L s zero p h = rw (long_role_not (field_by s 0 p) h)
long_breaks L s (suc zero) p h = absurd (omega arith)
long_breaks L s (suc (suc zero)) p h = absurd (omega arith)
long_breaks L s (suc (suc (suc zero))) p h = rw (long_name_not (field_by s 3 p) h)
long_breaks L s (suc (suc (suc (suc zero)))) p h = absurd (omega arith)
long_breaks L s (suc (suc (suc (suc (suc zero))))) p h = rw (long_pattern_not (field_by s 5 p) h)
long_breaks L s (suc (suc (suc (suc (suc (suc zero)))))) p h = rw (long_method_not (field_by s 6 p) h)
long_breaks L s (suc (suc (suc (suc (suc (suc (suc n))))))) p h =
    let k : ℕ = suc (suc (suc (suc (suc (suc (suc n)))))) in
    long_omit L k (field_by s k p) (omega arith) h

pub long_pattern : (k : ℕ) → k ≡ 5 → C.BadPattern ≡ cause_of (long_fault k)
long_pattern k e = rw e

pub long_name : (k : ℕ) → (k ≡ 5 → ⊥) → C.BadName ≡ cause_of (long_fault k)
long_name k e = rw (ne_eqb k 5 e)
