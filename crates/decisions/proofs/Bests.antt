-- Matching in plain words, and the best match: what is found is the best, and at most one is.
use mathlib.Core.Path.{◌≡◌, refl, sym, ap, ◌∙◌}
use mathlib.Core.Bool.{Bool, true, false, cond, ◌&&◌, ◌||◌, or-true}
use mathlib.Core.List.Memᴰ
use mathlib.Core.List.{List, [], ◌∷◌, ◌++◌, Memᴰ}
use mathlib.Core.Logic.{◌↔◌, ◌⊎◌, inl, inr, ⊎_elim}
use mathlib.Core.Option.{Option, none, some, some-ne-none, some-injective}
use Prim.Native.Nat.{ℕ, ◌≤◌, ◌<◌}
use native.Mathlib.Omega.{arith}
use lib.ListN.{length, take}
use lib.Seq.{take-length, take-append_seam, append_snoc}
use lib.Dec.{eqb, ltb}
use borrow.Author.Tests.{le-ltb, ltb-true, ltb-false, eq-eqb, ne_eqb, eqb-true, eqb-false}
use Rattle.text.specs.Texts.{Text, slash, dot, same, has, starts_with}
use Rattle.names.specs.Patterns.{PatternKind, exact, prefix, extension, default, unpermitted, kind_of}
use Rattle.text.proofs.Truths.{never, and_right, or_left, or_right}
use Rattle.text.proofs.Spans.{same_equal, same_self}
use Rattle.names.proofs.Plainly.{starts_plain, one_text}
use Rattle.decisions.specs.Matching.{after_last, last_segment, has_extension, is_under, kind_matches, matches, rank, size, is_better, IsBest, better_of, best}

-- ---- "P itself and every path that starts with P followed by `/`"
module _ (p path : Text) where
  under_split : is_under p path ≡ true → (path ≡ p) ⊎ ((r : Text) × (path ≡ p ++ slash ∷ r))
  unfolding is_under
  under_split h = go (same p path) refl h
    where
      go : (b : Bool) → same p path ≡ b → b || starts_with (p ++ slash ∷ []) path ≡ true → (path ≡ p) ⊎ ((r : Text) × (path ≡ p ++ slash ∷ r))
      go true e i = inl (sym (same_equal p path e))
      go false e i = let s = (starts_plain (p ++ slash ∷ []) path).0 i in inr (s.0, s.1 ∙ append_snoc p slash s.0)

  split_under : (path ≡ p) ⊎ ((r : Text) × (path ≡ p ++ slash ∷ r)) → is_under p path ≡ true
  unfolding is_under
  split_under (inl e) = rw (e, same_self p)
  split_under (inr s) =
      rw ((starts_plain (p ++ slash ∷ []) path).1 (s.0, s.1 ∙ sym (append_snoc p slash s.0))) (or-true (same p path))

  pub under_plain : (is_under p path ≡ true) ↔ ((path ≡ p) ⊎ ((r : Text) × (path ≡ p ++ slash ∷ r)))
  under_plain = (under_split, split_under)

  -- so P is the path's beginning
  under_begins : is_under p path ≡ true → take (length p) path ≡ p
  under_begins h = go (under_split h)
    where
      go : (path ≡ p) ⊎ ((r : Text) × (path ≡ p ++ slash ∷ r)) → take (length p) path ≡ p
      go (inl e) = rw e (take-length p)
      go (inr s) = rw s.1 (take-append_seam p (slash ∷ s.0))

-- a path has one extension at most
one_extension : (e d path : Text) → has_extension e path ≡ true → has_extension d path ≡ true → e ≡ d
unfolding has_extension
one_extension e d path h k = sym (last e h) ∙ last d k
  where
    last : (x : Text) → has dot (last_segment path) && same (after_last dot (last_segment path)) x ≡ true → after_last dot (last_segment path) ≡ x
    last x i = same_equal (after_last dot (last_segment path)) x (and_right (has dot (last_segment path)) _ i)

-- ---- `is_better` orders the kinds: by rank, then by size
-- what it says where it holds, and where it does not
pub better_plain : (a b c d : ℕ) → ltb a c || (eqb a c && ltb b d) ≡ true → (a < c) ⊎ ((a ≡ c) × (b < d))
better_plain a b c d h = go (ltb a c) (eqb a c) (ltb b d) refl refl refl h
  where
    go : (x y z : Bool) → ltb a c ≡ x → eqb a c ≡ y → ltb b d ≡ z → x || (y && z) ≡ true → (a < c) ⊎ ((a ≡ c) × (b < d))
    go true y z p q r e = inl (ltb-true a c p)
    go false true true p q r e = inr (eqb-true a c q, ltb-true b d r)
    go false true false p q r e = absurd (never false e refl)
    go false false z p q r e = absurd (never false e refl)

pub worse_plain : (a b c d : ℕ) → ltb a c || (eqb a c && ltb b d) ≡ false → (c < a) ⊎ ((a ≡ c) × (d ≤ b))
worse_plain a b c d h = go (eqb a c) refl (ltb-false a c (or_left (ltb a c) (eqb a c && ltb b d) h)) (or_right (ltb a c) (eqb a c && ltb b d) h)
  where
    go : (y : Bool) → eqb a c ≡ y → c ≤ a → y && ltb b d ≡ false → (c < a) ⊎ ((a ≡ c) × (d ≤ b))
    go true q l e = inr (eqb-true a c q, ltb-false b d e)
    go false q l e = let n = eqb-false a c q in inl (omega arith)

plain_worse : (a b c d : ℕ) → (c < a) ⊎ ((a ≡ c) × (d ≤ b)) → ltb a c || (eqb a c && ltb b d) ≡ false
plain_worse a b c d (inl h) =
    let p : c ≤ a = omega arith in
    let q : a ≡ c → ⊥ = λ e. omega arith in
    simp (le-ltb a c p, ne_eqb a c q)
plain_worse a b c d (inr h) =
    let p : c ≤ a = omega arith in
    simp (le-ltb a c p, eq-eqb a c h.0, le-ltb b d h.1)

-- none is better than itself
pub better_not : (k : PatternKind) → is_better k k ≡ false
better_not k = plain_worse (rank k) (size k) (rank k) (size k) (inr (refl, omega arith))

-- of two at most one is better
pub better_one_way : (k l : PatternKind) → is_better l k ≡ true → is_better k l ≡ false
better_one_way k l h = plain_worse (rank l) (size l) (rank k) (size k) (go (better_plain (rank k) (size k) (rank l) (size l) h))
  where
    go : (rank k < rank l) ⊎ ((rank k ≡ rank l) × (size k < size l)) → (rank k < rank l) ⊎ ((rank l ≡ rank k) × (size k ≤ size l))
    go (inl x) = inl x
    go (inr x) = inr (sym x.0, omega arith)

-- l is no better than k, n no better than l: so n is no better than k
pub better_trans : (k l n : PatternKind) → is_better l k ≡ false → is_better n l ≡ false → is_better n k ≡ false
better_trans k l n h i =
    plain_worse (rank k) (size k) (rank n) (size n)
    (go (worse_plain (rank k) (size k) (rank l) (size l) h) (worse_plain (rank l) (size l) (rank n) (size n) i))
  where
    go : (rank l < rank k) ⊎ ((rank k ≡ rank l) × (size l ≤ size k)) → (rank n < rank l) ⊎ ((rank l ≡ rank n) × (size n ≤ size l))
        → (rank n < rank k) ⊎ ((rank k ≡ rank n) × (size n ≤ size k))
    go (inl x) (inl y) = inl (omega arith)
    go (inl x) (inr y) = inl (omega arith)
    go (inr x) (inl y) = inl (omega arith)
    go (inr x) (inr y) = inr (omega arith, omega arith)

-- ---- what is found is the best
-- nothing is found where nothing matches
pub best_none : (ts : List Text) (path : Text) → best ts path ≡ none → (t : Text) → Memᴰ t ts → matches t path ≡ false
unfolding best
best_none [] path e t m = absurd (Memᴰ.not-nil m)
best_none (x ∷ xs) path e t m = go (matches x path) (best xs path) refl refl e (Memᴰ.cases_cons m) (λ q i. best_none xs path q t i)
  where
    go : (b : Bool) (o : Option Text) → matches x path ≡ b → best xs path ≡ o → cond b (better_of x o) o ≡ none → (t ≡ x) ⊎ Memᴰ t xs
        → (best xs path ≡ none → Memᴰ t xs → matches t path ≡ false) → matches t path ≡ false
    go true none p q h i ih = absurd (some-ne-none x h)
    go true (some v) p q h i ih = either (is_better (kind_of v) (kind_of x)) h
      where
        either : (w : Bool) → cond w (some v) (some x) ≡ none → matches t path ≡ false
        either true y = absurd (some-ne-none v y)
        either false y = absurd (some-ne-none x y)
    go false o p q h (inl i) ih = rw i p
    go false o p q h (inr i) ih = ih (q ∙ h) i

-- one more text: the best stays, or the text is the best
module _ (x : Text) (xs : List Text) (path : Text) where
  stays : (t : Text) → IsBest xs path t → (matches x path ≡ true → is_better (kind_of x) (kind_of t) ≡ false) → IsBest (x ∷ xs) path t
  stays t B h = record {
    listed = Memᴰ.tail B.listed;
    matching = B.matching;
    strongest = λ u m k. ⊎_elim (λ (e : u ≡ x). rw e (h (rw e at k))) (λ (i : Memᴰ u xs). B.strongest u i k) (Memᴰ.cases_cons m);
  }

  comes : matches x path ≡ true → ((u : Text) → Memᴰ u xs → matches u path ≡ true → is_better (kind_of u) (kind_of x) ≡ false) → IsBest (x ∷ xs) path x
  comes p h = record {
    listed = Memᴰ.head refl;
    matching = p;
    strongest = λ u m k. ⊎_elim (λ (e : u ≡ x). rw e (better_not (kind_of x))) (λ (i : Memᴰ u xs). h u i k) (Memᴰ.cases_cons m);
  }

-- what is found is the best
pub best_is : (ts : List Text) (path t : Text) → best ts path ≡ some t → IsBest ts path t
unfolding best
best_is [] path t e = absurd (some-ne-none t (sym e))
best_is (x ∷ xs) path t e = go (matches x path) (best xs path) refl refl e (best_is xs path)
  where
    chosen : (v : Text) (w : Bool) → matches x path ≡ true → IsBest xs path v → is_better (kind_of v) (kind_of x) ≡ w → cond w (some v) (some x) ≡ some t → IsBest (x ∷ xs) path t
    chosen v true p B i h = rw (← some-injective v t h) (stays x xs path v B (λ q. better_one_way (kind_of x) (kind_of v) i))
    chosen v false p B i h =
        rw (← some-injective x t h) (comes x xs path p (λ u m k. better_trans (kind_of x) (kind_of v) (kind_of u) i (B.strongest u m k)))

    go : (b : Bool) (o : Option Text) → matches x path ≡ b → best xs path ≡ o → cond b (better_of x o) o ≡ some t
        → ((v : Text) → best xs path ≡ some v → IsBest xs path v) → IsBest (x ∷ xs) path t
    go true none p q h ih =
        rw (← some-injective x t h) (comes x xs path p (λ u m k. absurd (never (matches u path) k (best_none xs path q u m))))
    go true (some v) p q h ih = chosen v (is_better (kind_of v) (kind_of x)) p (ih v q) refl h
    go false o p q h ih = stays x xs path t (ih t (q ∙ h)) (λ k. absurd (never (matches x path) k p))

-- something is found where something matches
pub best_some : (ts : List Text) (path u : Text) → Memᴰ u ts → matches u path ≡ true → (t : Text) × (best ts path ≡ some t)
best_some ts path u m k = go (best ts path) refl
  where
    go : (o : Option Text) → best ts path ≡ o → (t : Text) × (best ts path ≡ some t)
    go none e = absurd (never (matches u path) k (best_none ts path e u m))
    go (some t) e = (t, e)

-- ---- "At most one pattern text is best."
-- of each rank and size one kind at most matches a path
one_kind : (path : Text) (k l : PatternKind) → kind_matches k path ≡ true → kind_matches l path ≡ true → rank k ≡ rank l → size k ≡ size l → k ≡ l
unfolding kind_matches
one_kind path (exact q) (exact r) d e h s = ap exact (same_equal q path d ∙ sym (same_equal r path e))
one_kind path (exact q) (prefix r) d e h s = absurd (omega arith)
one_kind path (exact q) (extension r) d e h s = absurd (omega arith)
one_kind path (exact q) default d e h s = absurd (omega arith)
one_kind path (exact q) unpermitted d e h s = absurd (omega arith)
one_kind path (prefix q) (exact r) d e h s = absurd (omega arith)
one_kind path (prefix q) (prefix r) d e h s = ap prefix (sym (under_begins q path d) ∙ rw s (under_begins r path e))
one_kind path (prefix q) (extension r) d e h s = absurd (omega arith)
one_kind path (prefix q) default d e h s = absurd (omega arith)
one_kind path (prefix q) unpermitted d e h s = absurd (omega arith)
one_kind path (extension q) (exact r) d e h s = absurd (omega arith)
one_kind path (extension q) (prefix r) d e h s = absurd (omega arith)
one_kind path (extension q) (extension r) d e h s = ap extension (one_extension q r path d e)
one_kind path (extension q) default d e h s = absurd (omega arith)
one_kind path (extension q) unpermitted d e h s = absurd (omega arith)
one_kind path default (exact r) d e h s = absurd (omega arith)
one_kind path default (prefix r) d e h s = absurd (omega arith)
one_kind path default (extension r) d e h s = absurd (omega arith)
one_kind path default default d e h s = refl
one_kind path default unpermitted d e h s = absurd (omega arith)
one_kind path unpermitted l d e h s = absurd (never false d refl)

pub one_best : (ts : List Text) (path t u : Text) → IsBest ts path t → IsBest ts path u → t ≡ u
unfolding kind_matches
one_best ts path t u B C =
    let h = worse_plain (rank (kind_of t)) (size (kind_of t)) (rank (kind_of u)) (size (kind_of u)) (B.strongest u C.listed C.matching) in
    let i = worse_plain (rank (kind_of u)) (size (kind_of u)) (rank (kind_of t)) (size (kind_of t)) (C.strongest t B.listed B.matching) in
    let j = ranks (rank (kind_of t)) (size (kind_of t)) (rank (kind_of u)) (size (kind_of u)) h i in
    one_text t u (kind_of t) refl (sym (one_kind path (kind_of t) (kind_of u) B.matching C.matching j.0 j.1))
    (λ e. never false (rw e at B.matching) refl)
  where
    ranks : (a b c d : ℕ) → (c < a) ⊎ ((a ≡ c) × (d ≤ b)) → (a < c) ⊎ ((c ≡ a) × (b ≤ d)) → (a ≡ c) × (b ≡ d)
    ranks a b c d (inl x) (inl y) = absurd (omega arith)
    ranks a b c d (inl x) (inr y) = absurd (omega arith)
    ranks a b c d (inr x) (inl y) = absurd (omega arith)
    ranks a b c d (inr x) (inr y) = (x.0, omega arith)

-- so the definition and the search say the same
pub best_exactly : (ts : List Text) (path t : Text) → (best ts path ≡ some t) ↔ IsBest ts path t
best_exactly ts path t = (best_is ts path t, back)
  where
    back : IsBest ts path t → best ts path ≡ some t
    back B =
        let f = best_some ts path t B.listed B.matching in
        f.1 ∙ ap {B = Option Text} some (one_best ts path f.0 t (best_is ts path f.0 f.1) B)
