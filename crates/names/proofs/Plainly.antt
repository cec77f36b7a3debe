-- The definitions in plain words, for the crates above: what a test of texts says, and what the kind of a pattern says of its text.
use mathlib.Core.Path.{◌≡◌, refl, sym, ap, ap₂, ◌∙◌}
use mathlib.Core.Bool.{Bool, true, false, cond, ◌&&◌, ◌||◌, or-true, or_assoc}
use mathlib.Core.List.Memᴰ
use mathlib.Core.List.{List, [], ◌∷◌, ◌++◌, Memᴰ}
use mathlib.Core.Logic.{◌↔◌, inl, inr, ⊎_elim}
use Prim.Native.Nat.{ℕ, ◌-◌}
use native.Mathlib.Omega.{arith}
use lib.ListN.{length, take, drop, take-append-drop, length-append}
use lib.Seq.{take-append_seam, drop-append_seam}
use lib.Dec.{eqb}
use borrow.Author.Tests.{eq-eqb, eqb-true}
use Rattle.text.specs.Texts.{Text, bytes, same, starts_with, ends_with, member}
use Rattle.names.specs.Patterns.{PatternKind, exact, prefix, extension, default, unpermitted, is_extension, kind_of, Shape}
use Rattle.text.proofs.Truths.{never, not_so, and_left, and_right, and_both}
use Rattle.text.proofs.Spans.{same_equal, same_self}

-- ---- two texts
-- it does not matter which is compared with which
pub same_swap : (t u : Text) → same t u ≡ same u t
same_swap t u = go (same t u) (same u t) refl refl
  where
    go : (a b : Bool) → same t u ≡ a → same u t ≡ b → a ≡ b
    go true true e f = refl
    go true false e f = absurd (never (same u t) (rw (same_equal t u e) (same_self u)) f)
    go false true e f = absurd (never (same t u) (rw (same_equal u t f) (same_self t)) e)
    go false false e f = refl

-- ---- a text among others
member_listed : (t : Text) (us : List Text) → member t us ≡ true → Memᴰ t us
unfolding member
member_listed t [] e = absurd (never false e refl)
member_listed t (u ∷ us) e = go (same u t) refl e (member_listed t us)
  where
    go : (b : Bool) → same u t ≡ b → b || member t us ≡ true → (member t us ≡ true → Memᴰ t us) → Memᴰ t (u ∷ us)
    go true q h ih = Memᴰ.head (sym (same_equal u t q))
    go false q h ih = Memᴰ.tail (ih h)

listed_member : (t : Text) (us : List Text) → Memᴰ t us → member t us ≡ true
unfolding member
listed_member t [] m = absurd (Memᴰ.not-nil m)
listed_member t (u ∷ us) m =
    ⊎_elim (λ (e : t ≡ u). rw (e, same_self u)) (λ (k : Memᴰ t us). rw (listed_member t us k) (or-true (same u t)))
    (Memᴰ.cases_cons m)

-- a text is a member of those that it is one of
pub member_plain : (t : Text) (us : List Text) → (member t us ≡ true) ↔ Memᴰ t us
member_plain t us = (member_listed t us, listed_member t us)

-- a member of two lists together is one of the first or of the second
pub member_append : (t : Text) (us vs : List Text) → member t (us ++ vs) ≡ member t us || member t vs
unfolding member
member_append t [] vs = refl
member_append t (u ∷ us) vs = ap (λ (b : Bool). same u t || b) (member_append t us vs) ∙ sym (or_assoc (same u t) (member t us) (member t vs))

-- ---- a text that starts with another
starts_split : (p t : Text) → starts_with p t ≡ true → (r : Text) × (t ≡ p ++ r)
unfolding starts_with
starts_split [] t e = (t, refl)
starts_split (x ∷ xs) [] e = absurd (never false e refl)
starts_split (x ∷ xs) (y ∷ ys) e =
    let r = starts_split xs ys (and_right (eqb x y) (starts_with xs ys) e) in
    (r.0, ap₂ ◌∷◌ (sym (eqb-true x y (and_left (eqb x y) (starts_with xs ys) e))) r.1)

starts_append : (p r : Text) → starts_with p (p ++ r) ≡ true
unfolding starts_with
starts_append [] r = refl
starts_append (x ∷ xs) r = and_both (eqb x x) (starts_with xs (xs ++ r)) (eq-eqb x x refl) (starts_append xs r)

-- t starts with p where it is p and a rest
pub starts_plain : (p t : Text) → (starts_with p t ≡ true) ↔ ((r : Text) × (t ≡ p ++ r))
starts_plain p t = (starts_split p t, λ r. rw r.1 (starts_append p r.0))

-- t ends with e where it is a beginning and e
ends_split : (e t : Text) → ends_with e t ≡ true → t ≡ take (length t - length e) t ++ e
unfolding ends_with
ends_split e t h =
    let k = length t - length e in
    sym (take-append-drop k t) ∙ ap (λ (x : Text). take k t ++ x) (same_equal (drop k t) e h)

ends_append : (p e : Text) → ends_with e (p ++ e) ≡ true
unfolding ends_with
ends_append p e =
    let h : length (p ++ e) - length e ≡ length p = omega (arith, length-append p e) in
    rw (h, drop-append_seam p e) (same_self e)

-- ---- the kind of a pattern
differs : (t u : Text) → same t u ≡ false → t ≡ u → ⊥
differs t u h e = never (same t u) (rw e (same_self u)) h

no_extension : (t : Text) → starts_with (bytes "*.") t && is_extension (drop 2 t) ≡ false → (e : Text) → is_extension e ≡ true → t ≡ bytes "*." ++ e → ⊥
no_extension t h e x i =
    never (starts_with (bytes "*.") t && is_extension (drop 2 t))
    (and_both (starts_with (bytes "*.") t) (is_extension (drop 2 t)) (rw i (starts_append (bytes "*.") e)) (rw i x))
    h

-- what the kind of a text says of the text
pub shape : (t : Text) → Shape t (kind_of t)
unfolding kind_of
shape t =
    go (same t []) (same t (bytes "/")) (starts_with (bytes "/") t) (ends_with (bytes "/*") t) (starts_with (bytes "*.") t && is_extension (drop 2 t))
    refl refl refl refl refl
  where
    kind : (a b c d e : Bool) → PatternKind
    kind a b c d e =
        cond a (exact (bytes "/"))
        (cond b default
        (cond c (cond d (prefix (take (length t - 2) t)) (exact t))
        (cond e (extension (drop 2 t)) unpermitted)))

    starred : (r : Text) → t ≡ bytes "*." ++ r → t ≡ bytes "*." ++ drop 2 t
    starred r e = e ∙ ap (λ (x : Text). bytes "*." ++ drop 2 x) (sym e)

    go : (a b c d e : Bool) → same t [] ≡ a → same t (bytes "/") ≡ b → starts_with (bytes "/") t ≡ c → ends_with (bytes "/*") t ≡ d
        → starts_with (bytes "*.") t && is_extension (drop 2 t) ≡ e → Shape t (kind a b c d e)
    go true b c d e ha hb hc hd he = inl (same_equal t [] ha, refl)
    go false true c d e ha hb hc hd he = same_equal t (bytes "/") hb
    go false false true true e ha hb hc hd he = (ends_split (bytes "/*") t hd, hc)
    go false false true false e ha hb hc hd he = inr (refl, hc, hd, differs t (bytes "/") hb)
    go false false false d true ha hb hc hd he =
        let s = starts_split (bytes "*.") t (and_left _ (is_extension (drop 2 t)) he) in
        (starred s.0 s.1, and_right (starts_with (bytes "*.") t) _ he)
    go false false false d false ha hb hc hd he = (differs t [] ha, hc, no_extension t he)

-- the texts that start with `/`: not empty
rooted_some : (t : Text) → starts_with (bytes "/") t ≡ true → same t [] ≡ false
unfolding starts_with same
rooted_some [] h = absurd (never false h refl)
rooted_some (x ∷ xs) h = refl

-- not `/` alone, where they end in `/*`
prefix_long : (p : Text) → same (p ++ bytes "/*") (bytes "/") ≡ false
prefix_long p = not_so _ (λ e. omega (arith, length-append p (bytes "/*"), ap length (same_equal (p ++ bytes "/*") (bytes "/") e)))

-- the kind of a text of each shape
kind_exact : (t q : Text) → Shape t (exact q) → kind_of t ≡ exact q
unfolding kind_of same
kind_exact t q (inl s) = rw (s.0, s.1)
kind_exact t q (inr s) =
    rw (s.0, rooted_some q s.1, not_so (same q (bytes "/")) (λ e. s.3 (same_equal q (bytes "/") e)), s.1, s.2)

kind_prefix : (t p : Text) → Shape t (prefix p) → kind_of t ≡ prefix p
unfolding kind_of
kind_prefix t p s =
    let rooted : starts_with (bytes "/") (p ++ bytes "/*") ≡ true = rw s.0 at s.1 in
    let h : length (p ++ bytes "/*") - 2 ≡ length p = omega (arith, length-append p (bytes "/*")) in
    rw (s.0, rooted_some _ rooted, prefix_long p, rooted, ends_append p (bytes "/*"), h, take-append_seam p (bytes "/*"))

kind_extension : (t e : Text) → Shape t (extension e) → kind_of t ≡ extension e
unfolding kind_of same starts_with
kind_extension t e s = rw (s.0, s.1)

kind_unpermitted : (t : Text) → Shape t unpermitted → kind_of t ≡ unpermitted
unfolding kind_of
kind_unpermitted t s = rw (empty, alone, s.1, starred)
  where
    empty : same t [] ≡ false
    empty = not_so _ (λ e. s.0 (same_equal t [] e))

    alone : same t (bytes "/") ≡ false
    alone = not_so _ (λ e. never (starts_with (bytes "/") t) (rw (same_equal t (bytes "/") e) (starts_append (bytes "/") [])) s.1)

    starred : starts_with (bytes "*.") t && is_extension (drop 2 t) ≡ false
    starred = not_so _ (λ e.
        let r = starts_split (bytes "*.") t (and_left _ (is_extension (drop 2 t)) e) in
        let x = and_right (starts_with (bytes "*.") t) _ e in
        s.2 r.0 (rw r.1 at x) r.1)

-- `/` is the default pattern, and no exact one
slash_is_default : kind_of (bytes "/") ≡ default
unfolding kind_of
slash_is_default = refl

not_slash : (u q : Text) → kind_of u ≡ exact q → q ≡ bytes "/" → u ≡ q → ⊥
not_slash u q k e i =
    let j : kind_of u ≡ default = ap kind_of (i ∙ e) ∙ slash_is_default in
    let z : ◌≡◌ {A = ℕ} 0 1 = cc in
    omega arith

kind_shaped : (t : Text) (k : PatternKind) → Shape t k → kind_of t ≡ k
kind_shaped t (exact q) s = kind_exact t q s
kind_shaped t (prefix p) s = kind_prefix t p s
kind_shaped t (extension e) s = kind_extension t e s
kind_shaped t default s = ap kind_of s ∙ slash_is_default
kind_shaped t unpermitted s = kind_unpermitted t s

-- a text has the shape of a kind exactly where that is its kind: each text has the shape of one kind and of no other
pub shape_exactly : (t : Text) (k : PatternKind) → Shape t k ↔ (kind_of t ≡ k)
shape_exactly t k = (kind_shaped t k, λ e. rw e at (shape t))

-- but for the unpermitted ones, the kind tells the text
pub one_text : (t u : Text) (k : PatternKind) → kind_of t ≡ k → kind_of u ≡ k → (k ≡ unpermitted → ⊥) → t ≡ u
one_text t u k p q n = go k p q n (rw p at (shape t)) (rw q at (shape u))
  where
    go : (k : PatternKind) → kind_of t ≡ k → kind_of u ≡ k → (k ≡ unpermitted → ⊥) → Shape t k → Shape u k → t ≡ u
    go (exact x) p q n (inl a) (inl b) = a.0 ∙ sym b.0
    go (exact x) p q n (inl a) (inr b) = absurd (not_slash u x q a.1 b.0)
    go (exact x) p q n (inr a) (inl b) = absurd (not_slash t x p b.1 a.0)
    go (exact x) p q n (inr a) (inr b) = a.0 ∙ sym b.0
    go (prefix x) p q n a b = a.0 ∙ sym b.0
    go (extension x) p q n a b = a.0 ∙ sym b.0
    go default p q n a b = a ∙ sym b
    go unpermitted p q n a b = absurd (n refl)
