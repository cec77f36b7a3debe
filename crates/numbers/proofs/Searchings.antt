-- How strong a pattern text is at a stem, and the strongest of a view: laws in the shape of the code.
use mathlib.Core.Path.{◌≡◌, refl, sym, ap, ap₂, fun_ext, ◌∙◌}
use mathlib.Core.Bool.{Bool, true, false, not, cond, ◌&&◌, ◌||◌, and-true, and-false, or-false}
use mathlib.Core.List.{List, [], ◌∷◌, ◌++◌}
use Prim.Native.Nat.{ℕ, zero, suc, ◌+◌, ◌-◌, ◌≤◌, ◌<◌}
use native.Mathlib.Omega.{arith}
use lib.ListN.{length, get_or, take, drop, length-append, take-append-drop}
use lib.Seq.{length-take-le, get_or-take}
use lib.Dec.{eqb, ltb, leb}
use native.Mathlib.Decide.{dec_lt}
use Rattle.std.proofs.Common.{Option, Some, None, ◌==◌}
use Rattle.std.specs.Option.{unwrap_or}
use Rattle.std.specs.List.{position, position_or_len}
use Rattle.std.proofs.lemmas.List.Sums.{prefix_len-le-length}
use Rattle.std.proofs.lemmas.List.Recursion.{is_position_or_len}
use borrow.Author.Tests.{lt-ltb, le-ltb, eq-eqb, ne_eqb, le-leb, lt-leb}
use Rattle.text.specs.Texts.{Text, bytes, slash, same, starts_with, ends_with, index_of, run}
use Rattle.names.specs.Patterns.{PatternKind, exact, prefix, extension, default, unpermitted, kind_of, is_extension, Shape}
use Rattle.names.proofs.Plainly.{shape, same_swap, starts_plain}
use Rattle.matching.proofs.Matchings.{strength_is}
use Rattle.std.specs.Cmp.Lexicographic.{pointwise}
use Rattle.text.proofs.Indices.{run_step}
use Rattle.text.proofs.Truths.{never, not_so, eqb_swap}
use Rattle.text.proofs.Spans.{same_equal, same_self, starts_short, starts_is, stripped_end}
use Rattle.decisions.specs.Matching.{is_under}
use Rattle.matching.specs.Strengths.{kind_strength, rooted_strength, starred_strength, start_leading, lead_by, lead, leading}
use Rattle.matching.specs.declared.Leading.{Leading}
use Rattle.grants.specs.Scratch.{below_strength, stem_strength, leading_by}
use Rattle.reading.specs.Views.{View, texts}
use Rattle.numbers.specs.Stemming.{line_among, is_firm_text, Findable, Lacking}

-- ---- the line of a text, by the numbers of the first lines
-- a number stands where the text does
same_place : (t : Text) (f : ℕ) (fs : List ℕ) (vs : List Text) → length fs ≡ length vs → ((k : ℕ) → k < length vs → eqb (get_or fs k 0) f ≡ same (get_or vs k []) t)
    → position_or_len (λ y. eqb y f) fs ≡ index_of t vs
unfolding index_of
same_place t f [] [] z e = refl
same_place t f [] (v ∷ vs) z e = absurd (omega arith)
same_place t f (n ∷ fs) [] z e = absurd (omega arith)
same_place t f (n ∷ fs) (v ∷ vs) z e = go (eqb n f) (same v t) (e 0 (omega arith)) (same_place t f fs vs (omega arith) (λ k h. e (suc k) (omega arith)))
  where
    go : (b c : Bool) → b ≡ c → {p i : ℕ} → p ≡ i → cond (not b) (1 + p) 0 ≡ cond c 0 (suc i)
    go true true q r = refl
    go true false q r = absurd (never true refl q)
    go false true q r = absurd (never true refl (sym q))
    go false false q r = omega (arith, r)

-- `position` with the number of all where it finds none
or_all : (p : ℕ → Bool) (fs : List ℕ) → unwrap_or (position p fs) (length fs) ≡ position_or_len p fs
or_all p fs = go (position_or_len p fs) (length fs) (prefix_len-le-length (λ x. not (p x)) fs) (dec_lt (position_or_len p fs) (length fs))
  where
    go : (m n : ℕ) → m ≤ n → Dec (m < n) → unwrap_or (cond (ltb m n) (Some m) None) n ≡ m
    go m n h (yes l) = rw (lt-ltb m n l)
    go m n h (no l) = rw (le-ltb m n (omega arith)) (omega arith)

pub told : (t : Text) (f : ℕ) (fs : List ℕ) (vs : List Text) (n : ℕ) → n ≡ length vs → n ≤ length fs → ((k : ℕ) → k < n → eqb (get_or fs k 0) f ≡ same (get_or vs k []) t)
    → unwrap_or (position (λ y. y == f) (take n fs)) n ≡ index_of t vs
told t f fs vs n q h e =
    let z : length (take n fs) ≡ n = length-take-le n fs h in
    ap (unwrap_or (position (λ y. y == f) (take n fs))) (sym z)
    ∙ or_all (λ y. y == f) (take n fs)
    ∙ same_place t f (take n fs) vs (z ∙ q) (λ k l. let i : k < n = omega arith in rw (get_or-take n fs k 0 i) (e k i))

-- a text is among others by its index
pub among_by : (t : Text) (us : List Text) → line_among t us ≡ cond (ltb (index_of t us) (length us)) (Some (index_of t us)) None
unfolding line_among index_of
among_by t us = ap (λ (i : ℕ). cond (ltb i (length us)) (Some i) None) (sym (is_position_or_len (index_of t) (λ u. same u t) refl (λ u vs. go (same u t) (index_of t vs)) us))
  where
    go : (b : Bool) (i : ℕ) → cond b 0 (suc i) ≡ cond b 0 (1 + i)
    go true i = refl
    go false i = omega arith

-- so do the numbers of the first lines
pub line_told : (v : View) (fs : List ℕ) (text : Text) (f n : ℕ) → Findable v fs text f → n ≡ length (texts v) → (r : Option ℕ) → r ≡ position (λ y. y == f) (take n fs)
    → r ≡ line_among text (texts v)
line_told v fs text f n F e r p =
    let vs : List Text = texts v in
    let z : length (take n fs) ≡ n = length-take-le n fs (omega (arith, F.room)) in
    let q : position_or_len (λ y. y == f) (take n fs) ≡ index_of text vs =
    same_place text f (take n fs) vs (z ∙ e) (λ k l. let i : k < n = omega arith in rw (get_or-take n fs k 0 i) (F.tells k l)) in
    p ∙ ap₂ (λ (i m : ℕ). cond (ltb i m) (Some i) None) q (z ∙ e) ∙ sym (among_by text vs)

-- ---- strengths
-- a kind by the tests of its text
abbrev pub kind_by : Text → Bool → Bool → Bool → Bool → Bool → PatternKind
kind_by u a b c d e =
    cond a (exact (bytes "/"))
    (cond b default
    (cond c (cond d (prefix (take (length u - 2) u)) (exact u))
    (cond e (extension (drop 2 u)) unpermitted)))

pub kind_by_lem : (u : Text) → kind_of u ≡ kind_by u (same u []) (same u (bytes "/")) (starts_with (bytes "/") u) (ends_with (bytes "/*") u) (starts_with (bytes "*.") u && is_extension (drop 2 u))
unfolding kind_of
kind_by_lem u = refl

-- what the first byte tells
pub slashed : (u : Text) → starts_with (bytes "/") u ≡ true → same u [] ≡ false
unfolding starts_with same
slashed [] e = absurd (never false e refl)
slashed (x ∷ xs) e = refl

pub root_slashed : (u : Text) → starts_with (bytes "/") u ≡ false → same u (bytes "/") ≡ false
unfolding starts_with
root_slashed u e = not_so (same u (bytes "/")) (λ q. never (starts_with (bytes "/") u) (rw (same_equal u (bytes "/") q)) e)

-- below P, test by test in the code's order
pub below_is : (p u : Text) (z : ℕ) → z
    ≡ cond (not (starts_with (bytes "/") u)) 0
    (cond (same u (bytes "/")) 1
    (cond (not (ends_with (bytes "/*") u)) 0
    (cond (is_under (take (length u - 2) u) p) (3 + length (take (length u - 2) u)) 0)))
    → z ≡ stem_strength (prefix p) u
unfolding stem_strength
below_is p u z e = e ∙ go (starts_with (bytes "/") u) refl
  where
    x : Bool
    x = starts_with (bytes "*.") u && is_extension (drop 2 u)

    rest : (a e : Bool) → ◌≡◌ {A = ℕ} 0 (below_strength p (cond a (exact (bytes "/")) (cond e (extension (drop 2 u)) unpermitted)))
    rest true e = refl
    rest false true = refl
    rest false false = refl

    rooted : (b d : Bool) → cond b 1 (cond (not d) 0 (cond (is_under (take (length u - 2) u) p) (3 + length (take (length u - 2) u)) 0)) ≡ below_strength p (kind_by u false b true d x)
    rooted true d = refl
    rooted false true = refl
    rooted false false = refl

    go : (c : Bool) → starts_with (bytes "/") u ≡ c
        → cond (not c) 0 (cond (same u (bytes "/")) 1 (cond (not (ends_with (bytes "/*") u)) 0 (cond (is_under (take (length u - 2) u) p) (3 + length (take (length u - 2) u)) 0)))
        ≡ below_strength p (kind_of u)
    go true q = rooted (same u (bytes "/")) (ends_with (bytes "/*") u) ∙ rw (kind_by_lem u, slashed u q, q)
    go false q = rest (same u []) x ∙ rw (kind_by_lem u, root_slashed u q, q)

-- it does not end with `/*`
pub below_other : (p u : Text) (z : ℕ) → pointwise eqb (drop (length u - 2) u) (bytes "/*") ≡ false → z ≡ cond (not (starts_with (bytes "/") u)) 0 (cond (same u (bytes "/")) 1 0)
    → z ≡ stem_strength (prefix p) u
below_other p u z e q = below_is p u z (q ∙ rw (sym (stripped_end (bytes "/*") u) ∙ e))

-- it does, behind its stem
pub below_ended : (p u stem : Text) (z : ℕ) → pointwise eqb (drop (length u - 2) u) (bytes "/*") ≡ true → stem ≡ take (length u - 2) u
    → z ≡ cond (not (starts_with (bytes "/") u)) 0 (cond (same u (bytes "/")) 1 (cond (is_under stem p) (3 + length stem) 0))
    → z ≡ stem_strength (prefix p) u
below_ended p u stem z e d q = below_is p u z (q ∙ rw (d, sym (stripped_end (bytes "/*") u) ∙ e))

-- ---- above a path
-- the path is longer than P: the byte behind P tells, and those before it
under_more : (p path : Text) → length p < length path → is_under p path ≡ (starts_with p path && eqb (get_or path (length p) 0) slash)
unfolding is_under starts_with same
under_more [] [] h = absurd (omega arith)
under_more [] (y ∷ ys) h = and-true (eqb slash y) ∙ eqb_swap slash y
under_more (x ∷ xs) [] h = absurd (omega arith)
under_more (x ∷ xs) (y ∷ ys) h = go (eqb x y) (under_more xs ys (omega arith))
  where
    go : (b : Bool) → (same xs ys || starts_with (xs ++ slash ∷ []) ys) ≡ (starts_with xs ys && eqb (get_or ys (length xs) 0) slash)
        → ((b && same xs ys) || (b && starts_with (xs ++ slash ∷ []) ys)) ≡ ((b && starts_with xs ys) && eqb (get_or ys (length xs) 0) slash)
    go true e = e
    go false e = refl

module _ (p path : Text) where
  -- the path has no byte behind P
  pub above_same : (r : Bool) → length path ≤ length p → r ≡ same p path → r ≡ is_under p path
  unfolding is_under
  above_same r h e =
      let l : length (p ++ slash ∷ []) ≡ length p + 1 = length-append p (slash ∷ []) in
      e ∙ rw (← starts_short (p ++ slash ∷ []) path (omega arith)) (sym (or-false (same p path)))

  module _ (h : length p < length path) where
    -- the byte behind P is no `/`
    pub above_apart : (get_or path (length p) 0 ≡ 47 → ⊥) → eqb (get_or path (length p) 0) 47 ≡ is_under p path
    above_apart n =
        ne_eqb (get_or path (length p) 0) slash n
        ∙ sym (under_more p path h ∙ rw (ne_eqb (get_or path (length p) 0) slash n) (and-false (starts_with p path)))

    -- it is one: the bytes before it tell
    pub above_start : (r : Bool) → get_or path (length p) 0 ≡ 47 → r ≡ starts_with p path → r ≡ is_under p path
    above_start r e q = q ∙ sym (under_more p path h ∙ rw (eq-eqb (get_or path (length p) 0) slash e) (and-true (starts_with p path)))

    -- and as the code compares these
    pub above_alike : (r : Bool) → get_or path (length p) 0 ≡ 47 → r ≡ same p (take (length p) path) → r ≡ is_under p path
    above_alike r e q = above_start r e (starts_is p path r (omega arith) q)

-- a text as long as P`/*` that is another has no strength below P
pub above_none : (p u : Text) → same u (p ++ bytes "/*") ≡ false → length p + 2 ≤ length u → 0 ≡ stem_strength (prefix p) u
unfolding stem_strength
above_none p u d h = go (kind_of u) (shape u)
  where
    not_under : (q : Text) → u ≡ q ++ bytes "/*" → is_under q p ≡ false
    not_under q e =
        let l : length u ≡ length q + 2 = ap length e ∙ length-append q (bytes "/*") in
        sym (above_same q p (same q p) (omega arith) refl)
        ∙ not_so (same q p) (λ z. never (same u (p ++ bytes "/*")) (rw (e, same_equal q p z) (same_self (p ++ bytes "/*"))) d)

    go : (k : PatternKind) → Shape u k → 0 ≡ below_strength p k
    go (exact q) s = refl
    go (prefix q) s = rw (not_under q s.0)
    go (extension e) s = refl
    go default s = let l : length u ≡ 1 = ap length s in absurd (omega arith)
    go unpermitted s = refl

-- ---- at the path of another exact text
-- the empty text has no strength by an ending
starred_none : (path : Text) → starred_strength [] path ≡ 0
unfolding starred_strength starts_with
starred_none path = refl

module _ (u path : Text) (r : Bool) (r-is : r ≡ starts_with (bytes "/") u) (z : ℕ) where
  -- a text that starts with `/` is as strong there as below
  pub exact_rooted : same u path ≡ false → r ≡ true → z ≡ stem_strength (prefix path) u → z ≡ stem_strength (exact path) u
  unfolding stem_strength rooted_strength
  exact_rooted d h e = strength_is u path z (e ∙ sym (below_is path u _ refl) ∙ go u refl)
    where
      st : starts_with (bytes "/") u ≡ true
      st = sym r-is ∙ h

      tests : (c b : Bool) (n : ℕ) → cond (not c) 0 (cond b (3 + n) 0) ≡ cond c (cond b (3 + n) 0) 0
      tests true b n = refl
      tests false b n = refl

      go : (v : Text) → u ≡ v
          → cond (not (starts_with (bytes "/") u)) 0 (cond (same u (bytes "/")) 1 (cond (not (ends_with (bytes "/*") u)) 0 (cond (is_under (take (length u - 2) u) path) (3 + length (take (length u - 2) u)) 0)))
          ≡ cond (eqb (length u) 0) (cond (same (bytes "/") path) 1000 0) (cond (same u (bytes "/")) 1 (cond (starts_with (bytes "/") u) (rooted_strength u path) (starred_strength u path)))
      go [] q = absurd (never (same u []) (rw q (same_self [])) (slashed u st))
      go (x ∷ xs) q =
          let l : (length u ≡ 0 → ⊥) = λ i. let k : length u ≡ suc (length xs) = ap length q in omega arith in
          rw (st, ne_eqb (length u) 0 l, d)
          (ap (λ (n : ℕ). cond (same u (bytes "/")) 1 n)
          (tests (ends_with (bytes "/*") u) (is_under (take (length u - 2) u) path) (length (take (length u - 2) u))))

  -- any other is by the path's ending
  pub exact_starred : same path (bytes "/") ≡ false → r ≡ false → z ≡ starred_strength u path → z ≡ stem_strength (exact path) u
  unfolding stem_strength
  exact_starred d h e = strength_is u path z (go u refl)
    where
      st : starts_with (bytes "/") u ≡ false
      st = sym r-is ∙ h

      go : (v : Text) → u ≡ v
          → z ≡ cond (eqb (length u) 0) (cond (same (bytes "/") path) 1000 0) (cond (same u (bytes "/")) 1 (cond (starts_with (bytes "/") u) (rooted_strength u path) (starred_strength u path)))
      go [] q = e ∙ rw (q, same_swap (bytes "/") path, d) (starred_none path)
      go (x ∷ xs) q =
          let l : (length u ≡ 0 → ⊥) = λ i. let k : length u ≡ suc (length xs) = ap length q in omega arith in
          e ∙ rw (ne_eqb (length u) 0 l, root_slashed u st, st)

-- ---- a text that is none of the lines
lacked : (us : List Text) (t : Text) (k : ℕ) → length us ≤ index_of t us → k < length us → same (get_or us k []) t ≡ false
unfolding index_of
lacked [] t k h l = absurd (omega arith)
lacked (v ∷ vs) t k h l = go (same v t) refl h k l (λ j. lacked vs t j)
  where
    go : (b : Bool) → same v t ≡ b → suc (length vs) ≤ cond b 0 (suc (index_of t vs)) → (k : ℕ) → k < suc (length vs)
        → ((j : ℕ) → length vs ≤ index_of t vs → j < length vs → same (get_or vs j []) t ≡ false) → same (get_or (v ∷ vs) k []) t ≡ false
    go true e h k l next = absurd (omega arith)
    go false e h zero l next = e
    go false e h (suc k) l next = next k (omega arith) (omega arith)

module _ (v : View) (text : Text) (L : Lacking v text) where
  -- each line has another
  pub lacks_each : (n k : ℕ) (u : Text) → n ≡ length (texts v) → k < n → u ≡ get_or (texts v) k [] → same u text ≡ false
  lacks_each n k u e h q = rw q (lacked (texts v) text k L.lacks (rw e at h))

  -- P`/*` as its P
  pub lacks_ended : (p : Text) → pointwise eqb (drop (length text - 2) text) (bytes "/*") ≡ true → p ≡ take (length text - 2) text → Lacking v (p ++ bytes "/*")
  unfolding ends_with
  lacks_ended p e q =
      let d : drop (length text - 2) text ≡ bytes "/*" = same_equal (drop (length text - 2) text) (bytes "/*") (sym (stripped_end (bytes "/*") text) ∙ e) in
      rw (q, ← d, take-append-drop (length text - 2) text) L

-- the kind of a text that starts with `*.`
pub starred_kind : (u : Text) → starts_with (bytes "*.") u ≡ true → kind_of u ≡ cond (is_extension (drop 2 u)) (extension (drop 2 u)) unpermitted
unfolding kind_of same starts_with
starred_kind u e = let r = (starts_plain (bytes "*.") u).0 e in rw r.1

-- ---- the strongest by numbers
pub by_none : (g : Text → ℕ) (ts : List Text) → start_leading ≡ leading_by g (take 0 ts)
unfolding leading_by run
by_none g ts = refl

module _ (g : Text → ℕ) (ts : List Text) (x : Leading) (k : ℕ) (e : x ≡ leading_by g (take k ts)) where
  -- one text more
  pub by_step : (n : ℕ) (t : Text) (v : ℕ) (y : Leading) → n ≡ length ts → k < n → t ≡ get_or ts k [] → v ≡ g t → y ≡ lead_by x v → y ≡ leading_by g (take (k + 1) ts)
  unfolding leading_by
  by_step n t v y i h q r z = z ∙ rw (e, r, q) (sym (run_step (λ (x : Leading) (u : Text). lead_by x (g u)) start_leading ts k [] (rw i at h)))

-- it counts the texts
pub by_count : (x : Leading) (v k : ℕ) (y : Leading) → x.seen ≡ k → y ≡ lead_by x v → y.seen ≡ k + 1
by_count x v k y e r = ap (λ (z : Leading). z.seen) r ∙ rw e

-- two measures that agree
pub by_same : (g h : Text → ℕ) → ((u : Text) → g u ≡ h u) → (ts : List Text) → leading_by g ts ≡ leading_by h ts
by_same g h e ts = ap (λ (f : Text → ℕ). leading_by f ts) (fun_ext e)

-- the strongest for a path
exact_same : (q : Text) (ts : List Text) → leading ts q ≡ leading_by (stem_strength (exact q)) ts
unfolding leading leading_by lead stem_strength
exact_same q ts = ap (λ (f : Leading → Text → Leading). run f start_leading ts) (fun_ext (λ x. fun_ext (λ u. refl)))

-- ---- the strongest at the stem of a text, way out by way out
pub found_empty : (t : Text) (ts : List Text) (x : Leading) → length t ≡ 0 → x ≡ leading ts (bytes "/") → x ≡ leading_by (stem_strength (kind_of t)) ts
unfolding kind_of same
found_empty [] ts x e i = i ∙ exact_same (bytes "/") ts
found_empty (y ∷ ys) ts x e i = absurd (omega arith)

-- an exact text or a prefix by its tests
firm_tests : (u : Text) (b c d x : Bool) → cond b false c ≡ leb 3 (kind_strength (kind_by u false b c d x))
firm_tests u true c d x = sym (lt-leb 3 1 (omega arith))
firm_tests u false true true x = sym (le-leb 3 (3 + length (take (length u - 2) u)) (omega arith))
firm_tests u false true false x = sym (le-leb 3 1000 (omega arith))
firm_tests u false false d true = sym (lt-leb 3 2 (omega arith))
firm_tests u false false d false = sym (lt-leb 3 0 (omega arith))

firm_kind : (u : Text) → cond (eqb (length u) 0) true (cond (same u (bytes "/")) false (starts_with (bytes "/") u)) ≡ leb 3 (kind_strength (kind_of u))
unfolding kind_of same
firm_kind [] = sym (le-leb 3 1000 (omega arith))
firm_kind (y ∷ ys) =
    rw (ne_eqb (length (y ∷ ys)) 0 (λ e. omega arith))
    (firm_tests (y ∷ ys) (same (y ∷ ys) (bytes "/")) (starts_with (bytes "/") (y ∷ ys)) (ends_with (bytes "/*") (y ∷ ys)) (starts_with (bytes "*.") (y ∷ ys) && is_extension (drop 2 (y ∷ ys))))

firm_by_tests : (t : Text) (a b r : Bool) → a ≡ eqb (length t) 0 → b ≡ same t (bytes "/") → r ≡ starts_with (bytes "/") t → cond a true (cond b false r) ≡ is_firm_text t
unfolding is_firm_text
firm_by_tests t a b r p q e = rw (p, q, e) (firm_kind t)

module _ (t : Text) (a : Bool) (a-is : a ≡ eqb (length t) 0) where
  pub firm_empty : a ≡ true → a ≡ is_firm_text t
  firm_empty h = h ∙ (rw h at (firm_by_tests t a (same t (bytes "/")) (starts_with (bytes "/") t) a-is refl refl))

  module _ (h : a ≡ false) (b : Bool) (b-is : b ≡ same t (bytes "/")) where
    pub firm_default : b ≡ true → not b ≡ is_firm_text t
    firm_default l = ap not l ∙ (rw (h, l) at (firm_by_tests t a b (starts_with (bytes "/") t) a-is b-is refl))

    pub firm_rooted : b ≡ false → (r : Bool) → r ≡ starts_with (bytes "/") t → r ≡ is_firm_text t
    firm_rooted l r e = rw (h, l) at (firm_by_tests t a b r a-is b-is e)

module _ (t : Text) (firm : is_firm_text t ≡ true) (full : length t ≡ 0 → ⊥) where
  full_text : same t [] ≡ false
  full_text = not_so (same t []) (λ e. full (ap length (same_equal t [] e)))

  firm_by : cond (same t (bytes "/")) false (starts_with (bytes "/") t) ≡ true
  unfolding is_firm_text
  firm_by = (rw (ne_eqb (length t) 0 full) at (firm_kind t)) ∙ firm

  rooted : (same t (bytes "/") ≡ false) × (starts_with (bytes "/") t ≡ true)
  rooted = go (same t (bytes "/")) refl firm_by
    where
      go : (b : Bool) → same t (bytes "/") ≡ b → cond b false (starts_with (bytes "/") t) ≡ true → (same t (bytes "/") ≡ false) × (starts_with (bytes "/") t ≡ true)
      go true e h = absurd (never false h refl)
      go false e h = (e, h)

  module _ (ts : List Text) (x : Leading) where
    pub found_prefix : (p : Text) → pointwise eqb (drop (length t - 2) t) (bytes "/*") ≡ true → p ≡ take (length t - 2) t → x ≡ leading_by (stem_strength (prefix p)) ts
        → x ≡ leading_by (stem_strength (kind_of t)) ts
    found_prefix p e q i =
        let k : kind_of t ≡ prefix (take (length t - 2) t) = kind_by_lem t ∙ rw (full_text, rooted.0, rooted.1, sym (stripped_end (bytes "/*") t) ∙ e) in
        i ∙ rw (q, k)

    pub found_exact : pointwise eqb (drop (length t - 2) t) (bytes "/*") ≡ false → x ≡ leading_by (stem_strength (exact t)) ts → x ≡ leading_by (stem_strength (kind_of t)) ts
    found_exact e i =
        let k : kind_of t ≡ exact t = kind_by_lem t ∙ rw (full_text, rooted.0, rooted.1, sym (stripped_end (bytes "/*") t) ∙ e) in
        i ∙ rw k

  -- it is not `/`
  pub found_longer : same t (bytes "/") ≡ false
  found_longer = rooted.0
