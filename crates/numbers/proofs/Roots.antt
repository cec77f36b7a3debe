-- The best line of the stem of an extension, by that of `/`filler, the root: the root's where that is firm, else the extension's own where the listing has it, else the root's. So no
-- listing is looked through for an extension.
use mathlib.Core.Path.{◌≡◌, refl, sym, ap, subst, ◌∙◌}
use mathlib.Core.Bool.{Bool, true, false, cond, ◌||◌}
use mathlib.Core.List.{List, [], ◌∷◌, ◌++◌}
use Prim.Native.Nat.{ℕ, suc, ◌+◌, ◌*◌, ◌%◌, ◌≤◌, ◌<◌}
use native.Mathlib.Omega.{arith}
use native.Mathlib.Decide.{dec_lt}
use lib.ListN.{length, drop}
use lib.Dec.{eqb, ltb}
use borrow.Author.Tests.{le-leb, lt-leb, eq-eqb, ne_eqb}
use Rattle.text.specs.Texts.{Text, bytes, same, member, index_of, run}
use Rattle.text.proofs.Truths.{never}
use Rattle.text.proofs.Spans.{same_equal, same_self}
use Rattle.text.proofs.Indices.{index_member}
use Rattle.names.specs.Patterns.{PatternKind, exact, prefix, extension, default, unpermitted, kind_of, Shape}
use Rattle.names.proofs.Plainly.{shape}
use Rattle.decisions.specs.Matching.{is_under}
use Rattle.matching.specs.Strengths.{start_leading, lead_by}
use Rattle.matching.specs.declared.Leading.{Leading}
use Rattle.grants.specs.Scratch.{best_number, is_firm_in, below_strength, end_strength, stem_strength, leading_by, stem_best}
use Rattle.grants.proofs.OwnStems.{by_more, by_less}
use Rattle.numbers.proofs.Searchings.{by_same}

-- ---- how strong a text is at the stem of the extension t, and at the root
module _ (t e : Text) (k-is : kind_of t ≡ extension e) where
  t_shape : t ≡ bytes "*." ++ e
  t_shape = let s : Shape t (extension e) = rw k-is at (shape t) in s.0

  -- its own text 2, any other as at the root
  end_strength_lem : (u : Text) → stem_strength (extension e) u ≡ cond (same u t) 2 (stem_strength default u)
  unfolding stem_strength
  end_strength_lem u = go (kind_of u) refl (shape u) (same u t) refl
    where
      clash : (k : PatternKind) → kind_of u ≡ k → same u t ≡ true → extension e ≡ k
      clash k i j = sym k-is ∙ ap kind_of (sym (same_equal u t j)) ∙ i

      own : (d : Text) → u ≡ bytes "*." ++ d → (b : Bool) → same u t ≡ b → (c : Bool) → same e d ≡ c → ◌≡◌ {A = ℕ} (cond c 2 0) (cond b 2 0)
      own d s true i true j = refl
      own d s false i false j = refl
      own d s true i false j = let q : d ≡ e = ap (drop 2) (sym s ∙ same_equal u t i ∙ t_shape) in absurd (never (same e d) (rw q (same_self e)) j)
      own d s false i true j = let q : u ≡ t = s ∙ ap (λ (z : Text). bytes "*." ++ z) (sym (same_equal e d j)) ∙ sym t_shape in absurd (never (same u t) (rw q (same_self t)) i)

      go : (k : PatternKind) → kind_of u ≡ k → Shape u k → (b : Bool) → same u t ≡ b → end_strength e k ≡ cond b 2 (below_strength [] k)
      go (exact q) i s false j = refl
      go (prefix q) i s false j = refl
      go default i s false j = refl
      go unpermitted i s false j = refl
      go (exact q) i s true j = let z = clash (exact q) i j in cc
      go (prefix q) i s true j = let z = clash (prefix q) i j in cc
      go default i s true j = let z = clash default i j in cc
      go unpermitted i s true j = let z = clash unpermitted i j in cc
      go (extension d) i s b j = own d s.0 b j (same e d) refl

  -- at the root it is nothing itself
  root_own : stem_strength default t ≡ 0
  unfolding stem_strength
  root_own = rw k-is

-- what is not firm there is 1 at most
root_low : (u : Text) → stem_strength default u < 3 → stem_strength default u ≤ 1
unfolding stem_strength
root_low u = go (kind_of u)
  where
    go : (k : PatternKind) → below_strength [] k < 3 → below_strength [] k ≤ 1
    go (exact q) h = omega arith
    go (prefix q) h = at (is_under q []) h
      where
        at : (b : Bool) → cond b (3 + length q) 0 < 3 → cond b (3 + length q) 0 ≤ 1
        at true l = absurd (omega arith)
        at false l = omega arith
    go (extension d) h = omega arith
    go default h = omega arith
    go unpermitted h = omega arith

-- ---- the strongest at both, side by side
-- x at the extension's stem and y at the root; b: the extension's text was seen, first at line i
record Beside (x y : Leading) (b : Bool) (i : ℕ) : Type 0 where
  pub seen : x.seen ≡ y.seen
  pub firm : 3 ≤ y.most → x ≡ y
  pub soft : y.most < 3 → b ≡ true → (x.at ≡ i) × (x.most ≡ 2)
  pub none : b ≡ false → x ≡ y
  pub low : y.most < 3 → y.most ≤ 1

lead_eq : (y : Leading) (a b c : ℕ) → a ≡ y.seen → b ≡ y.at → c ≡ y.most → record { seen = a; at = b; most = c } ≡ y
lead_eq y a b c p q r = rw (p, q, r)

beside_moved : (x x' y y' : Leading) (b : Bool) (i : ℕ) → x ≡ x' → y ≡ y' → Beside x' y' b i → Beside x y b i
beside_moved x x' y y' b i e f B = rw (e, f) B

-- both are one
beside_firm : (x y : Leading) (b : Bool) (i : ℕ) → x ≡ y → 3 ≤ y.most → Beside x y b i
beside_firm x y b i e h = record { seen = ap (λ (z : Leading). z.seen) e; firm = λ l. e; soft = λ l. absurd (omega arith); none = λ l. e; low = λ l. absurd (omega arith) }

beside_none : (x y : Leading) (i : ℕ) → x ≡ y → (y.most < 3 → y.most ≤ 1) → Beside x y false i
beside_none x y i e h = record { seen = ap (λ (z : Leading). z.seen) e; firm = λ l. e; soft = λ l q. absurd (never false q refl); none = λ l. e; low = h }

-- the extension leads
beside_soft : (x y : Leading) (i : ℕ) → x.seen ≡ y.seen → x.at ≡ i → x.most ≡ 2 → y.most ≤ 1 → Beside x y true i
beside_soft x y i p q r h = record { seen = p; firm = λ l. absurd (omega arith); soft = λ l z. (q, r); none = λ z. absurd (never true refl z); low = λ l. h }

module _ (x y : Leading) (i : ℕ) where
  -- the extension's text comes by
  own_step : (b : Bool) → Beside x y b i → Beside (lead_by x 2) (lead_by y 0) true (cond b i y.seen)
  own_step b B = go b B (dec_lt y.most 3)
    where
      y' : lead_by y 0 ≡ record { seen = y.seen + 1; at = y.at; most = y.most }
      y' = by_less y 0 (omega arith)

      go : (b : Bool) → Beside x y b i → Dec (y.most < 3) → Beside (lead_by x 2) (lead_by y 0) true (cond b i y.seen)
      go b B (no h) =
          let e : x ≡ y = B.firm (omega arith) in
          beside_firm (lead_by x 2) (lead_by y 0) true (cond b i y.seen) (ap (λ (z : Leading). lead_by z 2) e ∙ by_less y 2 (omega arith) ∙ sym y') (subst (λ (z : Leading). 3 ≤ z.most) (sym y') (omega arith))
      go true B (yes h) =
          let s = B.soft h refl in
          beside_moved _ (record { seen = x.seen + 1; at = x.at; most = x.most }) _ (record { seen = y.seen + 1; at = y.at; most = y.most }) true i (by_less x 2 (omega (arith, s.1))) (y') (beside_soft (record { seen = x.seen + 1; at = x.at; most = x.most }) (record { seen = y.seen + 1; at = y.at; most = y.most }) i (omega (arith, B.seen)) s.0 s.1 (B.low h))
      go false B (yes h) =
          let m : x.most ≡ y.most = ap (λ (z : Leading). z.most) (B.none refl) in
          beside_moved _ (record { seen = x.seen + 1; at = x.seen; most = 2 }) _ (record { seen = y.seen + 1; at = y.at; most = y.most }) true y.seen (by_more x 2 (omega (arith, B.low h))) (y') (beside_soft (record { seen = x.seen + 1; at = x.seen; most = 2 }) (record { seen = y.seen + 1; at = y.at; most = y.most }) y.seen (omega (arith, B.seen)) B.seen refl (B.low h))

  -- another does
  other_step : (b : Bool) (v : ℕ) → (v < 3 → v ≤ 1) → Beside x y b i → Beside (lead_by x v) (lead_by y v) b i
  other_step b v l B = go b B (dec_lt y.most v) (dec_lt y.most 3) (dec_lt v 3)
    where
      x_low : (b : Bool) → Beside x y b i → y.most < 3 → x.most ≤ 2
      x_low true B h = let s = B.soft h refl in omega arith
      x_low false B h = let m : x.most ≡ y.most = ap (λ (z : Leading). z.most) (B.none refl) in omega arith

      kept : v ≤ y.most → lead_by y v ≡ record { seen = y.seen + 1; at = y.at; most = y.most }
      kept h = by_less y v h

      taken : y.most < v → lead_by y v ≡ record { seen = y.seen + 1; at = y.seen; most = v }
      taken h = by_more y v h

      go : (b : Bool) → Beside x y b i → Dec (y.most < v) → Dec (y.most < 3) → Dec (v < 3) → Beside (lead_by x v) (lead_by y v) b i
      go b B (yes m) (no h) d = beside_firm (lead_by x v) (lead_by y v) b i (ap (λ (z : Leading). lead_by z v) (B.firm (omega arith))) (subst (λ (z : Leading). 3 ≤ z.most) (sym (taken m)) (omega arith))
      go b B (no m) (no h) d = beside_firm (lead_by x v) (lead_by y v) b i (ap (λ (z : Leading). lead_by z v) (B.firm (omega arith))) (subst (λ (z : Leading). 3 ≤ z.most) (sym (kept (omega arith))) (omega arith))
      go b B (yes m) (yes h) (no d) =
          let k : x.most < v = omega (arith, x_low b B h) in
          let e : lead_by x v ≡ lead_by y v = by_more x v k ∙ lead_eq (record { seen = y.seen + 1; at = y.seen; most = v }) (x.seen + 1) x.seen v (omega (arith, B.seen)) B.seen refl ∙ sym (taken m) in
          beside_firm (lead_by x v) (lead_by y v) b i e (subst (λ (z : Leading). 3 ≤ z.most) (sym (taken m)) (omega arith))
      go true B (yes m) (yes h) (yes d) =
          let s = B.soft h refl in
          beside_moved _ (record { seen = x.seen + 1; at = x.at; most = x.most }) _ (record { seen = y.seen + 1; at = y.seen; most = v }) true i (by_less x v (omega (arith, l d, s.1))) (taken m) (beside_soft (record { seen = x.seen + 1; at = x.at; most = x.most }) (record { seen = y.seen + 1; at = y.seen; most = v }) i (omega (arith, B.seen)) s.0 s.1 (l d))
      go true B (no m) (yes h) d =
          let s = B.soft h refl in
          beside_moved _ (record { seen = x.seen + 1; at = x.at; most = x.most }) _ (record { seen = y.seen + 1; at = y.at; most = y.most }) true i (by_less x v (omega (arith, B.low h, s.1))) (kept (omega arith)) (beside_soft (record { seen = x.seen + 1; at = x.at; most = x.most }) (record { seen = y.seen + 1; at = y.at; most = y.most }) i (omega (arith, B.seen)) s.0 s.1 (B.low h))
      go false B (yes m) (yes h) (yes d) = beside_none (lead_by x v) (lead_by y v) i (ap (λ (z : Leading). lead_by z v) (B.none refl)) (subst (λ (z : Leading). z.most < 3 → z.most ≤ 1) (sym (taken m)) l)
      go false B (no m) (yes h) d = beside_none (lead_by x v) (lead_by y v) i (ap (λ (z : Leading). lead_by z v) (B.none refl)) (subst (λ (z : Leading). z.most < 3 → z.most ≤ 1) (sym (kept (omega arith))) B.low)

module _ (t : Text) (g : Text → ℕ) (low : (u : Text) → g u < 3 → g u ≤ 1) (own : g t ≡ 0) where
  abbrev own_or : Text → ℕ
  own_or u = cond (same u t) 2 (g u)

  beside_run : (ts : List Text) (x y : Leading) (b : Bool) (i : ℕ) → Beside x y b i
      → Beside (run (λ (z : Leading) (u : Text). lead_by z (own_or u)) x ts) (run (λ (z : Leading) (u : Text). lead_by z (g u)) y ts) (b || member t ts) (cond b i (y.seen + index_of t ts))
  unfolding run member index_of
  beside_run [] x y true i B = B
  beside_run [] x y false i B = let e : y.seen + 0 ≡ y.seen = omega arith in beside_none x y (y.seen + 0) (B.none refl) B.low
  beside_run (u ∷ us) x y b i B = go b (same u t) refl B (beside_run us)
    where
      to : Leading → Leading
      to z = run (λ (z : Leading) (u : Text). lead_by z (own_or u)) z us

      by : Leading → Leading
      by z = run (λ (z : Leading) (u : Text). lead_by z (g u)) z us

      go : (b c : Bool) → same u t ≡ c → Beside x y b i
          → ((x y : Leading) (b : Bool) (i : ℕ) → Beside x y b i → Beside (to x) (by y) (b || member t us) (cond b i (y.seen + index_of t us)))
          → Beside (to (lead_by x (cond c 2 (g u)))) (by (lead_by y (g u))) (b || (c || member t us)) (cond b i (y.seen + cond c 0 (suc (index_of t us))))
      go true true e B again =
          let z : g u ≡ 0 = ap g (same_equal u t e) ∙ own in
          rw z (again (lead_by x 2) (lead_by y 0) true i (own_step x y i true B))
      go false true e B again =
          let z : g u ≡ 0 = ap g (same_equal u t e) ∙ own in
          let q : y.seen + 0 ≡ y.seen = omega arith in
          rw (z, q) (again (lead_by x 2) (lead_by y 0) true y.seen (own_step x y i false B))
      go true false e B again = again (lead_by x (g u)) (lead_by y (g u)) true i (other_step x y i true (g u) (low u) B)
      go false false e B again =
          let q : y.seen + suc (index_of t us) ≡ y.seen + 1 + index_of t us = omega arith in
          rw q (again (lead_by x (g u)) (lead_by y (g u)) false i (other_step x y i false (g u) (low u) B))

-- ---- what is written of them
best_odd : (y : Leading) → 3 ≤ y.most → is_firm_in (best_number y) ≡ true
best_odd y h = rw (ne_eqb y.most 0 (λ e. omega arith), le-leb 3 y.most h) (eq-eqb ((2 * (y.at + 1) + 1) % 2) 1 (omega arith))

best_even : (y : Leading) → y.most < 3 → is_firm_in (best_number y) ≡ false
best_even y h = rw (lt-leb 3 y.most h) (go (eqb y.most 0))
  where
    go : (b : Bool) → eqb (cond b 0 (2 * (y.at + 1) + 0) % 2) 1 ≡ false
    go true = ne_eqb (0 % 2) 1 (λ e. omega arith)
    go false = ne_eqb ((2 * (y.at + 1) + 0) % 2) 1 (λ e. omega arith)

best_soft : (x : Leading) (i : ℕ) → x.at ≡ i → x.most ≡ 2 → best_number x ≡ 2 * (i + 1)
best_soft x i p q = rw (p, q) (omega arith)

module _ (ts : List Text) (t e : Text) (k-is : kind_of t ≡ extension e) where
  abbrev root : ℕ
  root = stem_best ts default

  pub extension_by_root : stem_best ts (kind_of t) ≡ cond (is_firm_in root) root (cond (ltb (index_of t ts) (length ts)) (2 * (index_of t ts + 1)) root)
  unfolding stem_best leading_by
  extension_by_root = rw k-is (go (dec_lt y.most 3) (member t ts) refl)
    where
      x : Leading
      x = leading_by (stem_strength (extension e)) ts

      y : Leading
      y = leading_by (stem_strength default) ts

      B' : Beside (leading_by (λ (u : Text). cond (same u t) 2 (stem_strength default u)) ts) y (false || member t ts) (cond false 0 (start_leading.seen + index_of t ts))
      B' = beside_run t (stem_strength default) root_low (root_own t e k-is) ts start_leading start_leading false 0 (beside_none start_leading start_leading 0 refl (λ h. omega arith))

      B : Beside x y (member t ts) (0 + index_of t ts)
      B = rw (by_same (stem_strength (extension e)) (λ (u : Text). cond (same u t) 2 (stem_strength default u)) (end_strength_lem t e k-is) ts) B'

      go : Dec (y.most < 3) → (b : Bool) → member t ts ≡ b → best_number x ≡ cond (is_firm_in (best_number y)) (best_number y) (cond (ltb (index_of t ts) (length ts)) (2 * (index_of t ts + 1)) (best_number y))
      go (no h) b m = rw (best_odd y (omega arith)) (ap best_number (B.firm (omega arith)))
      go (yes h) true m =
          let s = B.soft h m in
          rw (best_even y h, index_member t ts, m) (best_soft x (index_of t ts) (s.0 ∙ omega arith) s.1)
      go (yes h) false m = rw (best_even y h, index_member t ts, m) (ap best_number (B.none m))
