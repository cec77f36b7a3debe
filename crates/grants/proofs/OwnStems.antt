-- The best line of the stem of an exact pattern or of a prefix, among texts that have the pattern: the first line with its text.
use mathlib.Core.Path.{◌≡◌, refl, sym, ap, subst, ◌∙◌}
use mathlib.Core.Bool.{Bool, true, false, cond, ◌||◌}
use mathlib.Core.List.{List, [], ◌∷◌, ◌++◌, Memᴰ}
use mathlib.Core.Logic.{◌⊎◌, inl, inr}
use Prim.Native.Nat.{ℕ, suc, ◌+◌, ◌*◌, ◌≤◌, ◌<◌}
use native.Mathlib.Omega.{arith}
use lib.ListN.{length, length-append}
use lib.Dec.{ltb}
use borrow.Author.Tests.{lt-ltb, le-ltb, le-leb, ne_eqb}
use Rattle.text.specs.Texts.{Text, bytes, slash, same, member, index_of, run}
use Rattle.names.specs.Patterns.{PatternKind, exact, prefix, extension, default, unpermitted, kind_of, Shape}
use Rattle.text.proofs.Truths.{never}
use Rattle.text.proofs.Spans.{same_equal, same_self}
use Rattle.names.proofs.Plainly.{shape, one_text}
use Rattle.decisions.specs.Matching.{is_under, has_extension, kind_matches}
use Rattle.matching.specs.Strengths.{kind_strength, strength, start_leading, lead_by}
use Rattle.matching.specs.declared.Leading.{Leading}
use Rattle.decisions.proofs.Bests.{under_plain}
use Rattle.grants.specs.Scratch.{best_number, below_strength, stem_strength, leading_by, stem_best}

-- ---- one text more
-- a stronger text leads
pub by_more : (x : Leading) (s : ℕ) → x.most < s → lead_by x s ≡ record { seen = x.seen + 1; at = x.seen; most = s }
by_more x s h = rw (lt-ltb x.most s h)

-- another changes the count alone
pub by_less : (x : Leading) (s : ℕ) → s ≤ x.most → lead_by x s ≡ record { seen = x.seen + 1; at = x.at; most = x.most }
by_less x s h = rw (le-ltb x.most s h)

-- ---- the first of the strongest
module _ (g : Text → ℕ) where
  abbrev led : Leading → List Text → Leading
  led x us = run (λ (y : Leading) (u : Text). lead_by y (g u)) x us

  -- where none is stronger, the leader stays
  led_stays : (us : List Text) (x : Leading) → ((u : Text) → Memᴰ u us → g u ≤ x.most) → ((led x us).at ≡ x.at) × ((led x us).most ≡ x.most)
  unfolding run
  led_stays [] x h = (refl, refl)
  led_stays (u ∷ us) x h =
      let e = by_less x (g u) (h u (Memᴰ.head refl)) in
      let r = led_stays us (lead_by x (g u)) (λ v m. subst (λ (y : Leading). g v ≤ y.most) (sym e) (h v (Memᴰ.tail m))) in
      (r.0 ∙ ap (λ (y : Leading). y.at) e, r.1 ∙ ap (λ (y : Leading). y.most) e)

  module _ (t : Text) where
    -- t is stronger than all other texts
    abbrev pub Strongest : List Text → Type 0
    Strongest us = (u : Text) → Memᴰ u us → same u t ≡ false → g u < g t

    at_most : (us : List Text) → Strongest us → (u : Text) → Memᴰ u us → g u ≤ g t
    at_most us s u m = go (same u t) refl
      where
        go : (b : Bool) → same u t ≡ b → g u ≤ g t
        go true e = rw (same_equal u t e) (omega arith)
        go false e = let h = s u m e in omega arith

    -- so its first line leads
    led_first : (us : List Text) (x : Leading) → x.most < g t → Strongest us → member t us ≡ true → ((led x us).at ≡ x.seen + index_of t us) × ((led x us).most ≡ g t)
    unfolding run member index_of
    led_first [] x h s m = absurd (never false m refl)
    led_first (u ∷ us) x h s m = go (same u t) refl m (led_first us (lead_by x (g u)))
      where
        rest : Strongest us
        rest v i = s v (Memᴰ.tail i)

        go : (b : Bool) → same u t ≡ b → b || member t us ≡ true
            → ((lead_by x (g u)).most < g t → Strongest us → member t us ≡ true → ((led (lead_by x (g u)) us).at ≡ x.seen + 1 + index_of t us) × ((led (lead_by x (g u)) us).most ≡ g t))
            → ((led (lead_by x (g u)) us).at ≡ x.seen + cond b 0 (suc (index_of t us))) × ((led (lead_by x (g u)) us).most ≡ g t)
        go true e i ih =
            let q : g u ≡ g t = ap g (same_equal u t e) in
            let l = by_more x (g u) (omega arith) in
            let r = led_stays us (lead_by x (g u)) (λ v k. subst (λ (y : Leading). g v ≤ y.most) (sym l) (rw q (at_most us rest v k))) in
            let a = ap (λ (y : Leading). y.at) l in
            let b = ap (λ (y : Leading). y.most) l in
            (omega (arith, r.0, a), r.1 ∙ b ∙ q)
        go false e i ih =
            let r = ih (most (s u (Memᴰ.head refl) e)) rest i in
            (omega (arith, r.0), r.1)
          where
            most : g u < g t → (lead_by x (g u)).most < g t
            most k = pick_most (ltb x.most (g u))
              where
                pick_most : (b : Bool) → cond b (g u) x.most < g t
                pick_most true = k
                pick_most false = h

    pub strongest_first : (us : List Text) → 3 ≤ g t → Strongest us → member t us ≡ true → best_number (leading_by g us) ≡ 2 * (index_of t us + 1) + 1
    unfolding leading_by
    strongest_first us h s m =
        let r = led_first us start_leading (omega arith) s m in
        rw (r.1, r.0, ne_eqb (g t) 0 (λ e. omega arith), le-leb 3 (g t) h) (omega arith)

-- ---- a pattern's own stem
module _ (ts : List Text) (short : (u : Text) → Memᴰ u ts → length u ≤ 255) (t : Text) (there : member t ts ≡ true) where
  -- another text is of another kind
  other_kind : (u : Text) (k : PatternKind) → kind_of t ≡ k → (k ≡ unpermitted → ⊥) → same u t ≡ false → kind_of u ≡ k → ⊥
  other_kind u k e n d h = never (same u t) (rw (one_text u t k h e n) (same_self t)) d

  -- of an exact pattern
  pub own_exact : (q : Text) → kind_of t ≡ exact q → stem_best ts (kind_of t) ≡ 2 * (index_of t ts + 1) + 1
  unfolding stem_best stem_strength strength kind_matches
  own_exact q e = rw e (strongest_first (stem_strength (exact q)) t ts (omega (arith, own)) others there)
    where
      own : stem_strength (exact q) t ≡ 1000
      own = rw (e, same_self q)

      others : Strongest (stem_strength (exact q)) t ts
      others u m d = rw own (go (kind_of u) refl (shape u))
        where
          less : (b : Bool) (n : ℕ) → n < 1000 → cond b n 0 < 1000
          less true n h = h
          less false n h = omega arith

          go : (k : PatternKind) → kind_of u ≡ k → Shape u k → cond (kind_matches k q) (kind_strength k) 0 < 1000
          go (exact r) i s = none (same r q) refl
            where
              no_kind : exact q ≡ unpermitted → ⊥
              no_kind z = let y : ◌≡◌ {A = ℕ} 1000 0 = ap kind_strength z in omega arith

              none : (b : Bool) → same r q ≡ b → cond b 1000 0 < 1000
              none true w = absurd (other_kind u (exact q) e no_kind d (i ∙ ap exact (same_equal r q w)))
              none false w = omega arith
          go (prefix p) i s = less (is_under p q) (3 + length p) (let h = short u m in omega (arith, ap length s.0 ∙ length-append p (bytes "/*")))
          go (extension d) i s = less (has_extension d q) 2 (omega arith)
          go default i s = omega arith
          go unpermitted i s = omega arith

  -- of a prefix
  pub own_prefix : (p : Text) → kind_of t ≡ prefix p → stem_best ts (kind_of t) ≡ 2 * (index_of t ts + 1) + 1
  unfolding stem_best stem_strength is_under
  own_prefix p e = rw e (strongest_first (stem_strength (prefix p)) t ts (omega (arith, own)) others there)
    where
      own : stem_strength (prefix p) t ≡ 3 + length p
      own = rw (e, same_self p)

      others : Strongest (stem_strength (prefix p)) t ts
      others u m d = rw own (go (kind_of u) refl)
        where
          no_kind : prefix p ≡ unpermitted → ⊥
          no_kind z = let y : ◌≡◌ {A = ℕ} (3 + length p) 0 = ap kind_strength z in omega arith

          above : (q : Text) → kind_of u ≡ prefix q → (b : Bool) → is_under q p ≡ b → cond b (3 + length q) 0 < 3 + length p
          above q i true w = split ((under_plain q p).0 w)
            where
              split : (p ≡ q) ⊎ ((r : Text) × (p ≡ q ++ slash ∷ r)) → 3 + length q < 3 + length p
              split (inl z) = absurd (other_kind u (prefix p) e no_kind d (i ∙ ap prefix (sym z)))
              split (inr z) = omega (arith, ap length z.1 ∙ length-append q (slash ∷ z.0))
          above q i false w = omega arith

          go : (k : PatternKind) → kind_of u ≡ k → below_strength p k < 3 + length p
          go (exact r) i = omega arith
          go (prefix q) i = above q i (is_under q p) refl
          go (extension d) i = omega arith
          go default i = omega arith
          go unpermitted i = omega arith

  -- of either
  pub own_first : 3 ≤ kind_strength (kind_of t) → stem_best ts (kind_of t) ≡ 2 * (index_of t ts + 1) + 1
  own_first h = go (kind_of t) refl h
    where
      go : (k : PatternKind) → kind_of t ≡ k → 3 ≤ kind_strength k → stem_best ts (kind_of t) ≡ 2 * (index_of t ts + 1) + 1
      go (exact q) e l = own_exact q e
      go (prefix p) e l = own_prefix p e
      go (extension d) e l = absurd (omega arith)
      go default e l = absurd (omega arith)
      go unpermitted e l = absurd (omega arith)
