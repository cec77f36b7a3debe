-- The stems: laws in the shape of the code.
use mathlib.Core.Path.{◌≡◌, refl, sym, ap, ◌∙◌}
use mathlib.Core.Bool.{Bool, true, false, not, cond, ◌||◌}
use mathlib.Core.List.{List, [], ◌∷◌, ◌++◌}
use Prim.Native.Nat.{ℕ, zero, suc, ◌+◌, ◌-◌, ◌*◌, ◌%◌, ◌≤◌, ◌<◌}
use native.Mathlib.Omega.{arith}
use native.Mathlib.Decide.{dec_lt}
use lib.ListN.{length, get_or, take, drop, length-append, get_or-append}
use lib.Seq.{get_or-append-add}
use lib.Dec.{eqb, ltb, leb, leb-suc-suc, leb-zero}
use borrow.Author.Tests.{lt-ltb, le-ltb, ltb-true, le-leb, leb-true, eq-eqb, ne_eqb, not-true, not-false}
use Rattle.text.specs.Texts.{Text, bytes, part, same, starts_with, ends_with, member, index_of, run}
use Rattle.names.specs.Patterns.{PatternKind, exact, prefix, extension, default, unpermitted, kind_of, is_extension, is_permitted, Shape}
use Rattle.text.proofs.Truths.{never, not_so}
use Rattle.text.proofs.Spans.{same_equal, same_self}
use Rattle.text.proofs.Indices.{index_bound, index_member, index_front, index_here, member_at}
use Rattle.names.proofs.Plainly.{shape}
use Rattle.reading.specs.Views.{View, texts, ProperView}
use Rattle.matching.specs.Strengths.{kind_strength, start_leading, lead_by}
use Rattle.matching.specs.declared.Leading.{Leading}
use Rattle.matching.proofs.Strengths.{at_listed}
use Rattle.trials.proofs.Bounds.{pattern_permitted}
use Rattle.grants.specs.Scratch.{best_number, is_firm_in, sort_of, stem_strength, leading_by, stem_best}
use Rattle.grants.proofs.OwnStems.{own_first}
use Rattle.firsts.proofs.Keepings.{part_at, part_length}
use Rattle.numbers.specs.Stemming.{line_among, is_firm_text, soft_best, Findable, Lacking, BestSought, Spottable, SpotIs, last_stem, Fresh, FreshIs, Stemmable, StemOf}
use Rattle.numbers.specs.declared.stems.Stem.{Stem}
use Rattle.numbers.specs.declared.stems.Spot.{Spot}
use Rattle.numbers.proofs.Searchings.{among_by, kind_by_lem, starred_kind, slashed, root_slashed, by_same}
use Rattle.std.proofs.Common.{Option, Some, None, is_some, is_none}
use Rattle.std.specs.Option.{unwrap_or}
use Rattle.numbers.proofs.Roots.{extension_by_root}

-- ---- what the tests of a text tell
-- its sort
root_ends : ends_with (bytes "/*") (bytes "/") ≡ false
unfolding ends_with same
root_ends = refl

pub sort_is : (t : Text) (z : ℕ) → is_permitted (kind_of t) ≡ true → z
    ≡ cond (starts_with (bytes "*.") t) 3
    (cond (not (starts_with (bytes "/") t)) 1
    (cond (ends_with (bytes "/*") t) 2 1))
    → z ≡ sort_of (kind_of t)
sort_is t z h e = e ∙ go (starts_with (bytes "*.") t) refl (starts_with (bytes "/") t) refl
  where
    starred : (c : Bool) → is_extension (drop 2 t) ≡ c → kind_of t ≡ cond c (extension (drop 2 t)) unpermitted → 3 ≡ sort_of (kind_of t)
    starred true i k = rw k
    starred false i k = absurd (never false (rw k at h) refl)

    plain : (a : Bool) → 1 ≡ sort_of (cond a (exact (bytes "/")) unpermitted)
    plain true = refl
    plain false = refl

    rooted : (b : Bool) → same t (bytes "/") ≡ b → (d : Bool) → ends_with (bytes "/*") t ≡ d → cond d 2 1 ≡ sort_of (cond b default (cond d (prefix (take (length t - 2) t)) (exact t)))
    rooted true i true j = absurd (never (ends_with (bytes "/*") t) j (ap (ends_with (bytes "/*")) (same_equal t (bytes "/") i) ∙ root_ends))
    rooted true i false j = refl
    rooted false i true j = refl
    rooted false i false j = refl

    go : (x : Bool) → starts_with (bytes "*.") t ≡ x → (c : Bool) → starts_with (bytes "/") t ≡ c → cond x 3 (cond (not c) 1 (cond (ends_with (bytes "/*") t) 2 1)) ≡ sort_of (kind_of t)
    go true x c q = starred (is_extension (drop 2 t)) refl (starred_kind t x)
    go false x true q = rooted (same t (bytes "/")) refl (ends_with (bytes "/*") t) refl ∙ rw (kind_by_lem t, slashed t q, q)
    go false x false q = plain (same t []) ∙ rw (kind_by_lem t, root_slashed t q, q, x)

-- ---- indices
-- the leader is one of the texts
led_at : (g : Text → ℕ) (ts : List Text) (x : Leading) → x.at ≤ x.seen → (run (λ (y : Leading) (u : Text). lead_by y (g u)) x ts).at ≤ x.seen + length ts
unfolding run
led_at g [] x h = omega arith
led_at g (t ∷ ts) x h = let r = led_at g ts (lead_by x (g t)) (go (ltb x.most (g t))) in omega arith
  where
    go : (b : Bool) → cond b x.seen x.at ≤ x.seen + 1
    go true = omega arith
    go false = omega arith

module _ (v : View) (P : ProperView v) where
  abbrev ts : List Text
  ts = texts v

  pub led_small : (g : Text → ℕ) (x : Leading) → x ≡ leading_by g ts → x.at < 1000
  unfolding leading_by
  led_small g x e =
      let r = led_at g ts start_leading (omega arith) in
      let q : x.at ≡ (leading_by g ts).at = ap (λ (y : Leading). y.at) e in
      omega (arith, P.few_patterns)

  -- the lines are few, and so is the index of a text among them
  pub lines_few : (n : ℕ) → n ≡ length ts → n ≤ 128
  lines_few n e = omega (arith, P.few_patterns)

  pub index_few : (u : Text) (k : ℕ) → k ≡ index_of u ts → k ≤ 128
  index_few u k e = omega (arith, P.few_patterns, index_bound u ts)

-- ---- where a text is among others
module _ (t : Text) (us : List Text) where
  pub among_none : length us ≤ index_of t us → None ≡ line_among t us
  among_none h = sym (among_by t us ∙ rw (le-ltb (index_of t us) (length us) h))

  pub among_some : (k : ℕ) → k ≡ index_of t us → k < length us → Some k ≡ line_among t us
  among_some k e h = rw e (sym (among_by t us ∙ rw (lt-ltb (index_of t us) (length us) (omega arith))))

  pub lost_among : None ≡ line_among t us → length us ≤ index_of t us
  lost_among e = go (dec_lt (index_of t us) (length us))
    where
      go : Dec (index_of t us < length us) → length us ≤ index_of t us
      go (yes l) = let z = e ∙ sym (among_some (index_of t us) refl l) in absurd (never false (sym (ap is_none z)) refl)
      go (no l) = omega arith

  pub found_among : (k : ℕ) → Some k ≡ line_among t us → (k ≡ index_of t us) × (k < length us)
  found_among k e = go (dec_lt (index_of t us) (length us))
    where
      go : Dec (index_of t us < length us) → (k ≡ index_of t us) × (k < length us)
      go (yes l) = let z : k ≡ index_of t us = ap (λ (r : Option ℕ). unwrap_or r 0) (e ∙ sym (among_some (index_of t us) refl l)) in (z, omega arith)
      go (no l) = absurd (never false (sym (ap is_some (e ∙ sym (among_none (omega arith))))) refl)

-- ---- the best line of the stem of an extension, or of `/`
same_root : (b : Bool) (root : ℕ) → root ≡ cond b root root
same_root true root = refl
same_root false root = refl

pub soft_firm : (t : Text) (k : Option ℕ) (root : ℕ) → root % 2 ≡ 1 → root ≡ soft_best t k root
unfolding soft_best
soft_firm t None root h = refl
soft_firm t (Some j) root h = rw (eq-eqb (root % 2) 1 h)

soft_default : (t : Text) (root : ℕ) → same t (bytes "/") ≡ true → (k : Option ℕ) → root ≡ soft_best t k root
unfolding soft_best
soft_default t root d None = refl
soft_default t root d (Some j) = rw d (same_root (is_firm_in root) root)

pub soft_slash : (t : Text) (k : Option ℕ) (root : ℕ) (b : Bool) → b ≡ same t (bytes "/") → b ≡ true → root ≡ soft_best t k root
soft_slash t k root b q d = soft_default t root (sym q ∙ d) k

pub soft_none : (t : Text) (k : Option ℕ) (root : ℕ) → k ≡ None → root ≡ soft_best t k root
unfolding soft_best
soft_none t k root e = rw e

pub soft_some : (t : Text) (k : Option ℕ) (root j : ℕ) → k ≡ Some j → (root % 2 ≡ 1 → ⊥) → (b : Bool) → b ≡ same t (bytes "/") → b ≡ false → 2 * (j + 1) ≡ soft_best t k root
unfolding soft_best
soft_some t k root j e h b q d = rw (e, ← q, d, ne_eqb (root % 2) 1 h)

-- by the index of the text
soft_line : (t : Text) (us : List Text) (root : ℕ) → same t (bytes "/") ≡ false → (k : Option ℕ) → k ≡ line_among t us
    → soft_best t k root ≡ cond (is_firm_in root) root (cond (ltb (index_of t us) (length us)) (2 * (index_of t us + 1)) root)
unfolding soft_best
soft_line t us root d None q = rw (le-ltb (index_of t us) (length us) (lost_among t us q)) (same_root (is_firm_in root) root)
soft_line t us root d (Some j) q = let f = found_among t us j q in rw (d, ← f.0, lt-ltb j (length us) f.1)

-- ---- the best line of the stem of a text
module _ (v : View) (u : Text) (k : Option ℕ) (root : ℕ) (P : BestSought v u k root) where
  abbrev us : List Text
  us = texts v

  pub line_few : (j : ℕ) → k ≡ Some j → j ≤ 128
  line_few j e = index_few v P.proper u j (found_among u us j (sym e ∙ P.line)).0

  module _ (r : Bool) (r-is : r ≡ is_firm_text u) where
    -- an extension, or `/`
    pub soft_is : not r ≡ true → (z : ℕ) → z ≡ soft_best u k root → z ≡ stem_best us (kind_of u)
    unfolding is_firm_text
    soft_is h z e = e ∙ go (kind_of u) refl (shape u)
      where
        soft : (q : PatternKind) → kind_of u ≡ q → 3 ≤ kind_strength q → ⊥
        soft q i l = never (leb 3 (kind_strength (kind_of u))) (rw i (le-leb 3 (kind_strength q) l)) (sym r-is ∙ not-true r h)

        own : (x : Text) → kind_of u ≡ extension x → same u (bytes "/") ≡ false → soft_best u k root ≡ stem_best us (kind_of u)
        own x i d =
            soft_line u us root d k P.line
            ∙ ap (λ (z : ℕ). cond (is_firm_in z) z (cond (ltb (index_of u us) (length us)) (2 * (index_of u us + 1)) z)) P.root_is
            ∙ sym (extension_by_root us u x i)

        go : (q : PatternKind) → kind_of u ≡ q → Shape u q → soft_best u k root ≡ stem_best us (kind_of u)
        go (exact q) i d = absurd (soft (exact q) i (omega arith))
        go (prefix q) i d = absurd (soft (prefix q) i (omega arith))
        go (extension x) i d = own x i (not_so (same u (bytes "/")) (λ b. starred x (sym (same_equal u (bytes "/") b) ∙ d.0)))
          where
            starred : (x : Text) → bytes "/" ≡ bytes "*." ++ x → ⊥
            starred x b = let z : ◌≡◌ {A = ℕ} 47 42 = ap (λ (y : Text). get_or y 0 0) b in omega arith
        go default i d = let b : same u (bytes "/") ≡ true = rw d (same_self (bytes "/")) in sym (soft_default u root b k) ∙ P.root_is ∙ ap (stem_best us) (sym i)
        go unpermitted i d = absurd (never false (rw i at P.permitted) refl)

    module _ (h : not r ≡ false) where
      firm : 3 ≤ kind_strength (kind_of u)
      unfolding is_firm_text
      firm = leb-true 3 (kind_strength (kind_of u)) (sym r-is ∙ not-false r h)

      pub firm_text : is_firm_text u ≡ true
      firm_text = sym r-is ∙ not-false r h

      -- it is none of the lines
      pub own_none : k ≡ None → Lacking v u
      own_none e = record { proper = P.proper; lacks = lost_among u us (sym e ∙ P.line) }

      -- its own line
      pub own_is : (j : ℕ) → k ≡ Some j → (p : ℕ) → p ≡ 2 * (j + 1) + 1 → p ≡ stem_best us (kind_of u)
      own_is j e p z =
          let f = found_among u us j (sym e ∙ P.line) in
          let m : member u us ≡ true = sym (index_member u us) ∙ lt-ltb (index_of u us) (length us) (omega (arith, f.0, f.1)) in
          z ∙ rw f.0 (sym (own_first us P.proper.short_patterns u m firm))

-- what was found by searching
pub searched : (us : List Text) (u : Text) (x : Leading) (r : ℕ) → x ≡ leading_by (stem_strength (kind_of u)) us → r ≡ best_number x → r ≡ stem_best us (kind_of u)
unfolding stem_best
searched us u x r e q = q ∙ ap best_number e

pub searched_last : (us : List Text) (x : Leading) (r : ℕ) → x ≡ leading_by (stem_strength (prefix [])) us → r ≡ best_number x → r ≡ stem_best us default
unfolding stem_best stem_strength
searched_last us x r e q = q ∙ ap best_number (e ∙ by_same (stem_strength (prefix [])) (stem_strength default) (λ u. refl) us)

-- ---- whether a text stands before
index_take : (t : Text) (us : List Text) (j : ℕ) → j ≤ length us → ltb (index_of t us) j ≡ member t (take j us)
unfolding index_of member
index_take t us zero h = le-ltb (index_of t us) 0 (omega arith)
index_take t [] (suc j) h = absurd (omega arith)
index_take t (u ∷ us) (suc j) h = go (same u t) (index_take t us j (omega arith))
  where
    go : (b : Bool) → ltb (index_of t us) j ≡ member t (take j us) → ltb (cond b 0 (suc (index_of t us))) (suc j) ≡ (b || member t (take j us))
    go true e = leb-suc-suc 0 j ∙ leb-zero j
    go false e = leb-suc-suc (suc (index_of t us)) j ∙ e

index_past : (t : Text) (us vs : List Text) → length us ≤ index_of t us → index_of t (us ++ vs) ≡ length us + index_of t vs
unfolding index_of
index_past t [] vs h = omega arith
index_past t (u ∷ us) vs h = go (same u t) h (index_past t us vs)
  where
    go : (b : Bool) → suc (length us) ≤ cond b 0 (suc (index_of t us)) → (length us ≤ index_of t us → index_of t (us ++ vs) ≡ length us + index_of t vs)
        → cond b 0 (suc (index_of t (us ++ vs))) ≡ suc (length us) + index_of t vs
    go true h again = absurd (omega arith)
    go false h again = let z = again (omega arith) in omega arith

-- ---- where a text stands, by the number of its first line
-- two of some texts are the same exactly where their first lines are
pub firsts_same : (ts : List Text) (t u : Text) → index_of t ts < length ts → index_of u ts < length ts → eqb (index_of t ts) (index_of u ts) ≡ same t u
firsts_same ts t u h l = go (same t u) refl
  where
    go : (b : Bool) → same t u ≡ b → eqb (index_of t ts) (index_of u ts) ≡ b
    go true e = eq-eqb (index_of t ts) (index_of u ts) (ap (λ (v : Text). index_of v ts) (same_equal t u e))
    go false e = ne_eqb (index_of t ts) (index_of u ts) (λ q.
        let z : t ≡ u = sym (index_here t ts h) ∙ ap (λ (i : ℕ). get_or ts i []) q ∙ index_here u ts l in
        never (same t u) (rw z (same_self u)) e)

-- a line is among them
pub among_lines : (ts : List Text) (i : ℕ) → i < length ts → index_of (get_or ts i []) ts < length ts
among_lines ts i h = ltb-true (index_of (get_or ts i []) ts) (length ts) (index_member (get_or ts i []) ts ∙ member_at ts i h)

module _ (old new : View) (fs : List ℕ) (text : Text) (f : ℕ) (S : Spottable old new fs text f) where
  abbrev ns : List Text
  ns = texts new

  abbrev os : List Text
  os = texts old

  module _ (n : ℕ) (n-is : n ≡ length ns) (x : ℕ) (x-is : x ≡ f) where
    pub spot_fits : n + 128 ≤ length fs
    spot_fits = omega (arith, S.news.few_patterns, S.size)

    -- old has it alone
    pub spot_old : n ≤ x → SpotIs os ns text (record { in_old = Some (x - n); in_new = None })
    spot_old h =
        let z : length ns ≤ index_of text ns = go (dec_lt (index_of text ns) (length ns)) in
        let p = index_past text ns os z in
        record {
          in_old_lem = among_some text os (x - n) (omega (arith, S.first)) (omega (arith, S.first, S.among, length-append ns os));
          in_new_lem = among_none text ns z;
        }
      where
        go : Dec (index_of text ns < length ns) → length ns ≤ index_of text ns
        go (yes l) = absurd (omega (arith, index_front text ns os l, S.first))
        go (no l) = omega arith

    module _ (h : x < n) where
      -- the numbers of old's lines tell
      pub spot_find : Findable old (part n (n + 128) fs) text f
      spot_find = record {
        room = omega (arith, S.olds.few_patterns, part_length n (n + 128) fs (omega arith) spot_fits);
        tells = λ k l.
            rw (part_at n (n + 128) k fs (omega (arith, S.olds.few_patterns)), n-is, S.lines (omega arith) k l, S.first)
            (firsts_same (ns ++ os) (get_or os k []) text (old_among k l) S.among);
      }
        where
          old_among : (k : ℕ) → k < length os → index_of (get_or os k []) (ns ++ os) < length (ns ++ os)
          old_among k l = rw (← get_or-append-add ns os k []) (among_lines (ns ++ os) (length ns + k) (omega (arith, length-append ns os)))

      pub spot_new : (k : Option ℕ) → k ≡ line_among text os → SpotIs os ns text (record { in_old = k; in_new = Some x })
      spot_new k e = record { in_old_lem = e; in_new_lem = among_some text ns x (go (dec_lt (index_of text ns) (length ns))) (omega arith) }
        where
          go : Dec (index_of text ns < length ns) → x ≡ index_of text ns
          go (yes l) = x-is ∙ S.first ∙ index_front text ns os l
          go (no l) = absurd (omega (arith, index_past text ns os (omega arith), S.first))

-- ---- the stem of a fresh text
module _ (old new : View) (text : Text) (spot : Spot) (last : Stem) (F : Fresh old new text spot last) where
  pub fresh_old : BestSought old text spot.in_old last.in_old
  unfolding last_stem
  fresh_old = record { proper = F.olds; permitted = F.permitted; line = F.spot_is.in_old_lem; root_is = ap (λ (x : Stem). x.in_old) F.last_is }

  pub fresh_new : BestSought new text spot.in_new last.in_new
  unfolding last_stem
  fresh_new = record { proper = F.news; permitted = F.permitted; line = F.spot_is.in_new_lem; root_is = ap (λ (x : Stem). x.in_new) F.last_is }

pub fresh_is : (os ns : List Text) (t : Text) (x y z : ℕ) → x ≡ sort_of (kind_of t) → y ≡ stem_best os (kind_of t) → z ≡ stem_best ns (kind_of t) → FreshIs os ns t (record { sort = x; in_old = y; in_new = z })
fresh_is os ns t x y z p q r = record { sort = p; in_old_lem = q; in_new_lem = r }

-- the texts of both are permitted
permitted_in : (v : View) → ProperView v → (i : ℕ) → i < length (texts v) → is_permitted (kind_of (get_or (texts v) i [])) ≡ true
permitted_in v P i h = let ts : List Text = texts v in pattern_permitted (get_or ts i []) (P.good_patterns (get_or ts i []) (at_listed ts i h))

pub permitted_at : (old new : View) → ProperView old → ProperView new → (t : Text) (j : ℕ) → j < length (texts new ++ texts old) → t ≡ get_or (texts new ++ texts old) j []
    → is_permitted (kind_of t) ≡ true
permitted_at old new P Q t j h e = go (dec_lt j (length us))
  where
    us : List Text
    us = texts new

    vs : List Text
    vs = texts old

    go : Dec (j < length us) → is_permitted (kind_of t) ≡ true
    go (yes l) = ap (λ (u : Text). is_permitted (kind_of u)) (e ∙ get_or-append us vs [] j l) ∙ permitted_in new Q j l
    go (no l) =
        let q : length us + (j - length us) ≡ j = omega arith in
        let z : get_or (us ++ vs) j [] ≡ get_or vs (j - length us) [] = ap (λ (i : ℕ). get_or (us ++ vs) i []) (sym q) ∙ get_or-append-add us vs (j - length us) [] in
        ap (λ (u : Text). is_permitted (kind_of u)) (e ∙ z) ∙ permitted_in old P (j - length us) (omega (arith, length-append us vs))

-- ---- the stem of line j
module _ (old new : View) (fs : List ℕ) (last : Stem) (j : ℕ) (S : Stemmable old new fs last j) where
  abbrev bs : List Text
  bs = texts new ++ texts old

  pub stem_there : j < length fs
  stem_there = omega (arith, S.few, S.size)

  module _ (f : ℕ) (f-is : f ≡ get_or fs j 0) where
    first_is : f ≡ index_of (get_or bs j []) bs
    first_is = f-is ∙ S.firsts j (omega arith) S.inside

    before_is : member (get_or bs j []) (take j bs) ≡ ltb f j
    before_is = sym (index_take (get_or bs j []) bs j (omega (arith, S.inside))) ∙ ap (λ (i : ℕ). ltb i j) (sym first_is)

    -- the same text stands before
    pub stem_again : f < j → StemOf (texts old) (texts new) j (record { sort = 0; in_old = 0; in_new = 0 })
    stem_again h =
        let b : member (get_or bs j []) (take j bs) ≡ true = before_is ∙ lt-ltb f j (omega arith) in
        record { sort = rw b; in_old_lem = λ c. absurd (never (member (get_or bs j []) (take j bs)) b c); in_new_lem = λ c. absurd (never (member (get_or bs j []) (take j bs)) b c) }

    module _ (h : j ≤ f) (text : Text) (text_is : text ≡ get_or bs j []) where
      pub stem_spot : Spottable old new fs text f
      stem_spot = record {
        olds = S.olds;
        news = S.news;
        size = S.size;
        first = first_is ∙ ap (λ (t : Text). index_of t bs) (sym text_is);
        among = rw text_is (among_lines bs j S.inside);
        lines = λ l k m.
            S.firsts (length (texts new) + k) (omega arith) (omega (arith, length-append (texts new) (texts old)))
            ∙ ap (λ (t : Text). index_of t bs) (get_or-append-add (texts new) (texts old) k []);
      }

      pub stem_fresh : (spot : Spot) → SpotIs (texts old) (texts new) text spot → Fresh old new text spot last
      stem_fresh spot P = record { olds = S.olds; news = S.news; permitted = permitted_at old new S.olds S.news text j S.inside text_is; spot_is = P; last_is = S.last_is }

      pub stem_new : (y : Stem) → FreshIs (texts old) (texts new) text y → StemOf (texts old) (texts new) j y
      stem_new y F =
          let b : member (get_or bs j []) (take j bs) ≡ false = before_is ∙ le-ltb f j (omega arith) in
          record { sort = rw (b, ← text_is) F.sort; in_old_lem = λ c. rw (← text_is) F.in_old_lem; in_new_lem = λ c. rw (← text_is) F.in_new_lem }
