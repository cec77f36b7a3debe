-- The strongest pattern text is the best match, and its line is found by going through the texts once.
use mathlib.Core.Path.{◌≡◌, refl, sym, ap, ◌∙◌}
use mathlib.Core.Bool.{Bool, true, false, cond, ◌&&◌, ◌||◌}
use mathlib.Core.List.{List, [], ◌∷◌, ◌++◌, append-nil, Memᴰ}
use mathlib.Core.Logic.{◌↔◌, ◌⊎◌, inl, inr, ⊎_elim}
use mathlib.Core.Option.{Option, none, some, some-injective, some-ne-none, none-ne-some}
use Prim.Native.Nat.{ℕ, zero, suc, ◌+◌, ◌-◌, ◌*◌, ◌≤◌, ◌<◌}
use native.Mathlib.Omega.{arith}
use lib.ListN.{length, get_or, length-append, get_or-append}
use lib.Seq.{append_snoc, get_or_at}
use lib.Dec.{eqb, ltb}
use borrow.Author.Tests.{lt-ltb, le-ltb, ltb-true, ltb-false, eqb-true, eqb-false}
use Rattle.text.specs.Texts.{Text, bytes, run}
use Rattle.names.specs.Patterns.{PatternKind, exact, prefix, extension, default, unpermitted, kind_of, Shape}
use Rattle.text.proofs.Truths.{never}
use Rattle.names.proofs.Plainly.{shape}
use Rattle.decisions.specs.Matching.{kind_matches, matches, rank, size, is_better, best}
use Rattle.matching.specs.Strengths.{kind_strength, strength, start_leading, lead, leading, best_line}
use Rattle.matching.specs.declared.Leading.{Leading}
use Rattle.decisions.proofs.Bests.{better_plain, worse_plain, best_is, best_exactly}

-- ---- the better kind has the greater number
-- a kind's number by its rank and its size
abbrev Weighs : ℕ → ℕ → ℕ → Type 0
Weighs r z s = (r ≤ 4) × (z ≤ 253 * (r - 2)) × (z ≤ 253 * (4 - r)) × (s ≡ r + z + 996 * (r - 3))

weighs : (t : Text) → length t ≤ 255 → Weighs (rank (kind_of t)) (size (kind_of t)) (kind_strength (kind_of t))
weighs t h = go (kind_of t) (shape t)
  where
    go : (k : PatternKind) → Shape t k → Weighs (rank k) (size k) (kind_strength k)
    go (exact q) s = (omega arith, omega arith, omega arith, refl)
    go (prefix p) s =
        let l = ap length s.0 ∙ length-append p (bytes "/*") in
        (omega arith, omega arith, omega arith, omega arith)
    go (extension e) s = (omega arith, omega arith, omega arith, refl)
    go default s = (omega arith, omega arith, omega arith, refl)
    go unpermitted s = (omega arith, omega arith, omega arith, refl)

-- so numbers compare as ranks, then sizes
module _ (a b s c d r : ℕ) (v : Weighs a b s) (w : Weighs c d r) where
  less : (a < c) ⊎ ((a ≡ c) × (b < d)) → s < r
  less (inl x) = omega arith
  less (inr x) = omega arith

  not_less : (c < a) ⊎ ((a ≡ c) × (d ≤ b)) → r ≤ s
  not_less (inl x) = omega arith
  not_less (inr x) = omega arith

  compared : ltb a c || (eqb a c && ltb b d) ≡ ltb s r
  compared = go (ltb a c || (eqb a c && ltb b d)) refl
    where
      go : (x : Bool) → ltb a c || (eqb a c && ltb b d) ≡ x → x ≡ ltb s r
      go true e = sym (lt-ltb s r (less (better_plain a b c d e)))
      go false e = sym (le-ltb s r (not_less (worse_plain a b c d e)))

-- of two pattern texts the better is the one with the greater number
pub kind_strength_lem : (t u : Text) → length t ≤ 255 → length u ≤ 255 → is_better (kind_of u) (kind_of t) ≡ ltb (kind_strength (kind_of t)) (kind_strength (kind_of u))
kind_strength_lem t u h k =
    compared (rank (kind_of t)) (size (kind_of t)) (kind_strength (kind_of t)) (rank (kind_of u)) (size (kind_of u)) (kind_strength (kind_of u))
    (weighs t h) (weighs u k)

-- a text that matches has its kind's number, and one that does not has none
pub strength_match : (t path : Text) → matches t path ≡ true → strength t path ≡ kind_strength (kind_of t)
unfolding strength
strength_match t path e = rw e

pub strength_none : (t path : Text) → matches t path ≡ false → strength t path ≡ 0
unfolding strength
strength_none t path e = rw e

-- so of two that match the better is the stronger
pub strength_better : (t u path : Text) → length t ≤ 255 → length u ≤ 255 → matches t path ≡ true → matches u path ≡ true
    → is_better (kind_of u) (kind_of t) ≡ ltb (strength t path) (strength u path)
strength_better t u path h k p q = rw (strength_match t path p, strength_match u path q) (kind_strength_lem t u h k)

-- a text that matches has a number above 0
kind_some : (k : PatternKind) (path : Text) → kind_matches k path ≡ true → 0 < kind_strength k
unfolding kind_matches
kind_some (exact q) path e = omega arith
kind_some (prefix p) path e = omega arith
kind_some (extension q) path e = omega arith
kind_some default path e = omega arith
kind_some unpermitted path e = absurd (never false e refl)

pub strength_some : (t path : Text) → (matches t path ≡ true) ↔ (0 < strength t path)
strength_some t path = (λ e. rw (strength_match t path e) (kind_some (kind_of t) path e), λ h. go (matches t path) refl h)
  where
    go : (b : Bool) → matches t path ≡ b → 0 < strength t path → matches t path ≡ true
    go true e h = e
    go false e h = let z = strength_none t path e in absurd (omega arith)

-- ---- the line of the strongest
-- what is known when the texts ts are gone through
pub record Leads (ts : List Text) (path : Text) (x : Leading) : Type 0 where
  pub all_seen : x.seen ≡ length ts
  pub none_stronger : (u : Text) → Memᴰ u ts → strength u path ≤ x.most
  pub leader : 0 < x.most → (x.at < length ts) × (strength (get_or ts x.at []) path ≡ x.most)

leads_start : (path : Text) → Leads [] path start_leading
leads_start path = record { all_seen = refl; none_stronger = λ u m. absurd (mathlib.Core.List.Memᴰ.not-nil m); leader = λ h. absurd (omega arith) }

-- one text more
leads_more : (ts : List Text) (path : Text) (x : Leading) (t : Text) → Leads ts path x → Leads (ts ++ t ∷ []) path (lead path x t)
unfolding lead
leads_more ts path x t L = go (ltb x.most (strength t path)) refl
  where
    long : length (ts ++ t ∷ []) ≡ length ts + 1
    long = length-append ts (t ∷ [])

    among : (n : ℕ) → x.most ≤ n → strength t path ≤ n → (u : Text) → Memᴰ u (ts ++ t ∷ []) → strength u path ≤ n
    among n h k u m =
        ⊎_elim (λ (i : Memᴰ u ts). let l = L.none_stronger u i in omega arith) (λ (i : Memᴰ u (t ∷ [])). rw (mathlib.Core.List.Memᴰ.eq_of_singleton i) k)
        (mathlib.Core.List.Memᴰ.append_cases ts m)

    go : (b : Bool) → ltb x.most (strength t path) ≡ b
        → Leads (ts ++ t ∷ []) path (record { seen = x.seen + 1; at = cond b x.seen x.at; most = cond b (strength t path) x.most })
    go true e =
        let l = ltb-true x.most (strength t path) e in
        let s = L.all_seen in
        record {
          all_seen = omega (arith, long);
          none_stronger = among (strength t path) (omega arith) (omega arith);
          leader = λ h. (omega (arith, long), ap (λ (u : Text). strength u path) (get_or_at ts t [] [] x.seen (sym s)));
        }
    go false e =
        let l = ltb-false x.most (strength t path) e in
        let s = L.all_seen in
        record {
          all_seen = omega (arith, long);
          none_stronger = among x.most (omega arith) l;
          leader = λ h. let q = L.leader h in (omega (arith, long), ap (λ (u : Text). strength u path) (get_or-append ts (t ∷ []) [] x.at q.0) ∙ q.1);
        }

leads_run : (ts us : List Text) (path : Text) (x : Leading) → Leads ts path x → Leads (ts ++ us) path (run (lead path) x us)
unfolding run
leads_run ts [] path x L = rw (append-nil ts) L
leads_run ts (u ∷ us) path x L = rw (← append_snoc ts u us) (leads_run (ts ++ u ∷ []) us path (lead path x u) (leads_more ts path x u L))

pub leads : (ts : List Text) (path : Text) → Leads ts path (leading ts path)
unfolding leading
leads ts path = leads_run [] ts path start_leading (leads_start path)

-- a text at an index is one of them
pub at_listed : (ts : List Text) (i : ℕ) → i < length ts → Memᴰ (get_or ts i []) ts
at_listed [] i h = absurd (omega arith)
at_listed (t ∷ ts) zero h = mathlib.Core.List.Memᴰ.head refl
at_listed (t ∷ ts) (suc i) h = mathlib.Core.List.Memᴰ.tail (at_listed ts i (omega arith))

module _ (ts : List Text) (path : Text) where
  -- nothing leads where nothing matches
  none_leads : (leading ts path).most ≡ 0 → best ts path ≡ none
  none_leads e = go (best ts path) refl
    where
      go : (o : Option Text) → best ts path ≡ o → best ts path ≡ none
      go none q = q
      go (some t) q =
          let B = best_is ts path t q in
          let p = (strength_some t path).0 B.matching in
          let h = (leads ts path).none_stronger t B.listed in
          absurd (omega arith)

  -- what leads is the best
  leader_best : ((t : Text) → Memᴰ t ts → length t ≤ 255) → 0 < (leading ts path).most → best ts path ≡ some (get_or ts (leading ts path).at [])
  leader_best short h =
      (best_exactly ts path t).1 record {
        listed = at_listed ts k l.0;
        matching = matching;
        strongest = λ u m q. strength_better t u path (short t (at_listed ts k l.0)) (short u m) matching q
            ∙ le-ltb (strength t path) (strength u path) (rw l.1 ((leads ts path).none_stronger u m));
      }
    where
      k : ℕ
      k = (leading ts path).at

      t : Text
      t = get_or ts k []

      l : (k < length ts) × (strength t path ≡ (leading ts path).most)
      l = (leads ts path).leader h

      matching : matches t path ≡ true
      matching = (strength_some t path).1 (rw l.1 h)

  module _ (short : (t : Text) → Memᴰ t ts → length t ≤ 255) where
    -- there is no best line where nothing leads, and else the best line's text is the best match
    line_best : (b : Bool) → eqb (leading ts path).most 0 ≡ b → (k : ℕ) → cond b none (some (leading ts path).at) ≡ some k → best ts path ≡ some (get_or ts k [])
    line_best true e k h = absurd (none-ne-some k h)
    line_best false e k h =
        let n = eqb-false (leading ts path).most 0 e in
        rw (← some-injective (leading ts path).at k h) (leader_best short (omega arith))

    -- the text of the best line is the best match
    pub best_line_some : (k : ℕ) → best_line ts path ≡ some k → best ts path ≡ some (get_or ts k [])
    unfolding best_line
    best_line_some k h = line_best (eqb (leading ts path).most 0) refl k h

    -- and there is none exactly where there is no best match
    pub best_line_none : (best_line ts path ≡ none) ↔ (best ts path ≡ none)
    unfolding best_line
    best_line_none = (go (eqb (leading ts path).most 0) refl, λ e. back (best_line ts path) refl e)
      where
        go : (b : Bool) → eqb (leading ts path).most 0 ≡ b → cond b none (some (leading ts path).at) ≡ none → best ts path ≡ none
        go true e h = none_leads (eqb-true (leading ts path).most 0 e)
        go false e h = absurd (some-ne-none (leading ts path).at h)

        back : (o : Option ℕ) → best_line ts path ≡ o → best ts path ≡ none → best_line ts path ≡ none
        back none q e = q
        back (some k) q e = absurd (some-ne-none (get_or ts k []) (sym (best_line_some k q) ∙ e))

-- ---- as a loop meets it
-- a text that is no stronger
pub lead_past : (path : Text) (x : Leading) (t : Text) → strength t path ≤ x.most → lead path x t ≡ record { seen = x.seen + 1; at = x.at; most = x.most }
unfolding lead
lead_past path x t h = rw (le-ltb x.most (strength t path) h)

-- one that is stronger
pub lead_takes : (path : Text) (x : Leading) (t : Text) → x.most < strength t path
    → lead path x t ≡ record { seen = x.seen + 1; at = x.seen; most = strength t path }
unfolding lead
lead_takes path x t h = rw (lt-ltb x.most (strength t path) h)
