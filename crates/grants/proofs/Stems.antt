-- The best line of a stem, said from the pattern texts alone, is the one of its trial path, and so with an extension behind a prefix.
use mathlib.Core.Path.{◌≡◌, refl, sym, ap, ap₂, ◌∙◌}
use mathlib.Core.Bool.{Bool, true, false, cond}
use mathlib.Core.List.{List, [], ◌∷◌, ◌++◌, append-nil, Memᴰ}
use mathlib.Core.Logic.{◌⊎◌, inl, inr}
use Prim.Native.Nat.{ℕ, ◌+◌, ◌*◌, ◌/◌, ◌%◌, ◌≤◌, ◌<◌}
use native.Mathlib.Omega.{arith}
use lib.ListN.{length}
use lib.Dec.{eqb, ltb, leb}
use borrow.Author.Tests.{le-leb, lt-leb, leb-true, eq-eqb, ne_eqb, eqb-true}
use Rattle.text.specs.Texts.{Text, bytes, slash, dot, same, has, starts_with, run}
use Rattle.names.specs.Patterns.{PatternKind, exact, prefix, extension, default, unpermitted, kind_of, is_permitted, Shape}
use Rattle.text.proofs.Truths.{never}
use Rattle.names.proofs.Plainly.{shape}
use Rattle.decisions.specs.Matching.{is_under, kind_matches}
use Rattle.matching.specs.Strengths.{kind_strength, strength, start_leading, lead_by, lead, leading}
use Rattle.matching.specs.declared.Leading.{Leading}
use Rattle.trials.specs.Trials.{below, dotted}
use Rattle.grants.specs.Sides.{line_number, is_firm}
use Rattle.grants.specs.Scratch.{best_number, line_in, is_firm_in, staying, below_strength, end_strength, stem_strength, leading_by, stem_best, stem_path}
use Rattle.trials.proofs.Insides.{starts_itself}
use Rattle.trials.proofs.Unders.{under_trans, under_root}
use Rattle.trials.proofs.Endings.{extension_bytes, plain_none, dotted_tail, dotted_one}
use Rattle.trials.specs.Fillers.{Filler}
use Rattle.trials.proofs.StandIns.{exact_fails, prefix_above}
use Rattle.grants.proofs.OwnStems.{by_more, by_less}

-- ---- a best line as a number
-- its number from 1
pub line_of_best : (z : Leading) → line_in (best_number z) ≡ line_number z
line_of_best z = go (eqb z.most 0) (leb 3 z.most)
  where
    go : (a b : Bool) → cond a 0 (2 * (z.at + 1) + cond b 1 0) / 2 ≡ cond a 0 (z.at + 1)
    go true b = refl
    go false true = omega arith
    go false false = omega arith

-- and whether it is firm
pub firm_best : (z : Leading) → is_firm_in (best_number z) ≡ is_firm z
firm_best z = go (eqb z.most 0) (leb 3 z.most) refl refl
  where
    go : (a b : Bool) → eqb z.most 0 ≡ a → leb 3 z.most ≡ b → eqb (cond a 0 (2 * (z.at + 1) + cond b 1 0) % 2) 1 ≡ b
    go true true e h = let i = eqb-true z.most 0 e in let j = leb-true 3 z.most h in absurd (omega arith)
    go true false e h = refl
    go false true e h = eq-eqb ((2 * (z.at + 1) + 1) % 2) 1 (omega arith)
    go false false e h = ne_eqb ((2 * (z.at + 1) + 0) % 2) 1 (λ q. omega arith)

-- a firm one stays
stays_firm : (v u : ℕ) → is_firm_in v ≡ true → staying v u ≡ v
stays_firm v u e = rw e

-- another gives way
stays_not : (v u : ℕ) → is_firm_in v ≡ false → staying v u ≡ u
stays_not v u e = rw e

-- ---- the texts in plain words
-- a prefix is nothing or starts with `/`
pub prefix_rooted : (t p : Text) → kind_of t ≡ prefix p → is_under [] p ≡ true
unfolding is_under starts_with
prefix_rooted t p k = let s : Shape t (prefix p) = rw k at (shape t) in go p (rw s.0 at s.1)
  where
    go : (p : Text) → starts_with (bytes "/") (p ++ bytes "/*") ≡ true → is_under [] p ≡ true
    go [] h = refl
    go (x ∷ xs) h = under_root (x ∷ xs) h

-- an extension has no `.` and no `/`
pub extension_plain : (t e : Text) → kind_of t ≡ extension e → (has dot e ≡ false) × (has slash e ≡ false)
extension_plain t e k = let s : Shape t (extension e) = rw k at (shape t) in extension_bytes e s.1

-- ---- the strength of a text at a stem
-- texts that are equally strong lead equally
led_alike : (g : Text → ℕ) (path : Text) (us : List Text) (x : Leading) → ((u : Text) → Memᴰ u us → g u ≡ strength u path)
    → run (λ (y : Leading) (u : Text). lead_by y (g u)) x us ≡ run (lead path) x us
unfolding run lead
led_alike g path [] x h = refl
led_alike g path (u ∷ us) x h =
    ap (λ (s : ℕ). run (λ (y : Leading) (v : Text). lead_by y (g v)) (lead_by x s) us) (h u (Memᴰ.head refl))
    ∙ led_alike g path us (lead_by x (strength u path)) (λ v m. h v (Memᴰ.tail m))

-- below p, with the extension e behind the filler
abbrev behind_strength : Text → Text → PatternKind → ℕ
behind_strength p e (exact q) = 0
behind_strength p e (prefix q) = cond (is_under q p) (3 + length q) 0
behind_strength p e (extension d) = cond (same e d) 2 0
behind_strength p e default = 1
behind_strength p e unpermitted = 0

module _ (f : Text) (ts : List Text) (F : Filler f ts) where
  starts : starts_with f f ≡ true
  starts = rw append-nil at (starts_itself f [])

  -- below p
  below_strength_lem : (p u : Text) → Memᴰ u ts → below_strength p (kind_of u) ≡ strength u (below p f)
  unfolding strength kind_matches
  below_strength_lem p u m = go (kind_of u) (shape u)
    where
      go : (k : PatternKind) → Shape u k → below_strength p k ≡ cond (kind_matches k (below p f)) (kind_strength k) 0
      go (exact q) s = rw (exact_fails f u (F.fresh u m) p f starts F.no_slash q s)
      go (prefix q) s = rw (prefix_above f u (F.fresh u m) p f starts F.no_slash q s)
      go (extension d) s = rw (plain_none d p f F.no_slash F.no_dot)
      go default s = refl
      go unpermitted s = refl

  module _ (e : Text) (no_dot : has dot e ≡ false) (no_slash : has slash e ≡ false) where
    goes : starts_with f (f ++ dot ∷ e) ≡ true
    goes = starts_itself f (dot ∷ e)

    tail : has slash (f ++ dot ∷ e) ≡ false
    tail = dotted_tail f e F.no_slash no_slash

    behind_strength_lem : (p u : Text) → Memᴰ u ts → behind_strength p e (kind_of u) ≡ strength u (dotted p f e)
    unfolding strength kind_matches
    behind_strength_lem p u m = go (kind_of u) (shape u)
      where
        go : (k : PatternKind) → Shape u k → behind_strength p e k ≡ cond (kind_matches k (dotted p f e)) (kind_strength k) 0
        go (exact q) s = rw (exact_fails f u (F.fresh u m) p (f ++ dot ∷ e) goes tail q s)
        go (prefix q) s = rw (prefix_above f u (F.fresh u m) p (f ++ dot ∷ e) goes tail q s)
        go (extension d) s = rw (dotted_one d p f e F.no_slash no_slash no_dot)
        go default s = refl
        go unpermitted s = refl

    end_strength_lem : (u : Text) → Memᴰ u ts → end_strength e (kind_of u) ≡ strength u (dotted [] f e)
    end_strength_lem u m = go (kind_of u) ∙ behind_strength_lem [] u m
      where
        go : (k : PatternKind) → end_strength e k ≡ behind_strength [] e k
        go (exact q) = refl
        go (prefix q) = refl
        go (extension d) = refl
        go default = refl
        go unpermitted = refl

  -- ---- the best line of a stem is that of its path
  abbrev BestThere : PatternKind → Type 0
  BestThere k = stem_best ts k ≡ best_number (leading ts (stem_path f k))

  stem_alike : (k : PatternKind) → ((u : Text) → Memᴰ u ts → stem_strength k u ≡ strength u (stem_path f k)) → BestThere k
  unfolding stem_best leading_by leading
  stem_alike k h = ap best_number (led_alike (stem_strength k) (stem_path f k) ts start_leading h)

  pub exact_best : (q : Text) → BestThere (exact q)
  unfolding stem_strength
  exact_best q = stem_alike (exact q) (λ u m. refl)

  pub prefix_best : (p : Text) → BestThere (prefix p)
  unfolding stem_strength
  prefix_best p = stem_alike (prefix p) (below_strength_lem p)

  pub extension_best : (e : Text) → has dot e ≡ false → has slash e ≡ false → BestThere (extension e)
  unfolding stem_strength
  extension_best e d s = stem_alike (extension e) (end_strength_lem e d s)

  -- of a default line, and of the last
  pub last_best : BestThere default
  unfolding stem_strength
  last_best = stem_alike default (below_strength_lem [])

  -- of every pattern
  pub stem_best_lem : (t : Text) → is_permitted (kind_of t) ≡ true → BestThere (kind_of t)
  stem_best_lem t h = go (kind_of t) refl h
    where
      go : (k : PatternKind) → kind_of t ≡ k → is_permitted k ≡ true → BestThere k
      go (exact q) e p = exact_best q
      go (prefix q) e p = prefix_best q
      go (extension d) e p = let s = extension_plain t d e in extension_best d s.0 s.1
      go default e p = last_best
      go unpermitted e p = absurd (never false p refl)

-- ---- an extension behind a prefix: the choice on three paths
-- a text is a prefix or exact on both of the first two, and equally strong, or on neither, and equally strong on the last two
abbrev Kept : ℕ → ℕ → ℕ → Type 0
Kept a b c = ((3 ≤ a) × (b ≡ a)) ⊎ ((a < 3) × ((b < 3) × (b ≡ c)))

-- so are the texts gone through
abbrev Near : Leading → Leading → Leading → Type 0
Near x y z = ((3 ≤ x.most) × (y ≡ x)) ⊎ ((x.most < 3) × ((y.most < 3) × ((y ≡ z) × (y.seen ≡ x.seen))))

-- the strength of the one or of the other leads
one_leads : (P : ℕ → Type 0) (x : Leading) (s : ℕ) → P x.most → P s → P (lead_by x s).most
one_leads P x s p q = go (ltb x.most s)
  where
    go : (b : Bool) → P (cond b s x.most)
    go true = q
    go false = p

-- what is as strong as a firm one is firm
still_firm : {x y : Leading} → x ≡ y → 3 ≤ y.most → 3 ≤ x.most
still_firm e h = rw e h

-- one text more
near_more : (x y z : Leading) (a b c : ℕ) → Near x y z → Kept a b c → Near (lead_by x a) (lead_by y b) (lead_by z c)
near_more x y z a b c (inl n) (inl k) = inl (one_leads (λ s. 3 ≤ s) x a n.0 k.0, ap₂ lead_by n.1 k.1)
near_more x y z a b c (inl n) (inr k) =
    inl (still_firm (by_less x a (omega arith)) n.0, ap (λ (v : Leading). lead_by v b) n.1 ∙ by_less x b (omega arith) ∙ sym (by_less x a (omega arith)))
near_more x y z a b c (inr n) (inl k) =
    inl (still_firm (by_more x a (omega arith)) k.0, by_more y b (omega arith) ∙ rw (n.1.1.1, k.1) (sym (by_more x a (omega arith))))
near_more x y z a b c (inr n) (inr k) =
    inr (one_leads (λ s. s < 3) x a n.0 k.0, (one_leads (λ s. s < 3) y b n.1.0 k.1.0, (ap₂ lead_by n.1.1.0 k.1.1, ap (λ (s : ℕ). s + 1) n.1.1.1)))

-- all texts
near_all : (u v w : Text) (ts : List Text) (x y z : Leading) → Near x y z
    → ((t : Text) → Memᴰ t ts → Kept (strength t u) (strength t v) (strength t w))
    → Near (run (lead u) x ts) (run (lead v) y ts) (run (lead w) z ts)
unfolding run lead
near_all u v w [] x y z n k = n
near_all u v w (t ∷ ts) x y z n k =
    near_all u v w ts (lead u x t) (lead v y t) (lead w z t)
    (near_more x y z (strength t u) (strength t v) (strength t w) n (k t (Memᴰ.head refl)))
    (λ s m. k s (Memᴰ.tail m))

module _ (f : Text) (ts : List Text) (F : Filler f ts) (p e : Text) (root : is_under [] p ≡ true) (no_dot : has dot e ≡ false) (no_slash : has slash e ≡ false) where
  kept_text : (t : Text) → Memᴰ t ts → Kept (strength t (below p f)) (strength t (dotted p f e)) (strength t (dotted [] f e))
  kept_text t m = rw (← below_strength_lem f ts F p t m, ← behind_strength_lem f ts F e no_dot no_slash p t m, ← behind_strength_lem f ts F e no_dot no_slash [] t m) (go (kind_of t))
    where
      low : (n : ℕ) → n < 3 → Kept n n n
      low n h = inr (h, (h, refl))

      under : (q : Text) (b c : Bool) → is_under q p ≡ b → is_under q [] ≡ c → Kept (cond b (3 + length q) 0) (cond b (3 + length q) 0) (cond c (3 + length q) 0)
      under q true c i j = inl (omega arith, refl)
      under q false true i j = absurd (never (is_under q p) (under_trans q [] p j root) i)
      under q false false i j = low 0 (omega arith)

      ended : (b : Bool) → Kept 0 (cond b 2 0) (cond b 2 0)
      ended true = inr (omega arith, (omega arith, refl))
      ended false = low 0 (omega arith)

      go : (k : PatternKind) → Kept (below_strength p k) (behind_strength p e k) (behind_strength [] e k)
      go (exact q) = low 0 (omega arith)
      go (prefix q) = under q (is_under q p) (is_under q []) refl refl
      go (extension d) = ended (same e d)
      go default = low 1 (omega arith)
      go unpermitted = low 0 (omega arith)

  near : Near (leading ts (below p f)) (leading ts (dotted p f e)) (leading ts (dotted [] f e))
  unfolding leading
  near = near_all (below p f) (dotted p f e) (dotted [] f e) ts start_leading start_leading start_leading (inr (omega arith, (omega arith, (refl, refl)))) kept_text

  -- where the prefix's best line is firm it stays, and else it is that of the extension
  near_stays : (x y z : Leading) → Near x y z → staying (best_number x) (best_number z) ≡ best_number y
  near_stays x y z (inl n) = stays_firm (best_number x) (best_number z) (firm_best x ∙ le-leb 3 x.most n.0) ∙ ap best_number (sym n.1)
  near_stays x y z (inr n) = stays_not (best_number x) (best_number z) (firm_best x ∙ lt-leb 3 x.most n.0) ∙ ap best_number (sym n.1.1.0)

  pub behind_best : staying (stem_best ts (prefix p)) (stem_best ts (extension e)) ≡ best_number (leading ts (dotted p f e))
  behind_best =
      ap₂ staying (prefix_best f ts F p) (extension_best f ts F e no_dot no_slash)
      ∙ near_stays (leading ts (below p f)) (leading ts (dotted p f e)) (leading ts (dotted [] f e)) near
