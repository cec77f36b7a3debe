-- The extensions behind a stem, and stem after stem: laws in the shape of the code.
use mathlib.Core.Path.{◌≡◌, sym, ap, ap₂, ◌∙◌}
use mathlib.Core.Bool.{Bool, true, false, cond}
use mathlib.Core.List.{List}
use Prim.Native.Nat.{ℕ, suc, ◌+◌, ◌-◌, ◌/◌, ◌≤◌, ◌<◌}
use native.Mathlib.Omega.{arith}
use lib.ListN.{length}
use lib.Dec.{eqb}
use Rattle.std.specs.Prelude.{Option, Some, None}
use Rattle.grants.specs.Sides.{roster_in}
use Rattle.grants.specs.Catches.{caught_from, caught_in}
use Rattle.grants.specs.Scratch.{old_side, new_side, pairs_in, best_in_old, best_in_new, sort_at, line_in, is_firm_in, staying, Walkable}
use Rattle.grants.specs.declared.scratch.Counts.{Counts}
use Rattle.grants.specs.declared.judging.Catch.{Catch}
use Rattle.grants.proofs.Granting.{roster_size}
use Rattle.walks.specs.Gathers.{old_roster, new_roster, Gathered, AtStem, caught_together}
use Rattle.walks.specs.Walks.{some_hit, caught_at, caught_behind, behind_from, behind, stem_hit, walk_from, walked}
use Rattle.walks.specs.declared.walking.Hit.{Hit}
use Rattle.walks.proofs.Together.{together_none}

-- ---- the line with an extension behind a stem
module _ (v u : ℕ) (b : Bool) (e : b ≡ is_firm_in v) where
  -- the stem's
  pub line_stays : b ≡ true → v / 2 ≡ line_in (staying v u)
  line_stays t = rw (sym e ∙ t)

  -- the extension's
  pub line_yields : b ≡ false → u / 2 ≡ line_in (staying v u)
  line_yields t = rw (sym e ∙ t)

-- both are judged
pub behind_judged : (x : List ℕ) (c : Counts) (j i a b u u' v v' : ℕ) (r : Option Catch) → u ≡ best_in_old x j → u' ≡ best_in_old x i → a ≡ line_in (staying u u')
    → v ≡ best_in_new x j → v' ≡ best_in_new x i → b ≡ line_in (staying v v')
    → r ≡ caught_in (old_side x) c.old (new_side x) c.new (pairs_in x) c.methods a b → r ≡ caught_behind x c j i
unfolding caught_at
behind_judged x c j i a b u u' v v' r p p' f q q' g e =
    e
    ∙ ap₂ (caught_in (old_side x) c.old (new_side x) c.new (pairs_in x) c.methods)
    (f ∙ ap₂ (λ (y z : ℕ). line_in (staying y z)) p p') (g ∙ ap₂ (λ (y z : ℕ). line_in (staying y z)) q q')

-- ---- the extensions behind a stem
-- those from i on are still to be tried
pub record Going (x : List ℕ) (c : Counts) (j i : ℕ) : Type 0 where
  pub within : i ≤ c.old + c.new
  pub due : behind x c j ≡ behind_from x c j ((c.old + c.new) - i) i

module _ (x : List ℕ) (c : Counts) (j : ℕ) where
  module _ (i : ℕ) (G : Going x c j i) where
    -- one stem more
    going_step : (b : Bool) → i < c.old + c.new → b ≡ eqb (sort_at x i) 3
        → behind x c j
        ≡ cond b
        (elim (caught_behind x c j i) [ None ↦ behind_from x c j ((c.old + c.new) - (i + 1)) (i + 1) | Some y ↦ some_hit j (Some i) y ])
        (behind_from x c j ((c.old + c.new) - (i + 1)) (i + 1))
    unfolding behind_from
    going_step b h e =
        let k : (c.old + c.new) - i ≡ suc ((c.old + c.new) - (i + 1)) = omega arith in
        G.due ∙ ap (λ (k : ℕ). behind_from x c j k i) k ∙ rw e

    module _ (b : Bool) (count : ℕ) (all : count ≡ c.old + c.new) (h : i < count) (e : b ≡ eqb (sort_at x i) 3) where
      -- its extension shows
      pub going_found : (y : Catch) (r : Option Catch) → b ≡ true → r ≡ caught_behind x c j i → r ≡ Some y → some_hit j (Some i) y ≡ behind x c j
      going_found y r t p q = sym (going_step b (omega arith) e ∙ rw (t, sym p ∙ q))

      -- it does not
      pub going_on : (r : Option Catch) → b ≡ true → r ≡ caught_behind x c j i → r ≡ None → Going x c j (i + 1)
      going_on r t p q = record { within = omega arith; due = going_step b (omega arith) e ∙ rw (t, sym p ∙ q) }

      -- it has none
      pub going_past : b ≡ false → Going x c j (i + 1)
      going_past t = record { within = omega arith; due = going_step b (omega arith) e ∙ rw t }

    -- none is left
    pub going_end : (count : ℕ) → count ≡ c.old + c.new → count ≤ i → None ≡ behind x c j
    unfolding behind_from
    going_end count all h =
        let k : (c.old + c.new) - i ≡ 0 = omega arith in
        sym (G.due ∙ ap (λ (k : ℕ). behind_from x c j k i) k)

-- ---- all of them together
-- a roster of a stem, or of all
pub picked_size : (b : Bool) (own all roster : List ℕ) → length own ≡ 32 → length all ≡ 32 → roster ≡ cond b own all → length roster ≡ 32
picked_size b own all roster p q e = ap length e ∙ go b
  where
    go : (b : Bool) → length (cond b own all) ≡ 32
    go true = p
    go false = q

module _ (x : List ℕ) (c : Counts) (j : ℕ) (ro rn : List ℕ) (S : AtStem x c j ro rn) where
  -- the rosters of a stem have a set for each method
  pub stem_old_size : length ro ≡ 32
  stem_old_size = roster_size (old_side x) c.old (line_in (best_in_old x j)) ro S.old_roster_lem

  pub stem_new_size : length rn ≡ 32
  stem_new_size = roster_size (new_side x) c.new (line_in (best_in_new x j)) rn S.new_roster_lem

-- the rosters that were picked are judged
pub together_judged : (x : List ℕ) (c : Counts) (j u v : ℕ) (ro rn each any o n : List ℕ) (f g : Bool) (r : Option Catch) → u ≡ best_in_old x j → f ≡ is_firm_in u → o ≡ cond f ro each
    → v ≡ best_in_new x j → g ≡ is_firm_in v → n ≡ cond g rn any → r ≡ caught_from o n (pairs_in x) c.methods 0 → r ≡ caught_together x c j ro rn each any
unfolding caught_together
together_judged x c j u v ro rn each any o n f g r p f' o' q g' n' e =
    e
    ∙ ap₂ (λ (y z : List ℕ). caught_from y z (pairs_in x) c.methods 0) (o' ∙ ap (λ (b : Bool). cond b ro each) (f' ∙ ap is_firm_in p))
    (n' ∙ ap (λ (b : Bool). cond b rn any) (g' ∙ ap is_firm_in q))

-- ---- what a stem shows
module _ (x : List ℕ) (c : Counts) (j : ℕ) (ro rn : List ℕ) (S : AtStem x c j ro rn) (first : eqb (sort_at x j) 0 ≡ false)
    (r : Option Catch) (judged : r ≡ caught_from ro rn (pairs_in x) c.methods 0) where
  -- who is caught on its path
  stem_caught : caught_at x c (best_in_old x j) (best_in_new x j) ≡ r
  unfolding caught_at caught_in
  stem_caught = sym (judged ∙ ap₂ (λ (y z : List ℕ). caught_from y z (pairs_in x) c.methods 0) S.old_roster_lem S.new_roster_lem)

  -- its path shows
  pub stem_found : (y : Catch) → r ≡ Some y → some_hit j None y ≡ stem_hit x c j
  unfolding stem_hit
  stem_found y e = rw (first, stem_caught, e)

  module _ (none : r ≡ None) (b : Bool) (sort : b ≡ eqb (sort_at x j) 2) where
    -- nothing can stand behind it
    pub stem_alone : b ≡ false → None ≡ stem_hit x c j
    unfolding stem_hit
    stem_alone f = rw (first, stem_caught, none, sym sort ∙ f)

    module _ (t : b ≡ true) where
      -- what stands behind it
      pub stem_behind : (h : Option Hit) → h ≡ behind x c j → h ≡ stem_hit x c j
      unfolding stem_hit
      stem_behind h e = e ∙ rw (first, stem_caught, none, sym sort ∙ t)

      -- all extensions together do not show
      pub stem_nothing : (each any : List ℕ) (s : Option Catch) → Walkable x c → Gathered x c each any → s ≡ caught_together x c j ro rn each any → s ≡ None → None ≡ stem_hit x c j
      stem_nothing each any s W G e f = stem_behind None (sym (together_none x c j ro rn each any W S G (sym e ∙ f)))

-- ---- stem after stem
-- those from j on are still to be tried; the rosters are those of the line lo of old and of the line ln of new
pub record Ahead (x : List ℕ) (c : Counts) (ro rn : List ℕ) (lo ln j : ℕ) : Type 0 where
  pub within : j ≤ c.old + c.new + 1
  pub due : walked x c ≡ walk_from x c ((c.old + c.new + 1) - j) j
  pub old_roster_lem : ro ≡ roster_in (old_side x) c.old lo
  pub new_roster_lem : rn ≡ roster_in (new_side x) c.new ln

module _ (x : List ℕ) (c : Counts) (ro rn : List ℕ) where
  -- all of them
  pub ahead_start : ro ≡ roster_in (old_side x) c.old 0 → rn ≡ roster_in (new_side x) c.new 0 → Ahead x c ro rn 0 0 0
  unfolding walked
  ahead_start p q =
      let k : c.old + c.new + 1 ≡ (c.old + c.new + 1) - 0 = omega arith in
      record { within = omega arith; due = ap (λ (k : ℕ). walk_from x c k 0) k; old_roster_lem = p; new_roster_lem = q }

  module _ (lo ln j : ℕ) (A : Ahead x c ro rn lo ln j) where
    -- one stem more
    ahead_step : (h : Option Hit) → j < c.old + c.new + 1 → h ≡ stem_hit x c j
        → walked x c ≡ elim h [ None ↦ walk_from x c ((c.old + c.new + 1) - (j + 1)) (j + 1) | Some h ↦ Some h ]
    unfolding walk_from
    ahead_step h l e =
        let k : (c.old + c.new + 1) - j ≡ suc ((c.old + c.new + 1) - (j + 1)) = omega arith in
        A.due ∙ ap (λ (k : ℕ). walk_from x c k j) k ∙ rw e

    module _ (count : ℕ) (all : count ≡ c.old + c.new + 1) (l : j < count) where
      -- one with a text that stood before
      pub ahead_past : (b : Bool) → b ≡ eqb (sort_at x j) 0 → b ≡ true → Ahead x c ro rn lo ln (j + 1)
      unfolding stem_hit
      ahead_past b p q =
          let nothing : None ≡ stem_hit x c j = rw (sym p ∙ q) in
          record { within = omega arith; due = ahead_step None (omega arith) nothing; old_roster_lem = A.old_roster_lem; new_roster_lem = A.new_roster_lem }

      module _ (h : Option Hit) (e : h ≡ stem_hit x c j) where
        -- it shows
        pub ahead_found : (y : Hit) → h ≡ Some y → Some y ≡ walked x c
        ahead_found y f = sym (ahead_step h (omega arith) e ∙ rw f)

        -- it does not
        pub ahead_on : (u v : ℕ) (ro' rn' : List ℕ) → h ≡ None → u ≡ line_in (best_in_old x j) → v ≡ line_in (best_in_new x j)
            → ro' ≡ old_roster x c (best_in_old x j) → rn' ≡ new_roster x c (best_in_new x j) → Ahead x c ro' rn' u v (j + 1)
        ahead_on u v ro' rn' f p q p' q' =
            record {
              within = omega arith;
              due = ahead_step h (omega arith) e ∙ rw f;
              old_roster_lem = p' ∙ ap (roster_in (old_side x) c.old) (sym p);
              new_roster_lem = q' ∙ ap (roster_in (new_side x) c.new) (sym q);
            }

    -- none is left
    pub ahead_end : (count : ℕ) → count ≡ c.old + c.new + 1 → count ≤ j → None ≡ walked x c
    unfolding walk_from
    ahead_end count all h =
        let k : (c.old + c.new + 1) - j ≡ 0 = omega arith in
        sym (A.due ∙ ap (λ (k : ℕ). walk_from x c k j) k)
