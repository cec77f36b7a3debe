-- What a hit of the walk is, whatever the scratch holds; and with the numbers of two views it is one of their trials.
use mathlib.Core.Path.{◌≡◌, refl, sym, ap, ap₂, subst, ◌∙◌}
use mathlib.Core.Bool.{Bool, true, false, cond}
use mathlib.Core.List.{List, [], ◌∷◌}
use mathlib.Core.Logic.{◌⊎◌, inl, inr}
use Prim.Native.Nat.{ℕ, zero, suc, ◌+◌, ◌≤◌, ◌<◌}
use native.Mathlib.Omega.{arith}
use lib.ListN.{length, take, get_or}
use lib.Dec.{eqb}
use lib.Count.{count_trailing_zeros}
use borrow.Author.Tests.{eqb-true, lt-ltb, le-ltb}
use Rattle.std.specs.Prelude.{Option, Some, None}
use Rattle.text.specs.Texts.{Text, dot, member}
use Rattle.names.specs.Patterns.{PatternKind, exact, prefix, extension, default, unpermitted, kind_of}
use Rattle.text.proofs.Indices.{index_bound}
use Rattle.reading.specs.Views.{View, ProperView}
use Rattle.trials.specs.Trials.{methods_tried}
use Rattle.grants.specs.Sides.{Showable, roster_in}
use Rattle.grants.specs.Catches.{fresh_in, some_catch, caught_from, caught_in}
use Rattle.grants.specs.Scratch.{old_side, new_side, pairs_in, best_in_old, best_in_new, sort_at, line_in, staying, sort_of, sorted, texts_of, Numbered, Walkable}
use Rattle.grants.specs.declared.scratch.Counts.{Counts}
use Rattle.grants.specs.declared.judging.Catch.{Catch}
use Rattle.grants.proofs.Showables.{caught_showable}
use Rattle.walks.specs.Walks.{some_hit, caught_at, caught_behind, behind_from, behind, stem_hit, walk_from, walked, kind_at, ending}
use Rattle.walks.specs.declared.walking.Hit.{Hit}
use Rattle.walks.proofs.Verdict.{all_lines}

-- ---- the numbers of two views are safe to walk over
pub walkable : (old new : View) → ProperView old → ProperView new → (x : List ℕ) (c : Counts) → Numbered old new x c → Walkable x c
walkable old new O N x c Z = record {
  size = Z.size;
  olds = omega (arith, Z.olds, O.few_patterns);
  news = omega (arith, Z.news, N.few_patterns);
  few = Z.methods.few;
  fits = λ i h. (
    omega (arith, Z.methods.olds i h, index_bound (get_or (methods_tried old.methods new.methods) i []) old.methods, O.few_methods),
    omega (arith, Z.methods.news i h, index_bound (get_or (methods_tried old.methods new.methods) i []) new.methods, N.few_methods),
  );
}

-- ---- what a hit is, whatever the numbers are
-- the trial method that is caught is below n
abbrev MethodBelow : ℕ → Option Catch → Type 0
MethodBelow n None = Unit {0}
MethodBelow n (Some y) = y.method < n

caught_from_below : (ro rn pairs : List ℕ) (k i n : ℕ) → i + k ≤ n → MethodBelow n (caught_from ro rn pairs k i)
unfolding caught_from
caught_from_below ro rn pairs zero i n h = tt
caught_from_below ro rn pairs (suc k) i n h = go (eqb (fresh_in ro rn pairs i) 0) (caught_from_below ro rn pairs k (i + 1) n (omega arith))
  where
    go : (b : Bool) → MethodBelow n (caught_from ro rn pairs k (i + 1)) → MethodBelow n (cond b (caught_from ro rn pairs k (i + 1)) (some_catch i (count_trailing_zeros 64 (fresh_in ro rn pairs i))))
    go true ih = ih
    go false ih = omega arith

caught_below : (x : List ℕ) (c : Counts) (u v : ℕ) → MethodBelow c.methods (caught_at x c u v)
unfolding caught_at caught_in
caught_below x c u v = caught_from_below (roster_in (old_side x) c.old (line_in u)) (roster_in (new_side x) c.new (line_in v)) (pairs_in x) c.methods 0 c.methods (omega arith)

-- the line whose extension stands behind a stem, counted from 1, or 0
from_one : Option ℕ → ℕ
from_one None = 0
from_one (Some i) = i + 1

-- a hit: who is caught there is caught at two best lines, and what stands behind its stem is the extension of a stem that has one
pub record HitIn (x : List ℕ) (c : Counts) (h : Hit) : Type 0 where
  pub behind : (i : ℕ) → h.ending ≡ Some i → (i < c.old + c.new) × (sort_at x i ≡ 3)
  pub method : h.caught.method < c.methods
  pub caught : (u : ℕ) × (v : ℕ) × (caught_at x c u v ≡ Some h.caught)

abbrev HitsIn : List ℕ → Counts → Option Hit → Type 0
HitsIn x c None = Unit {0}
HitsIn x c (Some h) = HitIn x c h

module _ (x : List ℕ) (c : Counts) where
  behind_in : (j k i : ℕ) → i + k ≤ c.old + c.new → HitsIn x c (behind_from x c j k i)
  unfolding behind_from from_one
  behind_in j zero i h = tt
  behind_in j (suc k) i h = go (eqb (sort_at x i) 3) refl (caught_behind x c j i) refl (caught_below x c (staying (best_in_old x j) (best_in_old x i)) (staying (best_in_new x j) (best_in_new x i))) (behind_in j k (i + 1) (omega arith))
    where
      go : (b : Bool) → eqb (sort_at x i) 3 ≡ b → (y : Option Catch) → caught_behind x c j i ≡ y → MethodBelow c.methods y → HitsIn x c (behind_from x c j k (i + 1))
          → HitsIn x c (cond b (elim y [ None ↦ behind_from x c j k (i + 1) | Some y ↦ some_hit j (Some i) y ]) (behind_from x c j k (i + 1)))
      go true e None q w ih = ih
      go true e (Some one) q w ih = record {
        behind = λ n p. let z : i + 1 ≡ n + 1 = ap from_one p in let s : i ≡ n = omega arith in (omega arith, rw (← s) (eqb-true (sort_at x i) 3 e));
        method = w;
        caught = (staying (best_in_old x j) (best_in_old x i), staying (best_in_new x j) (best_in_new x i), q);
      }
      go false e y q w ih = ih

  stem_in_lem : (j : ℕ) → HitsIn x c (stem_hit x c j)
  unfolding stem_hit from_one
  stem_in_lem j =
      go (eqb (sort_at x j) 0) (eqb (sort_at x j) 2) (caught_at x c (best_in_old x j) (best_in_new x j)) refl (caught_below x c (best_in_old x j) (best_in_new x j)) (behind_in j (c.old + c.new) 0 (omega arith))
    where
      go : (a b : Bool) (y : Option Catch) → caught_at x c (best_in_old x j) (best_in_new x j) ≡ y → MethodBelow c.methods y → HitsIn x c (behind x c j)
          → HitsIn x c (cond a None (elim y [ None ↦ cond b (behind x c j) None | Some y ↦ some_hit j None y ]))
      go true b y q w ih = tt
      go false true None q w ih = ih
      go false false None q w ih = tt
      go false b (Some one) q w ih = record { behind = λ i p. absurd (let z : 0 ≡ i + 1 = ap from_one p in omega arith); method = w; caught = (best_in_old x j, best_in_new x j, q) }

  walk_in : (k j : ℕ) → HitsIn x c (walk_from x c k j)
  unfolding walk_from
  walk_in zero j = tt
  walk_in (suc k) j = go (stem_hit x c j) (stem_in_lem j) (walk_in k (j + 1))
    where
      go : (y : Option Hit) → HitsIn x c y → HitsIn x c (walk_from x c k (j + 1)) → HitsIn x c (elim y [ None ↦ walk_from x c k (j + 1) | Some h ↦ Some h ])
      go None w ih = ih
      go (Some h) w ih = w

  -- the walk's hit is one
  hit_in : (h : Hit) → walked x c ≡ Some h → HitIn x c h
  unfolding walked
  hit_in h q = subst (HitsIn x c) q (walk_in (c.old + c.new + 1) 0)

-- ---- what the sorts say of the lines
module _ (old new : View) (x : List ℕ) (c : Counts) (Z : Numbered old new x c) (j : ℕ) (here : j < length (texts_of old new)) where
  -- a sort is that of the kind, or 0
  sort_cases : (sort_at x j ≡ 0) ⊎ (sort_at x j ≡ sort_of (kind_of (get_or (texts_of old new) j [])))
  unfolding sorted
  sort_cases = go (member (get_or (texts_of old new) j []) (take j (texts_of old new))) (Z.sorts j here)
    where
      go : (b : Bool) → sort_at x j ≡ cond b 0 (sort_of (kind_of (get_or (texts_of old new) j []))) → (sort_at x j ≡ 0) ⊎ (sort_at x j ≡ sort_of (kind_of (get_or (texts_of old new) j [])))
      go true e = inl e
      go false e = inr e

  -- 3: an extension
  pub sort_extension : sort_at x j ≡ 3 → (e : Text) × (kind_of (get_or (texts_of old new) j []) ≡ extension e)
  sort_extension s = go (kind_of (get_or (texts_of old new) j [])) refl sort_cases
    where
      go : (k : PatternKind) → kind_of (get_or (texts_of old new) j []) ≡ k → (sort_at x j ≡ 0) ⊎ (sort_at x j ≡ sort_of k) → (e : Text) × (kind_of (get_or (texts_of old new) j []) ≡ extension e)
      go k e (inl z) = absurd (omega arith)
      go (exact q) e (inr z) = absurd (omega arith)
      go (prefix p) e (inr z) = absurd (omega arith)
      go (extension d) e (inr z) = (d, e)
      go default e (inr z) = absurd (omega arith)
      go unpermitted e (inr z) = absurd (omega arith)

-- ---- the parts of a hit's path
-- the stem of a line, and the last
pub kind_line : (ts : List Text) (j : ℕ) → j < length ts → kind_at ts j ≡ kind_of (get_or ts j [])
kind_line ts j h = rw (lt-ltb j (length ts) h)

pub kind_behind : (ts : List Text) (j : ℕ) → length ts ≤ j → kind_at ts j ≡ default
kind_behind ts j h = rw (le-ltb j (length ts) h)

-- what stands behind the stem
pub ending_some : (ts : List Text) (i : ℕ) (e : Text) → i < length ts → kind_of (get_or ts i []) ≡ extension e → ending ts (Some i) ≡ dot ∷ e
ending_some ts i e h k = rw (kind_line ts i h ∙ k)

-- ---- with the numbers of two views a hit is one of their trials
module _ (old new : View) (N : ProperView new) (x : List ℕ) (c : Counts) (Z : Numbered old new x c) (h : Hit) (found : walked x c ≡ Some h) where
  -- what stands behind its stem is the extension of a line
  pub hit_behind : (i : ℕ) → h.ending ≡ Some i → (i < length (texts_of old new)) × ((t : Text) × (kind_of (get_or (texts_of old new) i []) ≡ extension t))
  hit_behind i q =
      let at = (hit_in x c h found).behind i q in
      let here : i < length (texts_of old new) = omega (arith, at.0, all_lines old new x c Z) in
      (here, sort_extension old new x c Z i here at.1)

  -- its trial method is one of them
  pub hit_method : h.caught.method < length (methods_tried old.methods new.methods)
  hit_method = omega (arith, (hit_in x c h found).method, Z.methods.all)

  -- its caller is nobody or has a role of new
  pub hit_caller : Showable new.roles h.caught.caller
  unfolding caught_at
  hit_caller =
      let at = (hit_in x c h found).caught in
      caught_showable new.roles N.few_roles old new (old_side x) (new_side x) Z.old_side_lem Z.new_side_lem (pairs_in x) (line_in at.0) (line_in at.1) h.caught c.methods
      (ap₂ (λ (o n : ℕ). caught_in (old_side x) o (new_side x) n (pairs_in x) c.methods (line_in at.0) (line_in at.1)) (sym Z.olds) (sym Z.news) ∙ at.2)
