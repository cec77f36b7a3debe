-- No extension behind a stem shows where all of them together do not.
use mathlib.Core.Path.{◌≡◌, refl, sym, ap, subst}
use mathlib.Core.Bool.{Bool, true, false, cond}
use mathlib.Core.List.{List}
use Prim.Native.Nat.{ℕ, zero, suc, ◌+◌, ◌≤◌, ◌<◌}
use native.Mathlib.Omega.{arith}
use lib.ListN.{get_or}
use lib.Dec.{eqb}
use lib.Count.{count_trailing_zeros}
use borrow.Author.Tests.{eqb-true, eq-eqb}
use Rattle.std.specs.Prelude.{Option, Some, None}
use Rattle.grants.specs.Sides.{everyone, PairsFit}
use Rattle.grants.specs.Catches.{fresh_in, some_catch, caught_from, caught_in}
use Rattle.grants.specs.Scratch.{old_side, new_side, pairs_in, best_in_old, best_in_new, sort_at, line_in, is_firm_in, staying, Walkable}
use Rattle.grants.specs.declared.scratch.Counts.{Counts}
use Rattle.grants.specs.declared.judging.Catch.{Catch}
use Rattle.grants.proofs.Granting.{roster_small}
use Rattle.walks.specs.Gathers.{old_roster, new_roster, RosterWithin, Gathered, AtStem, caught_together}
use Rattle.walks.specs.Walks.{some_hit, caught_at, caught_behind, behind_from, behind}
use Rattle.walks.proofs.Withins.{within_self, nothing_within}

-- who is caught is not nobody
caught_some : {A : Type 0} (m d : ℕ) → some_catch m d ≡ None → A
caught_some m d e = absurd (let z : ◌≡◌ {A = ℕ} 1 0 = ap number e in omega arith)
  where
    number : Option Catch → ℕ
    number None = 0
    number (Some y) = 1

-- ---- rosters within rosters
module _ (s r o n pairs : List ℕ) (count : ℕ) (fit : PairsFit pairs count)
    (small : (m : ℕ) → m < 32 → get_or s m 0 ≤ everyone) (small' : (m : ℕ) → m < 32 → get_or r m 0 ≤ everyone)
    (outer : RosterWithin o s) (inner : RosterWithin r n) where
  -- no method has a fresh caller
  fresh_none : (i : ℕ) → i < count → fresh_in o n pairs i ≡ 0 → fresh_in s r pairs i ≡ 0
  fresh_none i h e =
      let p : get_or pairs i 0 < 32 = (fit i h).0 in
      let q : get_or pairs (64 + i) 0 < 32 = (fit i h).1 in
      nothing_within (get_or r (get_or pairs (64 + i) 0) 0) (get_or s (get_or pairs i 0) 0) (get_or n (get_or pairs (64 + i) 0) 0) (get_or o (get_or pairs i 0) 0)
      (small' (get_or pairs (64 + i) 0) q) (small (get_or pairs i 0) p) (inner (get_or pairs (64 + i) 0) q) (outer (get_or pairs i 0) p) e

  -- so nobody is caught
  caught_none : (k i : ℕ) → k + i ≤ count → caught_from o n pairs k i ≡ None → caught_from s r pairs k i ≡ None
  unfolding caught_from
  caught_none zero i h e = refl
  caught_none (suc k) i h e = go (eqb (fresh_in o n pairs i) 0) refl e (caught_none k (i + 1) (omega arith))
    where
      go : (b : Bool) → eqb (fresh_in o n pairs i) 0 ≡ b → cond b (caught_from o n pairs k (i + 1)) (some_catch i (count_trailing_zeros 64 (fresh_in o n pairs i))) ≡ None
          → (caught_from o n pairs k (i + 1) ≡ None → caught_from s r pairs k (i + 1) ≡ None)
          → cond (eqb (fresh_in s r pairs i) 0) (caught_from s r pairs k (i + 1)) (some_catch i (count_trailing_zeros 64 (fresh_in s r pairs i))) ≡ None
      go true t e ih = rw (eq-eqb (fresh_in s r pairs i) 0 (fresh_none i (omega arith) (eqb-true (fresh_in o n pairs i) 0 t))) (ih e)
      go false t e ih = caught_some i (count_trailing_zeros 64 (fresh_in o n pairs i)) e

module _ (x : List ℕ) (c : Counts) (j : ℕ) (ro rn each any : List ℕ) (W : Walkable x c) (S : AtStem x c j ro rn) (G : Gathered x c each any) where
  -- with an extension behind the stem, new's roster lies within that of all extensions, and old's has what theirs have
  new_within : (i : ℕ) → i < c.old + c.new → sort_at x i ≡ 3
      → RosterWithin (new_roster x c (staying (best_in_new x j) (best_in_new x i))) (cond (is_firm_in (best_in_new x j)) rn any)
  new_within i h s = go (is_firm_in (best_in_new x j))
    where
      go : (b : Bool) → RosterWithin (new_roster x c (cond b (best_in_new x j) (best_in_new x i))) (cond b rn any)
      go true = subst (RosterWithin (new_roster x c (best_in_new x j))) (sym S.new_roster_lem) (λ m l. within_self (get_or (new_roster x c (best_in_new x j)) m 0))
      go false = G.has_new.all i h s

  old_within : (i : ℕ) → i < c.old + c.new → sort_at x i ≡ 3
      → RosterWithin (cond (is_firm_in (best_in_old x j)) ro each) (old_roster x c (staying (best_in_old x j) (best_in_old x i)))
  old_within i h s = go (is_firm_in (best_in_old x j))
    where
      go : (b : Bool) → RosterWithin (cond b ro each) (old_roster x c (cond b (best_in_old x j) (best_in_old x i)))
      go true = subst (λ (r : List ℕ). RosterWithin r (old_roster x c (best_in_old x j))) (sym S.old_roster_lem) (λ m l. within_self (get_or (old_roster x c (best_in_old x j)) m 0))
      go false = G.in_old_lem.all i h s

  module _ (e : caught_together x c j ro rn each any ≡ None) where
    -- no extension catches
    behind_caught : (i : ℕ) → i < c.old + c.new → sort_at x i ≡ 3 → caught_behind x c j i ≡ None
    unfolding caught_at caught_in caught_together
    behind_caught i h s =
        caught_none (old_roster x c (staying (best_in_old x j) (best_in_old x i))) (new_roster x c (staying (best_in_new x j) (best_in_new x i)))
        (cond (is_firm_in (best_in_old x j)) ro each) (cond (is_firm_in (best_in_new x j)) rn any) (pairs_in x) c.methods W.fits
        (roster_small (old_side x) c.old (line_in (staying (best_in_old x j) (best_in_old x i)))) (roster_small (new_side x) c.new (line_in (staying (best_in_new x j) (best_in_new x i))))
        (old_within i h s) (new_within i h s) c.methods 0 (omega arith) e

    -- so none shows
    behind_shown : (k i : ℕ) → k + i ≤ c.old + c.new → behind_from x c j k i ≡ None
    unfolding behind_from
    behind_shown zero i h = refl
    behind_shown (suc k) i h = go (eqb (sort_at x i) 3) refl (behind_shown k (i + 1) (omega arith))
      where
        go : (b : Bool) → eqb (sort_at x i) 3 ≡ b → behind_from x c j k (i + 1) ≡ None
            → cond b (elim (caught_behind x c j i) [ None ↦ behind_from x c j k (i + 1) | Some y ↦ some_hit j (Some i) y ]) (behind_from x c j k (i + 1)) ≡ None
        go true t ih = rw (behind_caught i (omega arith) (eqb-true (sort_at x i) 3 t)) ih
        go false t ih = ih

    pub together_none : behind x c j ≡ None
    together_none = behind_shown (c.old + c.new) 0 (omega arith)
