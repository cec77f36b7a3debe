-- The rosters of all extensions together. For the proofs alone.
use Rattle.std.specs.Prelude.{ℕ, zero, suc, ◌+◌, ◌<◌, ◌≤◌, ◌≡◌, cond, List, length, get_or, eqb, Option}
use Rattle.std.specs.Int.Bits.{bit_and}
use Rattle.grants.specs.Sides.{listed, roster_in}
use Rattle.grants.specs.Scratch.{old_side, new_side, pairs_in, best_in_old, best_in_new, sort_at, line_in, is_firm_in}
use Rattle.grants.specs.Catches.{caught_from}
use Rattle.grants.specs.declared.judging.Catch.{Catch}
use Rattle.grants.specs.declared.scratch.Counts.{Counts}
use Rattle.walks.specs.declared.stems.Side.{Side}
use Rattle.walks.specs.declared.stems.Side.TheVariants.{Old, New}

-- ---- the rosters where the best line is u in old, v in new
abbrev pub old_roster : List ℕ → Counts → ℕ → List ℕ
old_roster x c u = roster_in (old_side x) c.old (line_in u)

abbrev pub new_roster : List ℕ → Counts → ℕ → List ℕ
new_roster x c v = roster_in (new_side x) c.new (line_in v)

-- ---- the same by the side
abbrev pub table_on : List ℕ → Side → List ℕ
table_on x Old = old_side x
table_on x New = new_side x

abbrev pub count_on : Counts → Side → ℕ
count_on c Old = c.old
count_on c New = c.new

abbrev pub best_on : List ℕ → Side → ℕ → ℕ
best_on x Old j = best_in_old x j
best_on x New j = best_in_new x j

abbrev pub roster_on : List ℕ → Counts → Side → ℕ → List ℕ
roster_on x c s u = roster_in (table_on x s) (count_on c s) (line_in u)

-- ---- what a call hands back, by its arguments
abbrev pub Computes : (ℕ → ℕ → ℕ → Type 0) → (ℕ → ℕ → ℕ) → Type 0
Computes Post op = (a b r : ℕ) → Post a b r → r ≡ op a b

-- ---- two rosters joined, method by method: what either has by `bit_or`, what both have by `bit_and`
abbrev pub joined_at : (ℕ → ℕ → ℕ) → List ℕ → List ℕ → ℕ → ℕ
joined_at op r s m = op (get_or r m 0) (get_or s m 0)

unfoldable pub joined_by : (ℕ → ℕ → ℕ) → List ℕ → List ℕ → List ℕ
unfolding listed
joined_by op r s = listed 32 (joined_at op r s)

-- a roster joined with that of each of the first k stems that has an extension
unfoldable pub gathered : (ℕ → ℕ → ℕ) → List ℕ → Counts → Side → ℕ → List ℕ → List ℕ
unfolding joined_by
gathered op x c s zero before = before
gathered op x c s (suc k) before =
    cond (eqb (sort_at x k) 3) (joined_by op (gathered op x c s k before) (roster_on x c s (best_on x s k))) (gathered op x c s k before)

-- ---- rosters within rosters
-- what a has, b has
abbrev pub Within : ℕ → ℕ → Type 0
Within a b = bit_and a b ≡ a

-- for each method
abbrev pub RosterWithin : List ℕ → List ℕ → Type 0
RosterWithin r s = (m : ℕ) → m < 32 → Within (get_or r m 0) (get_or s m 0)

-- what the roster `each` has, old's roster has at each of the first k stems that have an extension
pub record InOld (x : List ℕ) (c : Counts) (k : ℕ) (each : List ℕ) : Type 0 where
  pub size : length each ≡ 32
  pub all : (i : ℕ) → i < k → sort_at x i ≡ 3 → RosterWithin each (old_roster x c (best_in_old x i))

-- the roster `any` has what new's roster has at each of them
pub record HasNew (x : List ℕ) (c : Counts) (k : ℕ) (any : List ℕ) : Type 0 where
  pub size : length any ≡ 32
  pub all : (i : ℕ) → i < k → sort_at x i ≡ 3 → RosterWithin (new_roster x c (best_in_new x i)) any

-- both, of all stems
pub record Gathered (x : List ℕ) (c : Counts) (each any : List ℕ) : Type 0 where
  pub in_old_lem : InOld x c (c.old + c.new) each
  pub has_new : HasNew x c (c.old + c.new) any

-- ---- the rosters at a stem
pub record AtStem (x : List ℕ) (c : Counts) (j : ℕ) (ro rn : List ℕ) : Type 0 where
  pub within : j ≤ 256
  pub old_roster_lem : ro ≡ old_roster x c (best_in_old x j)
  pub new_roster_lem : rn ≡ new_roster x c (best_in_new x j)

-- who is caught where all extensions behind stem j are taken together: by a side's own roster where it is firm, else by that of all extensions
unfoldable pub caught_together : List ℕ → Counts → ℕ → List ℕ → List ℕ → List ℕ → List ℕ → Option Catch
unfolding caught_from
caught_together x c j ro rn each any =
    caught_from (cond (is_firm_in (best_in_old x j)) ro each) (cond (is_firm_in (best_in_new x j)) rn any) (pairs_in x) c.methods 0
