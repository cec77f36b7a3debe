-- The rosters of all extensions together: laws in the shape of the code.
use mathlib.Core.Path.{◌≡◌, refl, sym, ap, ap₂, subst, ◌∙◌}
use mathlib.Core.Bool.{Bool, true, false, cond}
use mathlib.Core.List.{List}
use Prim.Native.Nat.{ℕ, zero, suc, ◌+◌, ◌≤◌, ◌<◌}
use native.Mathlib.Numerals.{add-one}
use native.Mathlib.Decide.{dec_lt}
use native.Mathlib.Omega.{arith}
use lib.ListN.{length, get_or, drop, set, replicate, length-drop}
use lib.Seq.{length-take-le}
use lib.Dec.{eqb}
use lib.Bits.{bit_and, bit_or}
use borrow.Author.Tests.{eq-eqb}
use Rattle.text.proofs.Truths.{never}
use Rattle.grants.specs.Sides.{everyone, grants_in, listed, roster_in}
use Rattle.grants.specs.Scratch.{sort_at, Walkable}
use Rattle.grants.specs.declared.scratch.Counts.{Counts}
use Rattle.grants.proofs.Stores.{Mixing, mix_start, mix_more, mixed_listed, listed_length, listed_at}
use Rattle.walks.specs.Gathers.{table_on, count_on, best_on, roster_on, joined_at, joined_by, gathered, Within, InOld, HasNew}
use Rattle.walks.specs.declared.stems.Side.{Side}
use Rattle.walks.specs.declared.stems.Side.TheVariants.{Old, New}
use Rattle.walks.proofs.Withins.{within_or, within_or_last, and_within, and_within_last}

-- ---- a side's table
module _ (x : List ℕ) (c : Counts) (W : Walkable x c) (s : Side) (table : List ℕ) (count : ℕ) (e : table ≡ table_on x s) (f : count ≡ count_on c s) where
  pub table_long : length table ≡ 512
  table_long = ap length e ∙ go s
    where
      go : (s : Side) → length (table_on x s) ≡ 512
      go Old = length-take-le 512 (drop 0 x) (omega (arith, W.size, length-drop 0 x))
      go New = length-take-le 512 (drop 512 x) (omega (arith, W.size, length-drop 512 x))

  pub lines_few : count ≤ 128
  lines_few = rw f (go s)
    where
      go : (s : Side) → count_on c s ≤ 128
      go Old = W.olds
      go New = W.news

  pub roster_on_table : (had : ℕ) (roster : List ℕ) → roster ≡ roster_in (table_on x s) (count_on c s) had → roster ≡ roster_in table count had
  roster_on_table had roster q = q ∙ ap₂ (λ (t : List ℕ) (n : ℕ). roster_in t n had) (sym e) (sym f)

-- ---- two rosters joined, method by method
module _ (op : ℕ → ℕ → ℕ) (before roster : List ℕ) where
  pub join_start : length before ≡ 32 → Mixing 32 (joined_at op before roster) before 0 before
  join_start e = mix_start 32 (joined_at op before roster) before e

  pub join_more : (m v : ℕ) (out : List ℕ) → Mixing 32 (joined_at op before roster) before m out → m < 32 → v ≡ op (get_or out m 0) (get_or roster m 0)
      → Mixing 32 (joined_at op before roster) before (m + 1) (set out m v)
  join_more m v out M h e = mix_more 32 (joined_at op before roster) before m v out M h (e ∙ ap (λ (x : ℕ). op x (get_or roster m 0)) (M.left m (omega arith)))

  pub join_all : (m : ℕ) (out : List ℕ) → Mixing 32 (joined_at op before roster) before m out → 32 ≤ m → out ≡ joined_by op before roster
  unfolding joined_by
  join_all m out M h = mixed_listed 32 m (joined_at op before roster) before out M h

  pub joined_size : length (joined_by op before roster) ≡ 32
  unfolding joined_by
  joined_size = listed_length 32 (joined_at op before roster)

  pub joined_here : (m : ℕ) → m < 32 → get_or (joined_by op before roster) m 0 ≡ op (get_or before m 0) (get_or roster m 0)
  unfolding joined_by
  joined_here m h = listed_at 32 (joined_at op before roster) m h

-- ---- the roster that is kept over the turns
module _ (side : List ℕ) (n : ℕ) where
  -- that of no line: everyone is granted
  pub roster_of_none : replicate 32 everyone ≡ roster_in side n 0
  unfolding roster_in listed grants_in
  roster_of_none = refl

  -- that of a line
  pub roster_of_line : (line l : ℕ) (roster : List ℕ) → line ≡ l → roster ≡ roster_in side n l → roster ≡ roster_in side n line
  roster_of_line line l roster p e = e ∙ ap (roster_in side n) (sym p)

-- ---- stem after stem
module _ (op : ℕ → ℕ → ℕ) (x : List ℕ) (c : Counts) (s : Side) (before : List ℕ) where
  -- none yet
  pub gather_none : before ≡ gathered op x c s 0 before
  unfolding gathered
  gather_none = refl

  module _ (k : ℕ) (all : List ℕ) (due : all ≡ gathered op x c s k before) (b : Bool) (p : b ≡ eqb (sort_at x k) 3) where
    -- one that has an extension
    pub gather_more : (roster all' : List ℕ) → b ≡ true → roster ≡ roster_on x c s (best_on x s k) → all' ≡ joined_by op all roster → all' ≡ gathered op x c s (k + 1) before
    unfolding gathered
    gather_more roster all' q r e = e ∙ ap₂ (joined_by op) due r ∙ rw (add-one k, sym p ∙ q)

    -- one that has none
    pub gather_pass : b ≡ false → all ≡ gathered op x c s (k + 1) before
    unfolding gathered
    gather_pass q = due ∙ rw (add-one k, sym p ∙ q)

  -- all
  pub gather_all : (k n : ℕ) (all : List ℕ) → all ≡ gathered op x c s k before → k ≤ n → n ≤ k → all ≡ gathered op x c s n before
  gather_all k n all due h l = due ∙ ap (λ (i : ℕ). gathered op x c s i before) (omega arith)

-- what is gathered has a set for each method
gathered_size : (op : ℕ → ℕ → ℕ) (x : List ℕ) (c : Counts) (s : Side) (k : ℕ) (before : List ℕ) → length before ≡ 32 → length (gathered op x c s k before) ≡ 32
unfolding gathered
gathered_size op x c s zero before e = e
gathered_size op x c s (suc k) before e = go (eqb (sort_at x k) 3) (gathered_size op x c s k before e)
  where
    go : (b : Bool) → length (gathered op x c s k before) ≡ 32 → length (cond b (joined_by op (gathered op x c s k before) (roster_on x c s (best_on x s k))) (gathered op x c s k before)) ≡ 32
    go true ih = joined_size op (gathered op x c s k before) (roster_on x c s (best_on x s k))
    go false ih = ih

-- ---- by a join of which each part has a relation to the whole
module _ (op : ℕ → ℕ → ℕ) (Has : ℕ → ℕ → Type 0) (last : (a p : ℕ) → Has (op a p) p) (keep : (a p q : ℕ) → Has a q → Has (op a p) q)
    (x : List ℕ) (c : Counts) (s : Side) (before : List ℕ) where
  gathered_has : (k i m : ℕ) → i < k → sort_at x i ≡ 3 → m < 32 → Has (get_or (gathered op x c s k before) m 0) (get_or (roster_on x c s (best_on x s i)) m 0)
  unfolding gathered
  gathered_has zero i m h t l = absurd (omega arith)
  gathered_has (suc k) i m h t l = go (eqb (sort_at x k) 3) refl (dec_lt i k) (λ d. gathered_has k i m d t l)
    where
      all : List ℕ
      all = gathered op x c s k before

      one : List ℕ
      one = roster_on x c s (best_on x s k)

      part : ℕ
      part = get_or (roster_on x c s (best_on x s i)) m 0

      go : (b : Bool) → eqb (sort_at x k) 3 ≡ b → Dec (i < k) → (i < k → Has (get_or all m 0) part) → Has (get_or (cond b (joined_by op all one) all) m 0) part
      go true e (yes d) ih = subst (λ (a : ℕ). Has a part) (sym (joined_here op all one m l)) (keep (get_or all m 0) (get_or one m 0) part (ih d))
      go true e (no d) ih =
          let z : k ≡ i = omega arith in
          subst (λ (a : ℕ). Has a part) (sym (joined_here op all one m l))
          (subst (λ (n : ℕ). Has (op (get_or all m 0) (get_or one m 0)) (get_or (roster_on x c s (best_on x s n)) m 0)) z (last (get_or all m 0) (get_or one m 0)))
      go false e (yes d) ih = ih d
      go false e (no d) ih = absurd (let z : k ≡ i = omega arith in never (eqb (sort_at x k) 3) (eq-eqb (sort_at x k) 3 (subst (λ (n : ℕ). sort_at x n ≡ 3) (sym z) t)) e)

-- in new
pub all_new : (x : List ℕ) (c : Counts) (n : ℕ) (before any : List ℕ) → length before ≡ 32 → any ≡ gathered bit_or x c New n before → HasNew x c n any
all_new x c n before any e q =
    rw q
    record {
      size = gathered_size bit_or x c New n before e;
      all = λ i h t m l. gathered_has bit_or (λ (a p : ℕ). Within p a) (λ a p. within_or_last p a) (λ a p q w. within_or q a p w) x c New before n i m h t l;
    }

-- in old
pub all_old : (x : List ℕ) (c : Counts) (n : ℕ) (before each : List ℕ) → length before ≡ 32 → each ≡ gathered bit_and x c Old n before → InOld x c n each
all_old x c n before each e q =
    rw q
    record {
      size = gathered_size bit_and x c Old n before e;
      all = λ i h t m l. gathered_has bit_and Within (λ a p. and_within_last a p) (λ a p q w. and_within a p q w) x c Old before n i m h t l;
    }
