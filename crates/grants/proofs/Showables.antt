-- Whoever is caught may be shown: one who is not logged in, or one with a role of new, never one who is logged in without a role. It is so of every two views, whatever they are views of: a set in a roster is
-- all callers, or those with some of the roles.
use mathlib.Core.Path.{◌≡◌, refl, ap, ap₂, subst, ◌∙◌}
use mathlib.Core.Bool.{Bool, true, false, not, cond}
use mathlib.Core.List.{List}
use mathlib.Core.Logic.{◌⊎◌, inl, inr}
use Prim.Native.Nat.{ℕ, zero, suc, ◌+◌, ◌-◌, ◌*◌, ◌/◌, ◌%◌, ◌^◌, ◌≤◌, ◌<◌}
use native.Mathlib.Nat.{pow-suc}
use native.Mathlib.Omega.{arith}
use lib.ListN.{length, get_or}
use lib.Dec.{eqb, ltb}
use lib.Bits.{bit_and, and_step, and_zero_r, and_zero_l, and_le_l, and_block, or_lt}
use lib.Count.{under, count_trailing_zeros}
use lib.Pow.{pow_mono}
use borrow.Author.Tests.{ltb-true, eqb-false}
use Rattle.text.specs.Texts.{Text}
use Rattle.text.proofs.Truths.{never}
use Rattle.entries.specs.Sets.{digit}
use Rattle.reading.specs.Views.{View, texts, access_at}
use Rattle.deciding.specs.Joinings.{nothing_joined, join_with}
use Rattle.deciding.specs.declared.joining.Joined.{Joined}
use Rattle.grants.specs.Sides.{everyone, Showable, access_roles, grantees_of, SideOf, access_from, joined_along, grants_in, listed, roster_in}
use Rattle.std.specs.Prelude.{Option, Some, None}
use Rattle.grants.specs.Catches.{fresh_in, some_catch, caught_from, caught_in}
use Rattle.grants.specs.declared.judging.Catch.{Catch}
use Rattle.grants.proofs.Grantees.{renumbered_below}

-- who is caught
caller_in : Option Catch → ℕ
caller_in None = 0
caller_in (Some c) = c.caller

is_missed : Option Catch → Bool
is_missed None = true
is_missed (Some c) = false

-- ---- what stands in a roster
-- all callers, or those with some of k roles
abbrev Grants : ℕ → ℕ → Type 0
Grants k g = (g ≡ everyone) ⊎ ((r : ℕ) × (g ≡ 4 * r) × (r < 2 ^ k))

-- nobody
grants_none : (k x : ℕ) → x < 2 ^ k → Grants k 0
grants_none k x h = inr (0, refl, omega arith)

module _ (k : ℕ) (side : List ℕ) (n : ℕ) (each : (i : ℕ) → i < n → get_or side (256 + i) 0 < 2 ^ k) (m : ℕ) where
  -- the roles that are joined
  with_below : (b : Bool) (j : Joined) (number x : ℕ) → j.roles < 2 ^ k → x < 2 ^ k → (cond b (join_with j (access_from number x)) j).roles < 2 ^ k
  with_below false j number x h l = h
  with_below true j zero x h l = h
  with_below true j (suc zero) x h l = h
  with_below true j (suc (suc number)) x h l = or_lt k j.roles x h l

  along_below : (f i : ℕ) (j : Joined) → j.roles < 2 ^ k → (joined_along f side n m i j).roles < 2 ^ k
  unfolding joined_along
  along_below zero i j h = h
  along_below (suc f) i j h = go (ltb i n) refl (along_below f (i + 1 + get_or side (384 + i) 0) next)
    where
      next : Joined
      next = cond (eqb (digit m (get_or side i 0)) 1) (join_with j (access_from (get_or side (128 + i) 0) (get_or side (256 + i) 0))) j

      go : (b : Bool) → ltb i n ≡ b → (next.roles < 2 ^ k → (joined_along f side n m (i + 1 + get_or side (384 + i) 0) next).roles < 2 ^ k)
          → (cond b (joined_along f side n m (i + 1 + get_or side (384 + i) 0) next) j).roles < 2 ^ k
      go true e ih = ih (with_below (eqb (digit m (get_or side i 0)) 1) j (get_or side (128 + i) 0) (get_or side (256 + i) 0) h (each i (ltb-true i n e)))
      go false e ih = h

  -- whom they grant
  grantees_so : (j : Joined) → j.roles < 2 ^ k → Grants k (grantees_of j)
  unfolding grantees_of
  grantees_so j h = go j.any j.closed j.free
    where
      go : (a b c : Bool) → Grants k (cond (not a) everyone (cond b 0 (cond c everyone (4 * (j.roles % 4294967296)))))
      go false b c = inl refl
      go true true c = grants_none k j.roles h
      go true false true = inl refl
      go true false false = inr (j.roles % 4294967296, refl, omega arith)

  grants_so : (a : ℕ) → 0 < 2 ^ k → Grants k (grants_in side n a m)
  unfolding grants_in
  grants_so zero h = inl refl
  grants_so (suc i) h = grantees_so (joined_along n side n m i nothing_joined) (along_below n i nothing_joined h)

listed_each : (P : ℕ → Type 0) (k : ℕ) (f : ℕ → ℕ) → P 0 → ((i : ℕ) → P (f i)) → (b : ℕ) → P (get_or (listed k f) b 0)
unfolding listed
listed_each P zero f z h b = z
listed_each P (suc k) f z h zero = h 0
listed_each P (suc k) f z h (suc b) = listed_each P k (λ i. f (suc i)) z (λ i. h (suc i)) b

-- ---- the first of those whom new's set has and old's has not
-- it is below k where the set is
trailing_below : (z k x : ℕ) → (x ≡ 0 → ⊥) → x < 2 ^ k → k ≤ z → count_trailing_zeros z x < k
unfolding count_trailing_zeros
trailing_below z zero x n h l = absurd (n (omega arith))
trailing_below zero (suc k) x n h l = absurd (omega arith)
trailing_below (suc z) (suc k) x n h l = go (x % 2) refl (λ o. trailing_below z k (x / 2) o (omega (arith, pow-suc 2 k)) (omega arith))
  where
    go : (d : ℕ) → x % 2 ≡ d → ((x / 2 ≡ 0 → ⊥) → count_trailing_zeros z (x / 2) < k) → under d (count_trailing_zeros z (x / 2)) < suc k
    go zero e ih = let q = ih (λ y. n (omega arith)) in omega arith
    go (suc d) e ih = omega arith

-- of an odd set
trailing_odd : (z x : ℕ) → x % 2 ≡ 1 → count_trailing_zeros (suc z) x ≡ 0
unfolding count_trailing_zeros
trailing_odd z x e = rw e

-- of one without the two lowest
trailing_four : (z y : ℕ) → count_trailing_zeros (suc (suc z)) (4 * y) ≡ suc (suc (count_trailing_zeros z y))
unfolding count_trailing_zeros
trailing_four z y =
    let a : 4 * y % 2 ≡ 0 = omega arith in
    let h : 4 * y / 2 ≡ 2 * y = omega arith in
    let b : 2 * y % 2 ≡ 0 = omega arith in
    let c : 2 * y / 2 ≡ y = omega arith in
    rw (a, h, b, c)

-- a set of roles and any other
and_four : (r y : ℕ) → bit_and (4 * r) y ≡ 4 * bit_and r (y / 4)
and_four r y =
    let p : 4 * r ≡ r * 2 ^ 2 + 0 = omega arith in
    let q : y ≡ y / 4 * 2 ^ 2 + y % 4 = omega arith in
    ap₂ bit_and p q ∙ and_block 2 r (y / 4) 0 (y % 4) (omega arith) (omega arith) ∙ (let e = and_zero_l (y % 4) in omega arith)

module _ (ns : List Text) (few : length ns ≤ 32) where
  abbrev k : ℕ
  k = length ns

  fresh_so : (g h : ℕ) → Grants k g → Grants k h → (bit_and g (everyone - h) ≡ 0 → ⊥) → Showable ns (count_trailing_zeros 64 (bit_and g (everyone - h)))
  fresh_so g h (inl p) (inl q) n = absurd (n (rw (p, q) (and_zero_r everyone)))
  fresh_so g h (inl p) (inr s) n =
      let small : 2 ^ k ≤ 2 ^ 32 = pow_mono {i = k} {j = 32} few in
      let odd : (everyone - h) % 2 ≡ 1 = omega (arith, s.1, s.2) in
      let z : count_trailing_zeros 64 (bit_and g (everyone - h)) ≡ 0 = trailing_odd 63 (bit_and g (everyone - h)) (rw p (parity everyone (everyone - h) refl odd)) in
      record { within = omega arith; other = λ e. omega arith }
    where
      parity : (a b : ℕ) → a % 2 ≡ 1 → b % 2 ≡ 1 → bit_and a b % 2 ≡ 1
      parity a b c d = rw (and_step a b, c, d) (omega arith)
  fresh_so g h (inr s) q n =
      let y : ℕ = (everyone - h) / 4 in
      let e : bit_and g (everyone - h) ≡ 4 * bit_and s.0 y = rw s.1 (and_four s.0 (everyone - h)) in
      let z : count_trailing_zeros 64 (bit_and g (everyone - h)) ≡ suc (suc (count_trailing_zeros 62 (bit_and s.0 y))) = ap (count_trailing_zeros 64) e ∙ trailing_four 62 (bit_and s.0 y) in
      let l = trailing_below 62 k (bit_and s.0 y) (λ o. n (omega arith)) (omega (arith, and_le_l s.0 y, s.2)) (omega arith) in
      record { within = omega arith; other = λ o. omega arith }

  module _ (v : View) (side : List ℕ) (S : SideOf ns v side) where
    -- the roles of a line are some of ns
    roles_below : (i : ℕ) → i < length (texts v) → get_or side (256 + i) 0 < 2 ^ k
    roles_below i h = rw (S.lines i h).roles (renumbered_below ns v.roles few (access_roles (access_at v i)))

    roster_so : (a b : ℕ) → Grants k (get_or (roster_in side (length (texts v)) a) b 0)
    unfolding roster_in
    roster_so a b =
        let some : 0 < 2 ^ k = set_some in
        listed_each (Grants k) 32 (grants_in side (length (texts v)) a) (grants_none k 0 some) (λ m. grants_so k side (length (texts v)) roles_below m a some) b
      where
        set_some : 0 < 2 ^ k
        set_some = let z : 2 ^ 0 ≤ 2 ^ k = pow_mono {i = 0} {j = k} (omega arith) in omega arith

  module _ (old new : View) (so sn : List ℕ) (O : SideOf ns old so) (N : SideOf ns new sn) (pairs : List ℕ) (u v : ℕ) (one : Catch) where
    from_so : (count i : ℕ) → caught_from (roster_in so (length (texts old)) u) (roster_in sn (length (texts new)) v) pairs count i ≡ Some one → Showable ns one.caller
    unfolding caught_from is_missed caller_in
    from_so zero i e = absurd (never true refl (ap is_missed e))
    from_so (suc count) i e = go (eqb (fresh_in ro rn pairs i) 0) refl (from_so count (i + 1)) e
      where
        ro : List ℕ
        ro = roster_in so (length (texts old)) u

        rn : List ℕ
        rn = roster_in sn (length (texts new)) v

        go : (b : Bool) → eqb (fresh_in ro rn pairs i) 0 ≡ b → (caught_from ro rn pairs count (i + 1) ≡ Some one → Showable ns one.caller)
            → cond b (caught_from ro rn pairs count (i + 1)) (some_catch i (count_trailing_zeros 64 (fresh_in ro rn pairs i))) ≡ Some one → Showable ns one.caller
        go true e ih q = ih q
        go false e ih q =
            subst (Showable ns) (ap caller_in q)
            (fresh_so (get_or rn (get_or pairs (64 + i) 0) 0) (get_or ro (get_or pairs i 0) 0) (roster_so new sn N v (get_or pairs (64 + i) 0)) (roster_so old so O u (get_or pairs i 0)) (eqb-false (fresh_in ro rn pairs i) 0 e))

    -- so of the best lines of a path
    pub caught_showable : (count : ℕ) → caught_in so (length (texts old)) sn (length (texts new)) pairs count u v ≡ Some one → Showable ns one.caller
    unfolding caught_in
    caught_showable count e = from_so count 0 e
