-- The table of a side, line by line: laws in the shape of the code.
use mathlib.Core.Path.{◌≡◌, refl, sym, ap, ap₂, ◌∙◌}
use mathlib.Core.Bool.{Bool, true, false, ◌&&◌, ◌||◌, and-false, or-true, or-false}
use mathlib.Core.List.{List, []}
use Prim.Native.Nat.{ℕ, ◌+◌, ◌-◌, ◌*◌, ◌/◌, ◌%◌, ◌^◌, ◌≤◌, ◌<◌}
use native.Mathlib.Nat.{mod-eq_of_lt, one-mul}
use native.Mathlib.Decide.{dec_lt}
use native.Mathlib.Omega.{arith}
use lib.ListN.{length, get_or, take, drop, length-drop}
use lib.Seq.{length-take-le, get_or-drop}
use lib.Pow.{pow-lt}
use lib.Dec.{eqb, ltb}
use lib.Bits.{bit_or}
use borrow.Author.Tests.{eqb-true, lt-ltb, le-ltb, eq-eqb, ne_eqb}
use Rattle.text.specs.Texts.{Text, index_of, part}
use Rattle.entries.specs.Sets.{digit}
use Rattle.reading.specs.Views.{View, texts, cover_at, access_at, ProperView}
use Rattle.reading.specs.declared.held.Access.{Access}
use Rattle.entries.proofs.Digits.{set_same, set_none, set_with}
use Rattle.grants.specs.Sides.{LineIn, renumbered, access_number, access_roles, gap_at}
use Rattle.firsts.specs.Keeping.{Kept}
use Rattle.firsts.proofs.Keepings.{kept_then, part_at, part_length}
use Rattle.numbers.specs.Writes.{LinesWritten, Mapped, access_number_at, renumbered_by, roles_by, Plain, SideWritten}
use Rattle.numbers.specs.Gaps.{Gapable, GapsLent}
use Rattle.std.proofs.Common.{Option, ◌==◌}
use Rattle.std.specs.Option.{unwrap_or}
use Rattle.std.specs.List.{position}
use Rattle.text.proofs.Indices.{index_bound}
use Rattle.numbers.proofs.Searchings.{told}

-- ---- the numbers of a view
module _ (v : View) (P : ProperView v) where
  -- the index of a role is a small number
  pub role_small : (m : Text) (r : ℕ) → r ≡ index_of m v.roles → r < 4294967296
  role_small m r e = omega (arith, P.few_roles, index_bound m v.roles)

  -- so is a gap
  pub gap_small : (k r : ℕ) → r ≡ gap_at v k → r < 4294967296
  unfolding gap_at
  gap_small k r e =
      let ts : List Text = texts v in
      omega (arith, P.few_patterns, index_bound (get_or ts k []) (drop (k + 1) ts), length-drop (k + 1) ts)

  -- it has few roles
  pub own_few : (n : ℕ) → n ≡ length v.roles → n ≤ 32
  own_few n e = omega (arith, P.few_roles)

-- ---- one line
-- its access
pub access_is : (v : View) (k : ℕ) (a : Access) (r : ℕ) → a ≡ access_at v k → r ≡ access_number a → r ≡ access_number_at v k
unfolding access_number_at
access_is v k a r p q = q ∙ ap access_number p

-- its roles, in new's numbers
pub roles_are : (map : List ℕ) (n own : ℕ) (v : View) (k : ℕ) (a : Access) (x r : ℕ) → a ≡ access_at v k → x ≡ access_roles a → own ≡ length v.roles → r ≡ renumbered_by map n own x → r ≡ roles_by map n v k
unfolding roles_by
roles_are map n own v k a x r p q o e = e ∙ ap₂ (renumbered_by map n) o (q ∙ ap access_roles p)

-- ---- sets in other numbers
-- role j of the map is in the set x of `own` roles
abbrev is_in : List ℕ → ℕ → ℕ → ℕ → Bool
is_in map own x j = ltb (get_or map j 0) own && eqb (digit (get_or map j 0) x) 1

module _ (map : List ℕ) (own x i : ℕ) where
  -- what is below i + 1 is below i, or i
  below_next : (j : ℕ) → ltb j (i + 1) ≡ (ltb j i || eqb j i)
  below_next j = go (dec_lt j i) (dec_lt i j)
    where
      go : Dec (j < i) → Dec (i < j) → ltb j (i + 1) ≡ (ltb j i || eqb j i)
      go (yes h) d = rw (lt-ltb j i h, lt-ltb j (i + 1) (omega arith))
      go (no h) (yes l) = rw (le-ltb j i (omega arith), le-ltb j (i + 1) (omega arith), ne_eqb j i (λ e. omega arith))
      go (no h) (no l) = rw (lt-ltb j (i + 1) (omega arith), eq-eqb j i (omega arith)) (sym (or-true (ltb j i)))

  -- one that is not in it
  to_past : is_in map own x i ≡ false → renumbered_by map (i + 1) own x ≡ renumbered_by map i own x
  unfolding renumbered_by
  to_past e = set_same 32 (λ j. ltb j (i + 1) && is_in map own x j) (λ j. ltb j i && is_in map own x j) (λ j h. rw (below_next j) (go j (eqb j i) refl))
    where
      go : (j : ℕ) (b : Bool) → eqb j i ≡ b → ((ltb j i || b) && is_in map own x j) ≡ (ltb j i && is_in map own x j)
      go j true q = rw (eqb-true j i q, e, and-false (ltb i i)) (and-false (ltb i i || true))
      go j false q = rw (or-false (ltb j i))

  -- one that is
  to_with : is_in map own x i ≡ true → i < 32 → renumbered_by map (i + 1) own x ≡ bit_or (renumbered_by map i own x) (2 ^ i)
  unfolding renumbered_by
  to_with e h =
      set_same 32 (λ j. ltb j (i + 1) && is_in map own x j) (λ j. (ltb j i && is_in map own x j) || eqb j i) (λ j l. rw (below_next j) (go j (eqb j i) refl))
      ∙ sym (set_with (λ j. ltb j i && is_in map own x j) i h)
    where
      go : (j : ℕ) (b : Bool) → eqb j i ≡ b → ((ltb j i || b) && is_in map own x j) ≡ ((ltb j i && is_in map own x j) || b)
      go j true q = rw (eqb-true j i q, e, or-true (ltb i i)) (sym (or-true (ltb i i && true)))
      go j false q = rw (or-false (ltb j i)) (sym (or-false (ltb j i && is_in map own x j)))

-- the first i roles of the map are done
pub record Renumbering (map : List ℕ) (own x n i out : ℕ) : Type 0 where
  pub so_far : out ≡ renumbered_by map i own x
  pub ahead : i ≤ n

module _ (map : List ℕ) (own x n : ℕ) where
  -- none yet
  pub set_start : Renumbering map own x n 0 0
  unfolding renumbered_by
  set_start = record { so_far = sym (set_none 32 (λ j. ltb j 0 && is_in map own x j) (λ j. rw (le-ltb j 0 (omega arith)))); ahead = omega arith }

  module _ (i out : ℕ) (R : Renumbering map own x n i out) where
    module _ (h : i < n) (j : ℕ) (index : j ≡ get_or map i 0) where
      -- a role that the view hasn't
      pub set_lacks : own ≤ j → Renumbering map own x n (i + 1) out
      set_lacks l =
          let e : is_in map own x i ≡ false = rw (← index, le-ltb j own l) in
          record { so_far = R.so_far ∙ sym (to_past map own x i e); ahead = omega arith }

      module _ (l : j < own) (few : own ≤ 32) where
        small : j < 64
        small = omega arith

        -- one that it has, and that is not in the set
        pub set_misses : (x / 2 ^ (j % 64) % 2 ≡ 1 → ⊥) → Renumbering map own x n (i + 1) out
        set_misses m =
            let d : eqb (digit j x) 1 ≡ false = ne_eqb (digit j x) 1 (rw (mod-eq_of_lt small) at m) in
            let e : is_in map own x i ≡ false = rw (← index, lt-ltb j own l) d in
            record { so_far = R.so_far ∙ sym (to_past map own x i e); ahead = omega arith }

        -- one that is
        pub set_has : n ≤ 32 → x / 2 ^ (j % 64) % 2 ≡ 1 → Renumbering map own x n (i + 1) (bit_or out (1 * 2 ^ (i % 32) % 4294967296))
        set_has f m =
            let d : digit j x ≡ 1 = rw (mod-eq_of_lt small) at m in
            let e : is_in map own x i ≡ true = rw (← index, lt-ltb j own l, d) in
            let b : i < 32 = omega arith in
            record {
              so_far = rw (mod-eq_of_lt b, one-mul (2 ^ i)) (ap (bit_or out) (mod-eq_of_lt (pow-lt b)) ∙ ap (λ (y : ℕ). bit_or y (2 ^ i)) R.so_far ∙ sym (to_with map own x i e b));
              ahead = omega arith;
            }

-- by the map of the roles ns among os, a set is that in the numbers of ns
renumbered_by_lem : (ns os : List Text) (map : List ℕ) (x : ℕ) → Mapped ns os map → renumbered_by map (length ns) (length os) x ≡ renumbered ns os x
unfolding renumbered_by renumbered
renumbered_by_lem ns os map x M = set_same 32 (λ i. ltb i (length ns) && is_in map (length os) x i) (λ i. ltb i (length ns) && is_here i) (λ i h. go i (dec_lt i (length ns)))
  where
    is_here : ℕ → Bool
    is_here i = ltb (index_of (get_or ns i []) os) (length os) && eqb (digit (index_of (get_or ns i []) os) x) 1

    go : (i : ℕ) → Dec (i < length ns) → (ltb i (length ns) && is_in map (length os) x i) ≡ (ltb i (length ns) && is_here i)
    go i (yes l) = rw (M.indices i l)
    go i (no l) = rw (le-ltb i (length ns) (omega arith))

-- ---- gaps
module _ (v : View) (fs : List ℕ) (k n : ℕ) (G : Gapable v fs k) (n-is : n ≡ length (texts v)) where
  abbrev vs : List Text
  vs = texts v

  -- the first of the numbers behind it that is the same
  pub gap_told : (f : ℕ) (r : Option ℕ) (z : ℕ) → f ≡ get_or fs k 0 → r ≡ position (λ y. y == f) (take (n - (k + 1)) (drop (k + 1) fs))
      → z ≡ unwrap_or r (length (take (n - (k + 1)) (drop (k + 1) fs))) → z ≡ gap_at v k
  unfolding gap_at
  gap_told f r z e p q =
      let few : n - (k + 1) ≤ length (drop (k + 1) fs) = omega (arith, G.room, length-drop (k + 1) fs) in
      let all : n - (k + 1) ≡ length (drop (k + 1) vs) = omega (arith, length-drop (k + 1) vs) in
      q ∙ rw (length-take-le (n - (k + 1)) (drop (k + 1) fs) few, p)
      (told (get_or vs k []) f (drop (k + 1) fs) (drop (k + 1) vs) (n - (k + 1)) all few
      (λ j h. rw (get_or-drop (k + 1) fs j 0, get_or-drop (k + 1) vs j [], e) (G.alike (k + 1 + j) k (omega arith) G.inside)))

-- ---- the parts put together
module _ (v : View) (P : ProperView v) (at : ℕ) (w₀ : List ℕ) where
  abbrev n : ℕ
  n = length (texts v)

  few : n ≤ 128
  few = P.few_patterns

  module _ (room : at + 512 ≤ length w₀) (w₁ : List ℕ) (C : LinesWritten v cover_at at w₀ w₁) where
    pub side_second : at + 128 + 128 ≤ length w₁
    side_second = omega (arith, room, C.kept.size)

    module _ (w₂ : List ℕ) (M : LinesWritten v access_number_at (at + 128) w₁ w₂) where
      kept_2 : Kept at (at + 256) w₀ w₂
      kept_2 = kept_then at (at + 256) at (at + n) (at + 128) (at + 128 + n) w₀ w₁ w₂ C.kept M.kept (omega arith) (omega (arith, few)) (omega arith) (omega (arith, few))

      pub side_gaps : (fs : List ℕ) → GapsLent v fs at 512 w₀ → GapsLent v fs (at + 384) 128 w₂
      side_gaps fs G = record { proper = G.proper; room = omega (arith, room, kept_2.size); firsts = G.firsts; alike = G.alike }

      pub side_plain : (w₃ : List ℕ) → LinesWritten v gap_at (at + 384) w₂ w₃ → Plain v at w₀ w₃
      side_plain w₃ G = record {
        kept = kept_then at (at + 512) at (at + 256) (at + 384) (at + 384 + n) w₀ w₂ w₃ kept_2 G.kept (omega arith) (omega arith) (omega arith) (omega (arith, few));
        covers = λ k h. G.kept.before (at + k) (omega (arith, few)) ∙ M.kept.before (at + k) (omega (arith, few)) ∙ C.values k h;
        accesses = λ k h. G.kept.before (at + 128 + k) (omega (arith, few)) ∙ M.values k h;
        gaps = G.values;
      }

  -- the roles behind the rest
  module _ (room : at + 512 ≤ length w₀) (w₁ : List ℕ) (Q : Plain v at w₀ w₁) where
    pub side_third : at + 256 + 128 ≤ length w₁
    side_third = omega (arith, room, Q.kept.size)

    module _ (ns : List Text) (map : List ℕ) (count : ℕ) (M : Mapped ns v.roles map) (all : count ≡ length ns) (w : List ℕ)
        (R : LinesWritten v (roles_by map count) (at + 256) w₁ w) where
      -- the roles of line k by the map are those in the numbers of ns
      in_numbers : (k : ℕ) → roles_by map count v k ≡ renumbered ns v.roles (access_roles (access_at v k))
      unfolding roles_by
      in_numbers k = rw all (renumbered_by_lem ns v.roles map (access_roles (access_at v k)) M)

      kept_all : Kept at (at + 512) w₀ w
      kept_all = kept_then at (at + 512) at (at + 512) (at + 256) (at + 256 + n) w₀ w₁ w Q.kept R.kept (omega arith) (omega arith) (omega arith) (omega (arith, few))

      -- a number of the side
      inside : (b k : ℕ) → b + k < 512 → get_or (part at (at + 512) w) (b + k) 0 ≡ get_or w (at + b + k) 0
      inside b k h = let e : at + (b + k) ≡ at + b + k = omega arith in rw (← e) (part_at at (at + 512) (b + k) w (omega arith))

      line : (k : ℕ) → k < n → LineIn ns v (part at (at + 512) w) k
      unfolding access_number_at
      line k h = record {
        cover = part_at at (at + 512) k w (omega (arith, few)) ∙ R.kept.before (at + k) (omega (arith, few)) ∙ Q.covers k h;
        access = inside 128 k (omega (arith, few)) ∙ R.kept.before (at + 128 + k) (omega (arith, few)) ∙ Q.accesses k h;
        roles = inside 256 k (omega (arith, few)) ∙ R.values k h ∙ in_numbers k;
        gap = inside 384 k (omega (arith, few)) ∙ R.kept.behind (at + 384 + k) (omega (arith, few)) ∙ Q.gaps k h;
      }

      pub side_written : SideWritten ns v at w₀ w
      side_written = record {
        kept = kept_all;
        side = record {
          size = part_length at (at + 512) w (omega arith) (omega (arith, room, kept_all.size)) ∙ omega arith;
          lines = line;
        };
      }
