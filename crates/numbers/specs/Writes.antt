-- The scratch while texts become numbers: what a call writes into it, and what it keeps. For the proofs alone.
use Rattle.std.specs.Prelude.{ℕ, ◌+◌, ◌≤◌, ◌<◌, ◌≡◌, ◌&&◌, List, [], length, get_or, set, eqb, ltb}
use Rattle.text.specs.Texts.{Text, index_of, part}
use Rattle.entries.specs.Sets.{set_of, digit}
use Rattle.reading.specs.Views.{View, texts, cover_at, access_at, ProperView}
use Rattle.grants.specs.Sides.{SideOf, access_number, access_roles, gap_at, PairsOf, PairedUp}
use Rattle.firsts.specs.Keeping.{Kept}

-- w is w₀ with the n numbers f 0, f 1, .. from offset at on
pub record Wrote (at n : ℕ) (f : ℕ → ℕ) (w₀ w : List ℕ) : Type 0 where
  pub kept : Kept at (at + n) w₀ w
  pub values : (k : ℕ) → k < n → get_or w (at + k) 0 ≡ f k

-- the numbers of g, one for each line of the view v, from offset at on
abbrev pub LinesWritten : View → (View → ℕ → ℕ) → ℕ → List ℕ → List ℕ → Type 0
LinesWritten v g at w₀ w = Wrote at (length (texts v)) (g v) w₀ w

-- both views are as they should be, and there is room for z numbers from at on
pub record BothLent (old new : View) (at z : ℕ) (w : List ℕ) : Type 0 where
  pub olds : ProperView old
  pub news : ProperView new
  pub room : at + z ≤ length w

-- ---- what is written of line k
-- the number of its constraint's access
unfoldable pub access_number_at : View → ℕ → ℕ
unfolding access_at
access_number_at v k = access_number (access_at v k)

-- where the roles of new, ns, stand among those of a view, os
pub record Mapped (ns os : List Text) (map : List ℕ) : Type 0 where
  pub size : length map ≡ 32
  pub indices : (i : ℕ) → i < length ns → get_or map i 0 ≡ index_of (get_or ns i []) os

-- by such a map of n roles, where the view has `own`: a set of the view's roles
unfoldable pub renumbered_by : List ℕ → ℕ → ℕ → ℕ → ℕ
unfolding set_of
renumbered_by map n own x = set_of 32 (λ i. ltb i n && (ltb (get_or map i 0) own && eqb (digit (get_or map i 0) x) 1))

-- the roles that line k allows
unfoldable pub roles_by : List ℕ → ℕ → View → ℕ → ℕ
unfolding renumbered_by access_at
roles_by map n v k = renumbered_by map n (length v.roles) (access_roles (access_at v k))

-- the side of the view v from offset at on, its roles aside
pub record Plain (v : View) (at : ℕ) (w₀ w : List ℕ) : Type 0 where
  pub kept : Kept at (at + 512) w₀ w
  pub covers : (k : ℕ) → k < length (texts v) → get_or w (at + k) 0 ≡ cover_at v k
  pub accesses : (k : ℕ) → k < length (texts v) → get_or w (at + 128 + k) 0 ≡ access_number_at v k
  pub gaps : (k : ℕ) → k < length (texts v) → get_or w (at + 384 + k) 0 ≡ gap_at v k

-- the whole side, in the numbers of the names ns
pub record SideWritten (ns : List Text) (v : View) (at : ℕ) (w₀ w : List ℕ) : Type 0 where
  pub kept : Kept at (at + 512) w₀ w
  pub side : SideOf ns v (part at (at + 512) w)

-- ---- the trial methods
-- the methods ms are paired in the 128 numbers from offset at on, by their numbers among os and ns
pub record PairsWritten (os ns ms : List Text) (at : ℕ) (w₀ w : List ℕ) : Type 0 where
  pub kept : Kept at (at + 128) w₀ w
  pub up : PairedUp os ns ms (part at (at + 128) w)

-- all trial methods are, count of them
pub record MethodsWritten (os ns : List Text) (at : ℕ) (w₀ w : List ℕ) (count : ℕ) : Type 0 where
  pub kept : Kept at (at + 128) w₀ w
  pub pairs : PairsOf os ns (part at (at + 128) w) count

-- the numbers a, b of a method put behind those of n others
abbrev pub put_pair : ℕ → ℕ → ℕ → ℕ → List ℕ → List ℕ
put_pair at n a b w = set (set w (at + n) a) (at + 64 + n) b
