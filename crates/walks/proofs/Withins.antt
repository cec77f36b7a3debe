-- Sets within sets, as numbers: with `&`, with `|`, and what one set has and another has not.
use mathlib.Core.Path.{◌≡◌, sym, ap, ◌∙◌}
use Prim.Native.Nat.{ℕ, zero, suc, ◌-◌, ◌/◌, ◌%◌, ◌^◌, ◌≤◌, ◌<◌, min}
use native.Mathlib.Nat.{le_refl, pow-suc}
use native.Mathlib.Omega.{arith}
use lib.Pow.{pow_pos}
use lib.Bits.{bit_and, bit_or, and_step, or_step, and_zero_l, and_zero_r, and_comm, or_comm, and_self, and_le_l, and_le_r}
use Rattle.grants.specs.Sides.{everyone}
use Rattle.walks.specs.Gathers.{Within}

-- ---- digit by digit
and_half : (a b : ℕ) → bit_and a b / 2 ≡ bit_and (a / 2) (b / 2)
and_half a b = omega (arith, and_step a b)

and_odd : (a b : ℕ) → bit_and a b % 2 ≡ min (a % 2) (b % 2)
and_odd a b = omega (arith, and_step a b)

or_half : (a b : ℕ) → bit_or a b / 2 ≡ bit_or (a / 2) (b / 2)
or_half a b = omega (arith, or_step a b)

-- equal halves and equal last digits
by_half : (m n : ℕ) → m / 2 ≡ n / 2 → m % 2 ≡ n % 2 → m ≡ n
by_half m n p q = omega arith

assoc_within : (k a b c : ℕ) → a ≤ k → bit_and (bit_and a b) c ≡ bit_and a (bit_and b c)
assoc_within zero a b c h = let e : a ≡ 0 = omega arith in rw (e, and_zero_l b, and_zero_l c, and_zero_l (bit_and b c))
assoc_within (suc k) a b c h =
    by_half _ _
    (and_half (bit_and a b) c ∙ ap (λ (x : ℕ). bit_and x (c / 2)) (and_half a b) ∙ assoc_within k (a / 2) (b / 2) (c / 2) (omega arith)
    ∙ sym (and_half a (bit_and b c) ∙ ap (bit_and (a / 2)) (and_half b c)))
    (omega (arith, and_odd (bit_and a b) c, and_odd a b, and_odd a (bit_and b c), and_odd b c))

and_assoc : (a b c : ℕ) → bit_and (bit_and a b) c ≡ bit_and a (bit_and b c)
and_assoc a b c = assoc_within a a b c (le_refl a)

-- ---- within
pub within_self : (a : ℕ) → Within a a
within_self a = and_self a

within_through : (a b c : ℕ) → Within a b → Within b c → Within a c
within_through a b c p q = ap (λ (x : ℕ). bit_and x c) (sym p) ∙ and_assoc a b c ∙ ap (bit_and a) q ∙ p

or_keeps : (k a b c : ℕ) → a ≤ k → Within a b → Within a (bit_or b c)
or_keeps zero a b c h p = let e : a ≡ 0 = omega arith in rw (e, and_zero_l (bit_or b c))
or_keeps (suc k) a b c h p =
    let half : bit_and (a / 2) (b / 2) ≡ a / 2 = omega (arith, and_step a b) in
    let odd : min (a % 2) (b % 2) ≡ a % 2 = omega (arith, and_step a b) in
    by_half _ _
    (and_half a (bit_or b c) ∙ ap (bit_and (a / 2)) (or_half b c) ∙ or_keeps k (a / 2) (b / 2) (c / 2) (omega arith) half)
    (omega (arith, and_odd a (bit_or b c), or_step b c))

-- what lies within one lies within either
pub within_or : (a b c : ℕ) → Within a b → Within a (bit_or b c)
within_or a b c p = or_keeps a a b c (le_refl a) p

pub within_or_last : (a b : ℕ) → Within a (bit_or b a)
within_or_last a b = ap (bit_and a) (or_comm b a) ∙ within_or a a b (within_self a)

-- what both have lies within each
pub and_within_last : (a b : ℕ) → Within (bit_and a b) b
and_within_last a b = and_assoc a b b ∙ ap (bit_and a) (and_self b)

pub and_within : (a b c : ℕ) → Within a c → Within (bit_and a b) c
and_within a b c p = within_through (bit_and a b) a c (ap (λ (x : ℕ). bit_and x a) (and_comm a b) ∙ and_assoc b a a ∙ ap (bit_and b) (and_self a) ∙ and_comm b a) p

-- ---- what a has and b has not, as the code computes it
one_less : (a b : ℕ) → min (a % 2) (1 - b % 2) ≡ a % 2 - min (a % 2) (b % 2)
one_less a b = omega arith

rest_half : (a b : ℕ) → (a - bit_and a b) / 2 ≡ a / 2 - bit_and (a / 2) (b / 2)
rest_half a b = omega (arith, and_step a b, and_le_l (a / 2) (b / 2))

rest_odd : (a b : ℕ) → (a - bit_and a b) % 2 ≡ a % 2 - min (a % 2) (b % 2)
rest_odd a b = omega (arith, and_step a b, and_le_l (a / 2) (b / 2))

not_within : (k a b : ℕ) → a < 2 ^ k → b < 2 ^ k → bit_and a ((2 ^ k - 1) - b) ≡ a - bit_and a b
not_within zero a b h g = let e : a ≡ 0 = omega arith in rw (e, and_zero_l) (omega arith)
not_within (suc k) a b h g =
    let p = pow-suc 2 k in
    let z = pow_pos k in
    let half : ((2 ^ suc k - 1) - b) / 2 ≡ (2 ^ k - 1) - b / 2 = omega arith in
    let odd : ((2 ^ suc k - 1) - b) % 2 ≡ 1 - b % 2 = omega arith in
    by_half _ _
    (and_half a ((2 ^ suc k - 1) - b) ∙ ap (bit_and (a / 2)) half ∙ not_within k (a / 2) (b / 2) (omega arith) (omega arith) ∙ sym (rest_half a b))
    (and_odd a ((2 ^ suc k - 1) - b) ∙ ap (min (a % 2)) odd ∙ one_less a b ∙ sym (rest_odd a b))

rest_code : (a b : ℕ) → a ≤ everyone → b ≤ everyone → bit_and a (everyone - b) ≡ a - bit_and a b
rest_code a b h g = not_within 64 a b (omega arith) (omega arith)

-- where n has nothing that o has not, a within n has nothing that b, which has what o has, has not
pub nothing_within : (a b n o : ℕ) → a ≤ everyone → b ≤ everyone → Within a n → Within o b → bit_and n (everyone - o) ≡ 0 → bit_and a (everyone - b) ≡ 0
nothing_within a b n o h g p q e =
    let small : o ≤ everyone = omega (arith, and_le_r o b, q) in
    let none : bit_and a (everyone - o) ≡ 0 = ap (λ (x : ℕ). bit_and x (everyone - o)) (sym p) ∙ and_assoc a n (everyone - o) ∙ ap (bit_and a) e ∙ and_zero_r a in
    let inner : Within a o = omega (arith, rest_code a o h small, none, and_le_l a o) in
    let outer : bit_and a b ≡ a = within_through a o b inner q in
    omega (arith, rest_code a b h g, outer)
