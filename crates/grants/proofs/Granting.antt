-- Whom a listing grants at a best line, from the table of its side: laws in the shape of the code.
use mathlib.Core.Path.{◌≡◌, refl, sym, ap, ap₂, subst, ◌∙◌}
use mathlib.Core.Bool.{Bool, true, false, not, cond}
use mathlib.Core.List.{List}
use Prim.Native.Nat.{ℕ, zero, suc, ◌+◌, ◌-◌, ◌*◌, ◌/◌, ◌%◌, ◌^◌, ◌≤◌, ◌<◌}
use native.Mathlib.Nat.{mod-eq_of_lt}
use native.Mathlib.Omega.{arith}
use lib.ListN.{length, get_or, set, replicate}
use lib.Dec.{eqb, ltb}
use lib.Bits.{bit_or, or_step, or_shr, or_mod, or_zero_r}
use borrow.Author.Tests.{lt-ltb, le-ltb, ne_eqb}
use Rattle.entries.specs.Sets.{digit}
use Rattle.deciding.specs.Joinings.{nothing_joined, join_with}
use Rattle.deciding.specs.declared.joining.Joined.{Joined}
use Rattle.grants.specs.Sides.{everyone, access_from, access_in, joined_along, grantees_of, grants_in, listed, roster_in}
use Rattle.grants.specs.Codes.{code_of, joined_in, none, code_for, joined_with, grantees_at, Along}
use Rattle.grants.proofs.Stores.{Mixing, mix_start, mix_more, listed_length, listed_at, listed_same}

-- ---- along the lines with one text
-- the next of them
abbrev past : List ℕ → ℕ → ℕ
past side k = k + 1 + get_or side (384 + k) 0

-- what is joined with line k
abbrev with_line : List ℕ → ℕ → ℕ → Joined → Joined
with_line side m k j = cond (eqb (digit m (get_or side k 0)) 1) (join_with j (access_in side k)) j

module _ (side : List ℕ) (n m : ℕ) where
  -- how far it may go on doesn't matter where it is far enough
  along_enough : (f g k : ℕ) (j : Joined) → n ≤ f + k → n ≤ g + k → joined_along f side n m k j ≡ joined_along g side n m k j
  unfolding joined_along
  along_enough zero zero k j p q = refl
  along_enough zero (suc g) k j p q = rw (le-ltb k n (omega arith))
  along_enough (suc f) zero k j p q = rw (le-ltb k n (omega arith))
  along_enough (suc f) (suc g) k j p q =
      ap (λ (r : Joined). cond (ltb k n) r j) (along_enough f g (past side k) (with_line side m k j) (omega arith) (omega arith))

  -- one line more
  along_step : (f k : ℕ) (j : Joined) → n ≤ f + k → k < n → joined_along f side n m k j ≡ joined_along f side n m (past side k) (with_line side m k j)
  unfolding joined_along
  along_step zero k j p h = absurd (omega arith)
  along_step (suc f) k j p h = rw (lt-ltb k n h) (along_enough f (suc f) (past side k) (with_line side m k j) (omega arith) (omega arith))

  -- no line more
  along_last : (f k : ℕ) (j : Joined) → n ≤ k → joined_along f side n m k j ≡ j
  unfolding joined_along
  along_last zero k j h = refl
  along_last (suc f) k j h = rw (le-ltb k n h)

-- ---- what is joined, as one number
-- a digit of two numbers taken together, where the last is 1 there, or 0
digit_made : (k x c : ℕ) → c / 2 ^ k % 2 ≡ 1 → bit_or x c / 2 ^ k % 2 ≡ 1
digit_made k x c e = omega (arith, or_shr x c k, or_step (x / 2 ^ k) (c / 2 ^ k))

digit_kept : (k x c : ℕ) → c / 2 ^ k % 2 ≡ 0 → bit_or x c / 2 ^ k % 2 ≡ x / 2 ^ k % 2
digit_kept k x c e = omega (arith, or_shr x c k, or_step (x / 2 ^ k) (c / 2 ^ k))

-- the roles
low_joined : (x c : ℕ) → bit_or x c % 4294967296 ≡ bit_or (x % 4294967296) (c % 4294967296)
low_joined x c = or_mod x c 32

-- one constraint more
join_coded : (x : ℕ) (number r : ℕ) → r < 4294967296 → joined_in (bit_or x (code_of (access_from number r))) ≡ join_with (joined_in x) (access_from number r)
unfolding joined_in
join_coded x zero r h =
    rw (digit_made 32 x 12884901888 refl, digit_kept 34 x 12884901888 refl, digit_made 33 x 12884901888 refl, low_joined x 12884901888, or_zero_r (x % 4294967296))
join_coded x (suc zero) r h =
    rw (digit_made 32 x 21474836480 refl, digit_made 34 x 21474836480 refl, digit_kept 33 x 21474836480 refl, low_joined x 21474836480, or_zero_r (x % 4294967296))
join_coded x (suc (suc m)) r h =
    let a : (4294967296 + r) / 4294967296 % 2 ≡ 1 = omega arith in
    let b : (4294967296 + r) / 17179869184 % 2 ≡ 0 = omega arith in
    let d : (4294967296 + r) / 8589934592 % 2 ≡ 0 = omega arith in
    let l : (4294967296 + r) % 4294967296 ≡ r = omega arith in
    rw (digit_made 32 x (4294967296 + r) a, digit_kept 34 x (4294967296 + r) b, digit_kept 33 x (4294967296 + r) d, low_joined x (4294967296 + r), l)

-- ---- what a line says
-- for a method that it covers
module _ (cover code m : ℕ) (l : m < 32) where
  pub code_taken : cover / 2 ^ (m % 32) % 2 ≡ 1 → code ≡ code_for cover code m
  code_taken t = let d : digit m cover ≡ 1 = rw (mod-eq_of_lt l) at t in rw d

  -- and for another
  pub code_passed : (cover / 2 ^ (m % 32) % 2 ≡ 1 → ⊥) → 0 ≡ code_for cover code m
  code_passed t = let d : eqb (digit m cover) 1 ≡ false = ne_eqb (digit m cover) 1 (rw (mod-eq_of_lt l) at t) in rw d

-- joined in a roster
module _ (cover code : ℕ) (before : List ℕ) where
  pub line_start : length before ≡ 32 → Mixing 32 (joined_with cover code before) before 0 before
  line_start e = mix_start 32 (joined_with cover code before) before e

  pub line_more : (m v : ℕ) (out : List ℕ) → Mixing 32 (joined_with cover code before) before m out → m < 32 → v ≡ code_for cover code m
      → Mixing 32 (joined_with cover code before) before (m + 1) (set out m (bit_or (get_or out m 0) v))
  line_more m v out M h e =
      mix_more 32 (joined_with cover code before) before m (bit_or (get_or out m 0) v) out M h (ap₂ bit_or (M.left m (omega arith)) e)

-- ---- the lines from k on are still to be joined in the roster
pub record Joining (side : List ℕ) (n first k : ℕ) (roster : List ℕ) : Type 0 where
  pub size : length roster ≡ 32
  pub due : (m : ℕ) → m < 32 → joined_along n side n m first nothing_joined ≡ joined_along n side n m k (joined_in (get_or roster m 0))

module _ (side : List ℕ) (n first : ℕ) where
  -- all of them
  pub along_start : (roster : List ℕ) → roster ≡ listed 32 none → Joining side n first first roster
  unfolding joined_in
  along_start roster e =
      record {
        size = ap length e ∙ listed_length 32 none;
        due = λ m h. ap (λ (x : ℕ). joined_along n side n m first (joined_in x)) (sym (ap (λ (r : List ℕ). get_or r m 0) e ∙ listed_at 32 none m h));
      }

  module _ (k : ℕ) (roster : List ℕ) (J : Joining side n first k roster) where
    -- a line more
    pub along_more : (g code : ℕ) (roster' : List ℕ) → k < n → g ≡ get_or side (384 + k) 0 → code ≡ code_of (access_in side k) → get_or side (256 + k) 0 < 4294967296
        → roster' ≡ listed 32 (joined_with (get_or side k 0) code roster) → Joining side n first (k + 1 + g) roster'
    along_more g code roster' h e f s q =
        record {
          size = ap length q ∙ listed_length 32 (joined_with (get_or side k 0) code roster);
          due = λ m l. J.due m l ∙ along_step side n m n k (joined_in (get_or roster m 0)) (omega arith) h
              ∙ ap₂ (joined_along n side n m) (let z : past side k ≡ k + 1 + g = omega arith in z)
              (line m (eqb (digit m (get_or side k 0)) 1)
              ∙ ap (λ (c : ℕ). joined_in (bit_or (get_or roster m 0) (cond (eqb (digit m (get_or side k 0)) 1) c 0))) (sym f)
              ∙ ap joined_in (sym (ap (λ (r : List ℕ). get_or r m 0) q ∙ listed_at 32 (joined_with (get_or side k 0) code roster) m l)));
        }
      where
        line : (m : ℕ) (b : Bool) → cond b (join_with (joined_in (get_or roster m 0)) (access_in side k)) (joined_in (get_or roster m 0))
            ≡ joined_in (bit_or (get_or roster m 0) (cond b (code_of (access_in side k)) 0))
        line m true = sym (join_coded (get_or roster m 0) (get_or side (128 + k) 0) (get_or side (256 + k) 0) s)
        line m false = ap joined_in (sym (or_zero_r (get_or roster m 0)))

    -- none is left
    pub along_end : n ≤ k → Along side n first roster
    along_end h = record { size = J.size; all = λ m l. sym (J.due m l ∙ along_last side n m n k (joined_in (get_or roster m 0)) h) }

pub joining_size : (side : List ℕ) (n first k : ℕ) (roster : List ℕ) → Joining side n first k roster → length roster ≡ 32
joining_size side n first k roster J = J.size

-- ---- whom that which is joined grants
module _ (x : ℕ) where
  -- no constraint: everyone
  pub grantees_none : (x / 4294967296 % 2 ≡ 1 → ⊥) → 18446744073709551615 ≡ grantees_of (joined_in x)
  unfolding grantees_of joined_in
  grantees_none a = rw (ne_eqb (x / 4294967296 % 2) 1 a)

  module _ (a : x / 4294967296 % 2 ≡ 1) where
    -- one that closes: nobody
    pub grantees_closed : x / 17179869184 % 2 ≡ 1 → 0 ≡ grantees_of (joined_in x)
    unfolding grantees_of joined_in
    grantees_closed c = rw (a, c)

    module _ (c : x / 17179869184 % 2 ≡ 1 → ⊥) where
      -- one that is `open`: everyone
      pub grantees_free : x / 8589934592 % 2 ≡ 1 → 18446744073709551615 ≡ grantees_of (joined_in x)
      unfolding grantees_of joined_in
      grantees_free f = rw (a, ne_eqb (x / 17179869184 % 2) 1 c, f)

      -- else those with one of the roles
      pub grantees_roles : (x / 8589934592 % 2 ≡ 1 → ⊥) → 4 * (x % 4294967296) ≡ grantees_of (joined_in x)
      unfolding grantees_of joined_in
      grantees_roles f = let l : x % 4294967296 % 4294967296 ≡ x % 4294967296 = omega arith in rw (a, ne_eqb (x / 17179869184 % 2) 1 c, ne_eqb (x / 8589934592 % 2) 1 f, l)

-- in each number of a roster
module _ (before : List ℕ) where
  pub grant_start : length before ≡ 32 → Mixing 32 (grantees_at before) before 0 before
  grant_start e = mix_start 32 (grantees_at before) before e

  pub grant_more : (m v : ℕ) (out : List ℕ) → Mixing 32 (grantees_at before) before m out → m < 32 → v ≡ grantees_of (joined_in (get_or out m 0))
      → Mixing 32 (grantees_at before) before (m + 1) (set out m v)
  grant_more m v out M h e = mix_more 32 (grantees_at before) before m v out M h (e ∙ ap (λ (x : ℕ). grantees_of (joined_in x)) (M.left m (omega arith)))

-- ---- a roster in which nothing is joined
pub clear_all : (n : ℕ) (roster : List ℕ) → n ≡ 32 → roster ≡ replicate n 0 → roster ≡ listed 32 none
unfolding listed
clear_all n roster e q = q ∙ ap (λ (k : ℕ). replicate k 0) e

pub clear_size : (roster : List ℕ) → roster ≡ listed 32 none → length roster ≡ 32
clear_size roster e = ap length e ∙ listed_length 32 none

-- ---- whom the table grants at a best line
module _ (side : List ℕ) (n line : ℕ) (before roster : List ℕ) (made : roster ≡ listed 32 (grantees_at before)) where
  -- number by number
  roster_by_number : ((m : ℕ) → m < 32 → grantees_at before m ≡ grants_in side n line m) → roster ≡ roster_in side n line
  unfolding roster_in
  roster_by_number e = made ∙ listed_same 32 (grantees_at before) (grants_in side n line) e

  -- no best match: everyone
  pub roster_none : before ≡ listed 32 none → line ≡ 0 → roster ≡ roster_in side n line
  unfolding grants_in grantees_of joined_in
  roster_none e z =
      roster_by_number (λ m l. rw z (ap (λ (x : ℕ). grantees_of (joined_in x)) (ap (λ (r : List ℕ). get_or r m 0) e ∙ listed_at 32 none m l)))

  -- what its lines come to
  pub roster_line : Along side n (line - 1) before → (line ≡ 0 → ⊥) → roster ≡ roster_in side n line
  unfolding grants_in
  roster_line A z = roster_by_number (λ m l. go m (grantees_at before m) line z (ap grantees_of (A.all m l)))
    where
      go : (m g p : ℕ) → (p ≡ 0 → ⊥) → g ≡ grantees_of (joined_along n side n m (p - 1) nothing_joined) → g ≡ grants_in side n p m
      go m g zero z e = absurd (z refl)
      go m g (suc p) z e = let d : suc p - 1 ≡ p = omega arith in e ∙ ap (λ (q : ℕ). grantees_of (joined_along n side n m q nothing_joined)) d

-- a roster has a set for each method
pub roster_size : (side : List ℕ) (n line : ℕ) (roster : List ℕ) → roster ≡ roster_in side n line → length roster ≡ 32
unfolding roster_in
roster_size side n line roster e = ap length e ∙ listed_length 32 (grants_in side n line)

-- that of the same line is the same
pub roster_kept : (side : List ℕ) (n had line : ℕ) (roster : List ℕ) → roster ≡ roster_in side n had → had ≡ line → roster ≡ roster_in side n line
roster_kept side n had line roster e q = e ∙ ap (roster_in side n) q

-- ---- a set of callers is a number of 64 digits
grantees_small : (j : Joined) → grantees_of j ≤ everyone
unfolding grantees_of
grantees_small j = go (not j.any) j.closed j.free
  where
    go : (a b c : Bool) → cond a everyone (cond b 0 (cond c everyone (4 * (j.roles % 4294967296)))) ≤ everyone
    go true b c = omega arith
    go false true c = omega arith
    go false false true = omega arith
    go false false false = omega arith

pub grants_small : (side : List ℕ) (n line m : ℕ) → grants_in side n line m ≤ everyone
unfolding grants_in
grants_small side n zero m = omega arith
grants_small side n (suc k) m = grantees_small (joined_along n side n m k nothing_joined)

pub roster_small : (side : List ℕ) (n line m : ℕ) → m < 32 → get_or (roster_in side n line) m 0 ≤ everyone
unfolding roster_in
roster_small side n line m h = subst (λ (x : ℕ). x ≤ everyone) (sym (listed_at 32 (grants_in side n line) m h)) (grants_small side n line m)
