-- The constraints joined line by line, and the answer from them, as the code meets them.
use mathlib.Core.Path.{◌≡◌, refl}
use mathlib.Core.Bool.{Bool, true, false, not}
use mathlib.Core.List.{[]}
use Prim.Native.Nat.{ℕ, ◌+◌, ◌/◌, ◌%◌, ◌^◌, ◌≤◌, ◌<◌}
use native.Mathlib.Nat.{mod-eq_of_lt}
use native.Mathlib.Numerals.{add-one}
use native.Mathlib.Omega.{arith}
use lib.ListN.{get_or}
use lib.Dec.{eqb}
use lib.Bits.{bit_and, bit_or}
use borrow.Author.Tests.{ne_eqb, not-true, not-false}
use Rattle.text.specs.Texts.{Text, same}
use Rattle.reading.specs.Views.{View, texts, cover_at, access_at}
use Rattle.reading.specs.declared.held.Access.{Access}
use Rattle.reading.specs.declared.held.Access.TheVariants as K
use Rattle.deciding.specs.Joinings.{join_with, is_line_for, joined_up_to, joined_answer}
use Rattle.decisions.specs.declared.answers.Answer.TheVariants.{Open, ByRole, Closed, LoginWanted, RoleLacking}
use Rattle.callers.specs.declared.Who.{Who}
use Rattle.callers.specs.declared.Who.TheVariants.{Nobody, Roles}
use Rattle.deciding.specs.declared.joining.Joined.{Joined}

-- ---- with one constraint more
module _ (j : Joined) (a : Access) where
  -- one that is `open`
  pub join_open : a ≡ K.Open → record { any = true; closed = j.closed; free = true; roles = j.roles } ≡ join_with j a
  join_open e = rw e

  -- one that closes
  pub join_closed : a ≡ K.Closed → record { any = true; closed = true; free = j.free; roles = j.roles } ≡ join_with j a
  join_closed e = rw e

  -- one that allows roles
  pub join_by_role : (x : ℕ) → a ≡ K.ByRole x → record { any = true; closed = j.closed; free = j.free; roles = bit_or j.roles x } ≡ join_with j a
  join_by_role x e = rw e

-- ---- whether a line is for the text and the method
module _ (v : View) (t : Text) (m k : ℕ) (u : Text) (r : Bool) (here : u ≡ get_or (texts v) k []) (tested : r ≡ same u t) where
  -- it has another text
  pub line_other : r ≡ false → r ≡ is_line_for v t m k
  unfolding is_line_for
  line_other n = rw (← here, ← tested, n)

  -- it has that text: the digit says it
  pub line_same : (x : ℕ) → r ≡ true → m < 32 → x ≡ cover_at v k → eqb (x / 2 ^ (m % 32) % 2) 1 ≡ is_line_for v t m k
  unfolding is_line_for
  line_same x n h e = rw (← here, ← tested, n, ← e, mod-eq_of_lt h)

-- ---- the lines one after the other
-- none
pub join_start : (v : View) (t : Text) (m : ℕ) → record { any = false; closed = false; free = false; roles = 0 } ≡ joined_up_to v t m 0
unfolding joined_up_to
join_start v t m = refl

module _ (v : View) (t : Text) (m k : ℕ) (j : Joined) (r : Bool) (so_far : j ≡ joined_up_to v t m k) (tested : r ≡ is_line_for v t m k) where
  -- one more that is not for them
  pub join_past : r ≡ false → j ≡ joined_up_to v t m (k + 1)
  unfolding joined_up_to
  join_past e = rw (add-one k, ← tested, e) so_far

  -- one more that is
  pub join_takes : (a : Access) (j' : Joined) → r ≡ true → a ≡ access_at v k → j' ≡ join_with j a → j' ≡ joined_up_to v t m (k + 1)
  unfolding joined_up_to
  join_takes a j' e p q = rw (add-one k, ← tested, e, ← so_far, ← p) q
