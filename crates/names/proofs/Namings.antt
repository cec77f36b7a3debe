-- Conjunctions and alternatives of tests, taken one test at a time.
use mathlib.Core.Path.{◌≡◌, refl, sym, ap, ◌∙◌}
use mathlib.Core.Bool.{Bool, true, false, not, ◌&&◌, ◌||◌}
use mathlib.Core.List.{[], ◌∷◌}
use Prim.Native.Nat.{ℕ, ◌≤◌, ◌<◌}
use native.Mathlib.Omega.{arith}
use lib.ListN.{length}
use lib.Dec.{leb}
use borrow.Author.Tests.{le-leb, lt-leb, not-true, not-false}
use Rattle.text.specs.Texts.{Text, bytes, semicolon, same, has, all, ends_with}
use Rattle.text.specs.Bytes.{is_text}
use Rattle.names.specs.Names.{is_pattern}
use Rattle.names.specs.Patterns.{kind_of, is_permitted}
use Rattle.text.proofs.Spans.{same_lengths}

-- `search (rules, tests)` goes along them
-- a conjunction fails with its first part
pub and_fails : (a b : Bool) → false ≡ a → false ≡ (a && b)
and_fails a b e = rw (← e)

-- or goes on with its second
pub and_goes_on : (a b z : Bool) → true ≡ a → z ≡ b → z ≡ (a && b)
and_goes_on a b z e f = rw (← e) f

-- an alternative passes with its first part
pub or_passes : (a b : Bool) → true ≡ a → true ≡ (a || b)
or_passes a b e = rw (← e)

-- or goes on with its second
pub or_goes_on : (a b z : Bool) → false ≡ a → z ≡ b → z ≡ (a || b)
or_goes_on a b z e f = rw (← e) f

-- a call's result passed
pub it_passed : (r b : Bool) → r ≡ b → r ≡ true → true ≡ b
it_passed r b e t = sym t ∙ e

-- a call's result failed
pub it_failed : (r b : Bool) → r ≡ b → r ≡ false → false ≡ b
it_failed r b e f = sym f ∙ e

-- it passed where the code tests the opposite
pub it_passed_not : (r b : Bool) → r ≡ b → not r ≡ false → true ≡ b
it_passed_not r b e t = sym (not-false r t) ∙ e

-- it failed where the code tests the opposite
pub it_failed_not : (r b : Bool) → r ≡ b → not r ≡ true → false ≡ b
it_failed_not r b e t = sym (not-true r t) ∙ e

-- the opposite of a test that failed
pub not_passed : (b : Bool) → false ≡ b → true ≡ not b
not_passed b e = rw (← e)

-- the opposite of a test that passed
pub not_failed : (b : Bool) → true ≡ b → false ≡ not b
not_failed b e = rw (← e)

-- the opposite of a call's result
pub not_result : (r b : Bool) → r ≡ b → not r ≡ not b
not_result r b e = rw e

-- a comparison of numbers that passes
pub leb_passed : (a b : ℕ) → a ≤ b → true ≡ leb a b
leb_passed a b h = sym (le-leb a b h)

-- a comparison of numbers that fails
pub leb_failed : (a b : ℕ) → b < a → false ≡ leb a b
leb_failed a b h = sym (lt-leb a b h)

-- a text of no bytes is the empty one
pub empty_same : (t : Text) → length t ≡ 0 → true ≡ same t []
unfolding same
empty_same [] h = refl
empty_same (x ∷ xs) h = absurd (omega arith)

-- any other is not
pub filled_differs : (t : Text) → (length t ≡ 0 → ⊥) → false ≡ same t []
filled_differs t n = same_lengths t [] n

pub ruleset tests = (
  and_fails,
  and_goes_on,
  or_passes,
  or_goes_on,
  it_passed,
  it_failed,
  it_passed_not,
  it_failed_not,
  not_passed,
  not_failed,
  not_result,
  leb_passed,
  leb_failed,
  empty_same,
  filled_differs,
)

-- a pattern's tests, the length's to the last space's passed: what is left is that it has no `;`, and its kind
module _ (t : Text) (clean spaced found : Bool) (h : length t ≤ 255) (is : clean ≡ all is_text t) (c : not clean ≡ false)
    (last : spaced ≡ ends_with (bytes " ") t) (s : spaced ≡ false) (found_is : found ≡ has semicolon t) where
  left_of_pattern : (not found && is_permitted (kind_of t)) ≡ is_pattern t
  unfolding is_pattern
  left_of_pattern = sym (rw (le-leb 0 (length t) (omega arith), le-leb (length t) 255 h, ← is, not-false clean c, ← last, s, ← found_is))

  pub semicolon_fails : found ≡ true → false ≡ is_pattern t
  semicolon_fails e = ap (λ (b : Bool). not b && is_permitted (kind_of t)) (sym e) ∙ left_of_pattern

  pub without_goes_on : (z : Bool) → found ≡ false → z ≡ is_permitted (kind_of t) → z ≡ is_pattern t
  without_goes_on z e f = f ∙ ap (λ (b : Bool). not b && is_permitted (kind_of t)) (sym e) ∙ left_of_pattern
