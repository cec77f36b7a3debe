-- What the test of a work table's length says.
use mathlib.Core.Path.{◌≡◌, sym, ◌∙◌}
use mathlib.Core.Bool.{Bool, true, false}
use mathlib.Core.List.{List}
use Prim.Native.Nat.{ℕ, ◌≤◌, ◌<◌}
use lib.ListN.{length}
use borrow.Author.Tests.{ltb-true, ltb-false}
use Rattle.worktable.specs.Work.{work_size, is_short}

module _ (w : List ℕ) (b : Bool) (is : b ≡ is_short w) where
  pub too_short : b ≡ true → length w < 4096
  too_short y = ltb-true (length w) work_size (sym is ∙ y)

  pub long_enough : b ≡ false → 4096 ≤ length w
  long_enough n = ltb-false (length w) work_size (sym is ∙ n)
