-- "Every call also takes a lent work table of 32-bit numbers, whose earlier contents never matter."
use Rattle.std.specs.Prelude.{ℕ, Bool, cond, List, ◌++◌, length, replicate, drop, ltb}

abbrev pub work_size : ℕ
work_size = 4096

-- 1: "work table below 4,096 numbers"
abbrev pub is_short : List ℕ → Bool
is_short w = ltb (length w) work_size

-- the first n numbers zero, and the rest as before
unfoldable pub zeroed : ℕ → List ℕ → List ℕ
zeroed n w = replicate n 0 ++ drop n w

-- "After every call the first 4,096 work numbers are zero and the rest as before; with refusal 1 none changes."
unfoldable pub work_after : List ℕ → List ℕ
unfolding zeroed
work_after w = cond (is_short w) w (zeroed work_size w)
