-- The names of the files that the programs read.
use Rattle.std.specs.Prelude.{ℕ, zero, suc, ◌+◌, ◌/◌, ◌%◌, [], ◌∷◌, ◌++◌}
use Rattle.text.specs.Texts.{Text, bytes}

-- the ASCII code of the last decimal digit of n: 48 is that of 0
abbrev pub last_digit : ℕ → ℕ
last_digit n = 48 + n % 10

-- the last i decimal digits of n, the most significant first
abbrev pub last_digits : ℕ → ℕ → Text
last_digits zero n = []
last_digits (suc i) n = last_digits i (n / 10) ++ (last_digit n ∷ [])

-- `case` and the last three digits of k
abbrev pub case_name : ℕ → Text
case_name k = bytes "case" ++ last_digits 3 k
