-- A number in decimal.
use Rattle.std.specs.Prelude.{ℕ, zero, suc, ◌+◌, ◌/◌, ◌%◌, cond, [], ◌∷◌, ◌++◌, ltb}
use Rattle.text.specs.Texts.{Text}

-- the decimal digits of n, the last k of them where it has more
unfoldable pub digits : ℕ → ℕ → Text
digits zero n = []
digits (suc k) n = cond (ltb n 10) ((48 + n) ∷ []) (digits k (n / 10) ++ (48 + n % 10) ∷ [])
