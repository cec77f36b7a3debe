-- Sets of numbers below 32, as the digits of a number.
use Rattle.std.specs.Prelude.{ℕ, zero, suc, ◌+◌, ◌-◌, ◌*◌, ◌/◌, ◌%◌, ◌^◌, Bool, cond}
use Rattle.std.specs.Int.Bits.{bit_and, bit_or}

-- the number whose digit i, for each i below k, is 1 where f i holds and else 0
unfoldable pub set_of : ℕ → (ℕ → Bool) → ℕ
set_of zero f = 0
set_of (suc k) f = cond (f 0) 1 0 + 2 * set_of k (λ i. f (suc i))

-- digit i
abbrev pub digit : ℕ → ℕ → ℕ
digit i x = x / 2 ^ i % 2

-- i put in
abbrev pub with_member : ℕ → ℕ → ℕ
with_member x i = bit_or x (2 ^ i)

-- i taken out
abbrev pub without_member : ℕ → ℕ → ℕ
without_member x i = bit_and x (4294967295 - 2 ^ i)

-- all of 0 to 31
abbrev pub everything : ℕ
everything = 4294967295

-- the n lowest
abbrev pub lowest : ℕ → ℕ
lowest n = 2 ^ n - 1
