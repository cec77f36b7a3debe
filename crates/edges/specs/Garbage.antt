-- What the work table holds before a call, and the tests of it afterwards.
use Rattle.std.specs.Prelude.{ℕ, zero, suc, ◌+◌, ◌*◌, Bool, true, ◌&&◌, List, [], ◌∷◌, take, drop, eqb}

-- what stands at index i before a call
abbrev pub garbage_at : ℕ → ℕ
garbage_at i = i * 858993 + 1

-- n numbers of it, from index i on
unfoldable pub garbage : ℕ → ℕ → List ℕ
garbage i zero = []
garbage i (suc n) = garbage_at i ∷ garbage (suc i) n

-- each number of w is what f says of its index, the first one's index being i
unfoldable pub agrees : (ℕ → ℕ) → ℕ → List ℕ → Bool
agrees f i [] = true
agrees f i (x ∷ xs) = eqb x (f i) && agrees f (suc i) xs

-- every number is 0
abbrev pub is_zero : List ℕ → Bool
is_zero w = agrees (λ (i : ℕ). 0) 0 w

-- from index a on, w is as it was filled
abbrev pub is_kept : ℕ → List ℕ → Bool
is_kept a w = agrees garbage_at a (drop a w)

-- the first n numbers are 0, and the rest as they were filled
abbrev pub is_cleared : ℕ → List ℕ → Bool
is_cleared n w = is_zero (take n w) && is_kept n w
