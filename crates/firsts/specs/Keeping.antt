-- What a call keeps of the lent work table. For the proofs alone.
use Rattle.std.specs.Prelude.{ℕ, ◌≤◌, ◌<◌, ◌≡◌, List, length, get_or}

-- w is w₀ but for its numbers from offset a up to offset e
pub record Kept (a e : ℕ) (w₀ w : List ℕ) : Type 0 where
  pub size : length w ≡ length w₀
  pub before : (i : ℕ) → i < a → get_or w i 0 ≡ get_or w₀ i 0
  pub behind : (i : ℕ) → e ≤ i → get_or w i 0 ≡ get_or w₀ i 0
