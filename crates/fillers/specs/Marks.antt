-- A table of marked numbers, one bit for each number below 65,536: for the proofs alone.
use Rattle.std.specs.Prelude.{ℕ, ◌/◌, ◌%◌, ◌≤◌, ◌<◌, ◌≡◌, Bool, not, ◌||◌, List, length, get_or, drop, eqb}
use Rattle.text.specs.Texts.{Text, bytes, starts_with}
use Rattle.entries.specs.Sets.{digit}
use Rattle.writing.specs.Decimals.{digits}
use Rattle.trials.specs.Fillers.{numbered, occurs, fills}

-- n is marked
unfoldable pub is_marked : List ℕ → ℕ → Bool
is_marked ws n = eqb (digit (n % 32) (get_or ws (n / 32) 0)) 1

-- those that pass are marked too, and no others
pub record MarkedToo (test : ℕ → Bool) (before after : List ℕ) : Type 0 where
  pub size : length after ≡ length before
  pub marks : (n : ℕ) → n < 65536 → is_marked after n ≡ test n || is_marked before n

-- ---- the numbers that a text makes unfit for the filler
-- t starts with the number
unfoldable pub leads : Text → ℕ → Bool
unfolding digits starts_with
leads t n = starts_with (digits 5 n) t

-- `q` and the number occur inside t
unfoldable pub within : Text → ℕ → Bool
unfolding digits occurs
within t n = occurs (numbered (bytes "q") n) t

-- no `q` stands among the first k bytes of t
pub record Passed (t : Text) (k : ℕ) : Type 0 where
  pub fits : k ≤ length t
  pub rest : (n : ℕ) → within t n ≡ within (drop k t) n

-- inside one of the texts
unfoldable pub within_any : List Text → ℕ → Bool
unfolding fills
within_any ts n = not (fills ts n)
