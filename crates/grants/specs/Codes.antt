-- What is joined, as one number: the roles, and above them a digit each for a constraint at all (2^32), one that is open (2^33) and one that closes (2^34). For the proofs alone.
use Rattle.std.specs.Prelude.{ℕ, ◌+◌, ◌/◌, ◌%◌, ◌<◌, ◌≡◌, cond, List, length, get_or, eqb}
use Rattle.std.specs.Int.Bits.{bit_or}
use Rattle.entries.specs.Sets.{digit}
use Rattle.reading.specs.declared.held.Access.{Access}
use Rattle.reading.specs.declared.held.Access.TheVariants.{Open, Closed, ByRole}
use Rattle.deciding.specs.Joinings.{nothing_joined}
use Rattle.deciding.specs.declared.joining.Joined.{Joined}
use Rattle.grants.specs.Sides.{grantees_of, joined_along}

-- what a constraint says
abbrev pub code_of : Access → ℕ
code_of Open = 12884901888
code_of Closed = 21474836480
code_of (ByRole x) = 4294967296 + x

-- what is joined in a number
unfoldable pub joined_in : ℕ → Joined
joined_in x =
    record {
      any = eqb (x / 4294967296 % 2) 1;
      closed = eqb (x / 17179869184 % 2) 1;
      free = eqb (x / 8589934592 % 2) 1;
      roles = x % 4294967296;
    }

-- ---- in a roster, for each method
abbrev pub none : ℕ → ℕ
none m = 0

-- a line's number for method m, where it covers that
abbrev pub code_for : ℕ → ℕ → ℕ → ℕ
code_for cover code m = cond (eqb (digit m cover) 1) code 0

abbrev pub joined_with : ℕ → ℕ → List ℕ → ℕ → ℕ
joined_with cover code roster m = bit_or (get_or roster m 0) (code_for cover code m)

abbrev pub grantees_at : List ℕ → ℕ → ℕ
grantees_at roster m = grantees_of (joined_in (get_or roster m 0))

-- the lines with the text of line `first`, from there on, are joined in the roster; n lines in all
pub record Along (side : List ℕ) (n first : ℕ) (roster : List ℕ) : Type 0 where
  pub size : length roster ≡ 32
  pub all : (m : ℕ) → m < 32 → joined_in (get_or roster m 0) ≡ joined_along n side n m first nothing_joined
