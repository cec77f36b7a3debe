-- How a request is stored: two bytes for the listing's length, two for the path's, two for the method's, four for the login number and two for
-- the length of the roles, each number's little end first; then the bytes of the listing, the path, the method and the roles.
use Rattle.std.specs.Prelude.{ℕ, ◌+◌, ◌*◌, List, get_or}

-- the number that two bytes from offset i on make, a missing one being 0
abbrev pub two_at : List ℕ → ℕ → ℕ
two_at s i = get_or s i 0 + get_or s (i + 1) 0 * 256

-- the number that four bytes from offset i on make
abbrev pub four_at : List ℕ → ℕ → ℕ
four_at s i = two_at s i + two_at s (i + 2) * 65536
