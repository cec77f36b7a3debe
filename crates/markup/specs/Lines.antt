-- The line of a place: "line 1 is the first, and each byte 10 ends a line".
use Rattle.std.specs.Prelude.{ℕ, suc, min, ◌-◌, cond, [], ◌∷◌, eqb, length, take}
use Rattle.text.specs.Texts.{Text, newline}

-- how often the byte b stands in t
unfoldable pub count : ℕ → Text → ℕ
count b [] = 0
count b (x ∷ xs) = cond (eqb b x) (suc (count b xs)) (count b xs)

-- the line of the place p in s: one more than there are bytes 10 before it. Behind the end it is the last line, which is that of the last byte
unfoldable pub line_at : Text → ℕ → ℕ
line_at s p = suc (count newline (take (min p (length s - 1)) s))
