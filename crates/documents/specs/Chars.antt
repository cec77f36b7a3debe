-- The kinds of bytes in an XML text, and the runs of one kind. Bytes above 127 are not decoded: each may stand in a name and in a text.
use Rattle.std.specs.Prelude.{Bool, false, not, cond, ◌&&◌, ◌||◌, [], ◌∷◌, ℕ, eqb, leb}
use Rattle.text.specs.Texts.{Text, all}
use Rattle.text.specs.Bytes.{between}

-- ---- kinds of bytes
-- space, tab, line feed, carriage return
unfoldable pub is_white : ℕ → Bool
is_white b = eqb b 32 || eqb b 9 || eqb b 10 || eqb b 13

-- what may stand in a file: white space and all from 32 on
unfoldable pub is_char : ℕ → Bool
is_char b = is_white b || leb 32 b

-- what stands for itself in a text: all but `<` and `&`
unfoldable pub is_plain : ℕ → Bool
is_plain b = is_char b && not (eqb b 60) && not (eqb b 38)

-- letters, `_`, `:`, and bytes above 127
unfoldable pub is_name_start : ℕ → Bool
is_name_start b = between 97 122 b || between 65 90 b || eqb b 95 || eqb b 58 || leb 128 b

-- these, digits, `-` and `.`
unfoldable pub is_name_byte : ℕ → Bool
is_name_byte b = is_name_start b || between 48 57 b || eqb b 45 || eqb b 46

-- `"` and `'`
unfoldable pub is_quote : ℕ → Bool
is_quote b = eqb b 34 || eqb b 39

-- ---- runs
-- there is a next byte, and it is of the kind p
abbrev pub next : (ℕ → Bool) → Text → Bool
next p [] = false
next p (b ∷ s) = p b

-- the longest run of the kind p at the start, and what follows it
unfoldable pub front : (ℕ → Bool) → Text → Text
front p [] = []
front p (b ∷ s) = cond (p b) (b ∷ front p s) []

unfoldable pub after : (ℕ → Bool) → Text → Text
after p [] = []
after p (b ∷ s) = cond (p b) (after p s) (b ∷ s)

-- white space, none too; one byte of it at least; a name of a tag or an attribute
abbrev pub is_space : Text → Bool
is_space w = all is_white w

abbrev pub is_gap : Text → Bool
is_gap w = next is_white w && all is_white w

abbrev pub is_tag_name : Text → Bool
is_tag_name n = next is_name_start n && all is_name_byte n
