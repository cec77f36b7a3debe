-- A path without its parameters: 02, "In every segment drop the bytes from the first `;` up to the next `/` or the end, then match".
use Rattle.std.specs.Prelude.{ℕ, Bool, false, not, cond, ◌&&◌, ◌||◌, [], ◌∷◌, ◌++◌, eqb}
use Rattle.text.specs.Texts.{Text, slash, semicolon}

-- byte x is dropped: it is no `/`, and is a `;` or stands behind one of its segment
abbrev pub is_dropped : Bool → ℕ → Bool
is_dropped behind x = not (eqb slash x) && (behind || eqb semicolon x)

-- what is left of a text, of which the first byte stands behind a `;` of its segment, or not
unfoldable pub left_of : Bool → Text → Text
left_of behind [] = []
left_of behind (x ∷ xs) = cond (is_dropped behind x) [] (x ∷ []) ++ left_of (is_dropped behind x) xs

-- the path without its parameters
unfoldable pub dropped : Text → Text
unfolding left_of
dropped path = left_of false path
