-- What role names, methods and patterns have to be.
use Rattle.std.specs.Prelude.{ℕ, Bool, not, ◌&&◌, ◌||◌, length}
use Rattle.text.specs.Texts.{Text, bytes, semicolon, same, has, all, starts_with, ends_with}
use Rattle.text.specs.Bytes.{between, is_text, is_token}
use Rattle.names.specs.Patterns.{kind_of, is_permitted}

-- lo to hi bytes, all of one class
abbrev pub made_of : (ℕ → Bool) → ℕ → ℕ → Text → Bool
made_of class lo hi t = between lo hi (length t) && all class t

-- "1 to 64 text bytes, no space first or last", `*` among them
unfoldable pub is_name : Text → Bool
unfolding all starts_with ends_with
is_name t = made_of is_text 1 64 t && (not (starts_with (bytes " ") t) && not (ends_with (bytes " ") t))

-- the name that in `allow⇥*` stands for every declared role
unfoldable pub is_star : Text → Bool
unfolding same
is_star n = same n (bytes "*")

-- "Role names: ..; `*` is only for `allow`"
unfoldable pub is_role_name : Text → Bool
unfolding is_name is_star
is_role_name t = is_name t && not (is_star t)

-- "Methods: 1 to 24 token bytes, case kept"
unfoldable pub is_method_name : Text → Bool
unfolding all
is_method_name t = made_of is_token 1 24 t

-- "Patterns: 0 to 255 text bytes, no space last", of a kind that 01 permits; 02: "no pattern may hold a `;` now"
unfoldable pub is_pattern : Text → Bool
unfolding all has ends_with kind_of
is_pattern t = made_of is_text 0 255 t && (not (ends_with (bytes " ") t) && (not (has semicolon t) && is_permitted (kind_of t)))

-- "`constraint⇥open` or `constraint⇥auth`"
unfoldable pub is_constraint_kind : Text → Bool
unfolding same
is_constraint_kind t = same t (bytes "open") || same t (bytes "auth")
