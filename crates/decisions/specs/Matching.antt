-- "Patterns and best match".
use Rattle.std.specs.Prelude.{ℕ, ◌≡◌, Bool, true, false, cond, ◌&&◌, ◌||◌, length, eqb, ltb}
use mathlib.Core.List.{List, [], ◌∷◌, ◌++◌, Memᴰ}
use Rattle.std.proofs.Math.Option.{Option, none, some}
use Rattle.text.specs.Texts.{Text, slash, dot, same, has, starts_with}
use Rattle.names.specs.Patterns.{PatternKind, exact, prefix, extension, default, unpermitted, kind_of}

-- ---- matching
-- what follows the last b in t, or keep where it has none
unfoldable pub after_last_or : ℕ → Text → Text → Text
after_last_or b keep [] = keep
after_last_or b keep (x ∷ xs) = after_last_or b (cond (eqb b x) xs keep) xs

-- what follows the last b, or all of t where it has none
abbrev pub after_last : ℕ → Text → Text
after_last b t = after_last_or b t t

-- "the last segment (after the last `/`)"
abbrev pub last_segment : Text → Text
last_segment path = after_last slash path

-- "the last segment has a `.` and E is what follows the last one"
unfoldable pub has_extension : Text → Text → Bool
unfolding has same after_last_or
has_extension e path = has dot (last_segment path) && same (after_last dot (last_segment path)) e

-- "P itself and every path that starts with P followed by `/`"
unfoldable pub is_under : Text → Text → Bool
unfolding same starts_with
is_under p path = same p path || starts_with (p ++ slash ∷ []) path

unfoldable pub kind_matches : PatternKind → Text → Bool
unfolding same is_under has_extension
kind_matches (exact q) path = same q path
kind_matches (prefix p) path = is_under p path
kind_matches (extension e) path = has_extension e path
kind_matches default path = true
kind_matches unpermitted path = false

-- the pattern text t matches the path
abbrev pub matches : Text → Text → Bool
matches t path = kind_matches (kind_of t) path

-- ---- "Best match: exact; else the longest P; else extension; else default; else none."
abbrev pub rank : PatternKind → ℕ
rank (exact q) = 4
rank (prefix p) = 3
rank (extension e) = 2
rank default = 1
rank unpermitted = 0

-- how long P is; of the other kinds at most one text matches a path
abbrev pub size : PatternKind → ℕ
size (exact q) = 0
size (prefix p) = length p
size (extension e) = 0
size default = 0
size unpermitted = 0

-- k is better than l
abbrev pub is_better : PatternKind → PatternKind → Bool
is_better k l = ltb (rank l) (rank k) || (eqb (rank l) (rank k) && ltb (size l) (size k))

-- t is the best match for the path among the pattern texts: it matches, and none that matches is better
pub record IsBest (ts : List Text) (path t : Text) : Type 0 where
  pub listed : Memᴰ t ts
  pub matching : matches t path ≡ true
  pub strongest : (u : Text) → Memᴰ u ts → matches u path ≡ true → is_better (kind_of u) (kind_of t) ≡ false

-- the same, found
unfoldable pub better_of : Text → Option Text → Option Text
unfolding kind_of
better_of t none = some t
better_of t (some u) = cond (is_better (kind_of u) (kind_of t)) (some u) (some t)

unfoldable pub best : List Text → Text → Option Text
unfolding kind_matches better_of
best [] path = none
best (t ∷ ts) path = cond (matches t path) (better_of t (best ts path)) (best ts path)

-- ---- an extension in plain words, for the theorem `extension_plain`: "matches when the last segment (after the last `/`) has a `.` and E is what follows the last one"
-- the path is front`/`name`.`e
pub record Extended (e path : Text) : Type 0 where
  pub front : Text
  pub name : Text
  pub whole : path ≡ front ++ slash ∷ (name ++ dot ∷ e)
  -- no `/` behind that one, so name`.`e is the last segment
  pub segment : has slash (name ++ dot ∷ e) ≡ false
  -- no `.` behind that one
  pub last : has dot e ≡ false
