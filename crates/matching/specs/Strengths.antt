-- The best match by a number for each pattern text, and by the number of its line: for the proofs alone, which show that it is Matching's.
use Rattle.std.specs.Prelude.{ℕ, ◌+◌, ◌-◌, ◌≤◌, ◌≡◌, Bool, true, false, cond, ◌&&◌, List, length, take, drop, eqb, ltb}
use Rattle.std.proofs.Math.Option.{Option, none, some}
use Rattle.text.specs.Texts.{Text, bytes, dot, same, has, starts_with, ends_with, run}
use Rattle.names.specs.Patterns.{PatternKind, exact, prefix, extension, default, unpermitted, is_extension, kind_of}
use Rattle.decisions.specs.Matching.{after_last, last_segment, has_extension, is_under, kind_matches, matches}
use Rattle.matching.specs.declared.Leading.{Leading}
use Rattle.matching.specs.declared.Ending.{Ending}
use Rattle.matching.specs.declared.Ending.TheVariants.{Extension, Segment}

-- the better kind has the greater number, the patterns' texts having 255 bytes at most
abbrev pub kind_strength : PatternKind → ℕ
kind_strength (exact q) = 1000
kind_strength (prefix p) = 3 + length p
kind_strength (extension e) = 2
kind_strength default = 1
kind_strength unpermitted = 0

-- 0 where the pattern text does not match the path
unfoldable pub strength : Text → Text → ℕ
unfolding kind_of kind_matches
strength t path = cond (matches t path) (kind_strength (kind_of t)) 0

-- the same for a text that starts with `/` and is longer
unfoldable pub rooted_strength : Text → Text → ℕ
unfolding is_under same ends_with
rooted_strength t path =
    cond (ends_with (bytes "/*") t)
    (cond (is_under (take (length t - 2) t) path) (3 + length (take (length t - 2) t)) 0)
    (cond (same t path) 1000 0)

-- the same for a text that is not empty and does not start with `/`
unfoldable pub starred_strength : Text → Text → ℕ
unfolding starts_with is_extension has_extension
starred_strength t path = cond (starts_with (bytes "*.") t && is_extension (drop 2 t)) (cond (has_extension (drop 2 t) path) 2 0) 0

-- an ending tells of a `.`, and has an offset in any case
abbrev pub has_dot : Ending → Bool
has_dot (Extension at) = true
has_dot (Segment at) = false

abbrev pub offset_of : Ending → ℕ
offset_of (Extension at) = at
offset_of (Segment at) = at

-- x is how the path ends: whether its last segment has a `.`, and the offset of what follows the last one, or of the segment where it has none
pub record Ends (path : Text) (x : Ending) : Type 0 where
  pub dotted : has_dot x ≡ has dot (last_segment path)
  pub behind : drop (offset_of x) path ≡ after_last dot (last_segment path)
  pub within : offset_of x ≤ length path

-- while the pattern texts are gone through: how many are, the line of the first of the strongest, and its strength, 0 where none matches
abbrev pub start_leading : Leading
start_leading = record { seen = 0; at = 0; most = 0 }

-- with a text more of strength s
abbrev pub lead_by : Leading → ℕ → Leading
lead_by x s = record { seen = x.seen + 1; at = cond (ltb x.most s) x.seen x.at; most = cond (ltb x.most s) s x.most }

unfoldable pub lead : Text → Leading → Text → Leading
unfolding strength
lead path x t = lead_by x (strength t path)

unfoldable pub leading : List Text → Text → Leading
unfolding run lead
leading ts path = run (lead path) start_leading ts

-- the line of the best match, from 0
unfoldable pub best_line : List Text → Text → Option ℕ
unfolding leading
best_line ts path = cond (eqb (leading ts path).most 0) none (some (leading ts path).at)
