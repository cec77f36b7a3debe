-- "Most per listing: 24,576 bytes, 64 constraints, 128 collections, 128 `pattern` lines, 512 `method` and `omit` lines together,
-- 32 distinct role names (declared or allowed, `*` not counted), 31 distinct methods."
use Rattle.std.specs.Prelude.{ℕ}
use Rattle.limits.specs.declared.Counted.{Counted}
use Rattle.limits.specs.declared.Counted.TheVariants.{Bytes, Constraints, Collections, Patterns, MethodLines, Roles, Methods}

abbrev pub most_bytes : ℕ
most_bytes = 24576

abbrev pub most_constraints : ℕ
most_constraints = 64

abbrev pub most_collections : ℕ
most_collections = 128

abbrev pub most_patterns : ℕ
most_patterns = 128

abbrev pub most_method_lines : ℕ
most_method_lines = 512

abbrev pub most_roles : ℕ
most_roles = 32

abbrev pub most_methods : ℕ
most_methods = 31

-- the same, by what is counted
abbrev pub most_of : Counted → ℕ
most_of Bytes = most_bytes
most_of Constraints = most_constraints
most_of Collections = most_collections
most_of Patterns = most_patterns
most_of MethodLines = most_method_lines
most_of Roles = most_roles
most_of Methods = most_methods
