-- How much the records hold, against the most that a listing may hold: rule 8 of 01's table.
use Rattle.std.specs.Prelude.{ℕ, ◌+◌, Bool, ◌||◌, List, length, ltb}
use Rattle.limits.specs.Limits.{most_constraints, most_collections, most_patterns, most_method_lines, most_roles, most_methods}
use Rattle.listings.specs.Records.{Record, is_kind, fields_where, roles_in, methods_in}
use Rattle.listings.specs.declared.records.Kind.{Kind}
use Rattle.listings.specs.declared.records.Kind.TheVariants.{Constraint, Collection, Pattern, Method, Omit}

-- how many of the records are of that kind
unfoldable pub count : Kind → List Record → ℕ
unfolding fields_where
count k rs = length (fields_where (is_kind k) rs)

-- the records hold more than the most of something
unfoldable pub too_many : List Record → Bool
unfolding count roles_in methods_in
too_many rs =
    ltb most_constraints (count Constraint rs)
    || (ltb most_collections (count Collection rs)
    || (ltb most_patterns (count Pattern rs)
    || (ltb most_method_lines (count Method rs + count Omit rs)
    || (ltb most_roles (length (roles_in rs))
    || ltb most_methods (length (methods_in rs))))))
