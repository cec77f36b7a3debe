-- What the field of a record has to be, by its kind: rules 6 and 7 of 01's table.
use Rattle.std.specs.Prelude.{Bool, true}
use Rattle.names.specs.Names.{is_name, is_role_name, is_method_name, is_pattern, is_constraint_kind}
use Rattle.listings.specs.Records.{Record}
use Rattle.listings.specs.declared.records.Kind.TheVariants.{Role, Constraint, Allow, Collection, Pattern, Method, Omit, End}

-- the name or the constraint kind in a record's field is good
unfoldable pub name_fits : Record → Bool
unfolding is_role_name is_name is_method_name is_constraint_kind
name_fits r = elim r.kind [
  | Role ↦ is_role_name r.field
  | Constraint ↦ is_constraint_kind r.field
  | Allow ↦ is_name r.field
  | Collection ↦ true
  | Pattern ↦ true
  | Method ↦ is_method_name r.field
  | Omit ↦ is_method_name r.field
  | End ↦ true
]

-- the pattern in a record's field is good
unfoldable pub pattern_fits : Record → Bool
unfolding is_pattern
pattern_fits r = elim r.kind [
  | Role ↦ true
  | Constraint ↦ true
  | Allow ↦ true
  | Collection ↦ true
  | Pattern ↦ is_pattern r.field
  | Method ↦ true
  | Omit ↦ true
  | End ↦ true
]
