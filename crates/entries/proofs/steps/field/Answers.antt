-- `steps::field` meets its contract: by what the step of each kind ensures.
use borrow.Author.Rules.{rules}
use Rattle.entries.proofs.Effects.{field_role, field_constraint, field_allow, field_collection, field_pattern, field_line, field_end}
use Rattle.entries.proofs.steps.field.Goals as goal

pub returns-in-Role : goal.returns-in-Role
returns-in-Role c = search (rules, field_role)

pub returns-in-Constraint : goal.returns-in-Constraint
returns-in-Constraint c = search (rules, field_constraint)

pub returns-in-Allow : goal.returns-in-Allow
returns-in-Allow c = search (rules, field_allow)

pub returns-in-Collection : goal.returns-in-Collection
returns-in-Collection c = search (rules, field_collection)

pub returns-in-Pattern : goal.returns-in-Pattern
returns-in-Pattern c = search (rules, field_pattern)

pub returns-in-End : goal.returns-in-End
returns-in-End c = search (rules, field_end)

pub returns-in-Method : goal.returns-in-Method
returns-in-Method c = field_line _ _ _ _ _ _ _ _ _ c.in-Method.is (λ z. rw z at c.eq.ensures) (λ z. rw z at c.eq.ensures) c.method.ensures
