-- `names::is_extension` meets its contract, test by test.
use borrow.Author.Rules.{rules}
use Rattle.names.specs.Patterns.{is_extension}
use Rattle.names.proofs.Namings.{tests}
use Rattle.names.proofs.is_extension.Goals as goal
use Rattle.names.proofs.is_extension.Goals.{then-not-is_empty, else-not-is_empty, then-not-has_byte, else-not-has_byte}

pub returns-then-not-has_byte-2 : goal.returns-then-not-has_byte-2
unfolding is_extension
returns-then-not-has_byte-2 c =
    elim c.if-not-has_byte.branch [
      | then-not-has_byte u ↦ elim c.if-not-is_empty.branch [ then-not-is_empty v ↦ search (rules, tests) | else-not-is_empty v ↦ search rules ]
      | else-not-has_byte u ↦ search rules
    ]
