-- `name` meets its contract.
use borrow.Author.Rules.{rules}
use Rattle.markup.proofs.Places.{name_none, name_other, name_read}
use Rattle.markup.proofs.words.name.Goals.{else-at-s-via-then-at-s+else-is_name_start, else-at-s-via-else-at-s}
use Rattle.markup.proofs.words.name.Goals as goal

pub returns-then-is_name_start-clause-exact : goal.returns-then-is_name_start-clause-exact
returns-then-is_name_start-clause-exact c = search (rules, name_read)

pub returns-clause-exact : goal.returns-clause-exact
returns-clause-exact c =
    elim c.else-at-s.branch [ else-at-s-via-then-at-s+else-is_name_start w ↦ search (rules, name_other) | else-at-s-via-else-at-s w ↦ search (rules, name_none) ]
