-- `aside` meets its contract.
use borrow.Author.Rules.{rules}
use Rattle.markup.proofs.Surroundings.{aside_none, aside_white, aside_note}
use Rattle.markup.proofs.around.aside.Goals.{else-at-s-via-then-at-s+else-is_white, else-at-s-via-else-at-s}
use Rattle.markup.proofs.around.aside.Goals as goal

pub returns-then-is_white-clause-exact : goal.returns-then-is_white-clause-exact
returns-then-is_white-clause-exact c = search (rules, aside_white)

pub returns-clause-exact : goal.returns-clause-exact
returns-clause-exact c =
    elim c.else-at-s.branch [ else-at-s-via-then-at-s+else-is_white w ↦ search (rules, aside_note) | else-at-s-via-else-at-s w ↦ search (rules, aside_none) ]
