-- `keep` meets its contract.
use borrow.Author.Rules.{rules}
use Rattle.markup.proofs.Keepings.{keep_none, keep_white, keep_other}
use Rattle.markup.proofs.gathering.keep.Goals.{else-k-eq0-via-then-k-eq0+else-w, else-k-eq0-via-else-k-eq0}
use Rattle.markup.proofs.gathering.keep.Goals as goal

pub returns-then-w : goal.returns-then-w
returns-then-w c = search (rules, keep_none)

pub returns-then-w-2 : goal.returns-then-w-2
returns-then-w-2 c =
    elim c.else-k-eq0.branch [ else-k-eq0-via-then-k-eq0+else-w w ↦ cc | else-k-eq0-via-else-k-eq0 w ↦ search (rules, keep_white) ]

pub returns-else-w-2 : goal.returns-else-w-2
returns-else-w-2 c = search (rules, keep_other)
