-- `entering::near_of` meets its contract: a repeat has the first line with its text.
use borrow.Author.Rules.{rules}
use Rattle.firsts.proofs.Enterings.{near_own, near_other}
use Rattle.firsts.proofs.entering.near_of.Goals as goal

pub returns-then-f-j : goal.returns-then-f-j
returns-then-f-j c = search (rules, near_own)

pub returns : goal.returns
returns c = search (rules, near_other)
