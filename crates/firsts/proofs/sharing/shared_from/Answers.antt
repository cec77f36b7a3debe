use borrow.Author.Rules.{rules}
use Rattle.firsts.proofs.Sharings.{share_ends, share_differs, share_goes}
use Rattle.firsts.proofs.sharing.shared_from.Goals as goal

pub returns-then-t-i : goal.returns-then-t-i
returns-then-t-i c = search (rules, share_differs)

pub loop-i-preserved : goal.loop-i-preserved
loop-i-preserved c = search (rules, share_goes)

pub returns : goal.returns
returns c = search (rules, share_ends)
