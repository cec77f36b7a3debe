-- `entering::share_line` meets its contract: one number is stored.
use borrow.Author.Rules.{rules}
use Rattle.firsts.proofs.Sharings.{share_compared, share_small, share_entered}
use Rattle.firsts.proofs.entering.share_line.Goals as goal

pub is_same-found-requires : goal.is_same-found-requires
is_same-found-requires c = search (rules, share_compared)

pub overflow_cast-w : goal.overflow_cast-w
overflow_cast-w c = search (rules, share_small)

pub returns : goal.returns
returns c = search (rules, share_entered)
