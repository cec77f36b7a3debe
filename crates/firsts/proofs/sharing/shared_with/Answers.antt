-- `sharing::shared_with` meets its contract: by what is known of the nearest line, or by the texts.
use borrow.Author.Rules.{rules}
use Rattle.firsts.proofs.Sharings.{with_none, with_less, with_alike}
use Rattle.firsts.proofs.sharing.shared_with.Goals as goal

pub returns-then-i-p : goal.returns-then-i-p
returns-then-i-p c = search (rules, with_none)

pub returns-then-x-y : goal.returns-then-x-y
returns-then-x-y c = search (rules, with_less)

pub returns : goal.returns
returns c = search (rules, with_alike)
