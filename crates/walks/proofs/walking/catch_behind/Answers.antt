-- `walking::catch_behind` meets its contract: the best lines with the extension behind are judged.
use borrow.Author.Rules.{rules}
use Rattle.walks.proofs.Walkings.{behind_judged}
use Rattle.walks.proofs.walking.catch_behind.Goals as goal

pub returns : goal.returns
returns c = search (rules, behind_judged)
