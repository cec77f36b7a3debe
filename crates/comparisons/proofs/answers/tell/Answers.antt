-- `answers::tell` meets its contract: a length beside a report of nothing.
use borrow.Author.Rules.{rules}
use Rattle.comparisons.proofs.Handing.{told_whole}
use Rattle.comparisons.proofs.answers.tell.Goals as goal

pub returns : goal.returns
returns c = search (rules, told_whole)
