-- `answers::refuse` meets its contract: the length 0 beside a report.
use borrow.Author.Rules.{rules}
use Rattle.comparisons.proofs.Handing.{refused_whole}
use Rattle.comparisons.proofs.answers.refuse.Goals as goal

pub returns : goal.returns
returns c = search (rules, refused_whole)
