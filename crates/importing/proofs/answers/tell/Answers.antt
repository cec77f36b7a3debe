-- `answers::tell` meets its contract: the report is the one that is made.
use borrow.Author.Rules.{rules}
use Rattle.importing.proofs.Makings.{handed_is}
use Rattle.importing.proofs.answers.tell.Goals as goal

pub returns : goal.returns
returns c = search (rules, handed_is)
