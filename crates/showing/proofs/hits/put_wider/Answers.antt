-- `hits::put_wider` meets its contract: both parts.
use borrow.Author.Rules.{rules}
use Rattle.showing.proofs.Pieces.{answer_size_lem, answer_bytes}
use Rattle.showing.proofs.hits.put_wider.Goals as goal

pub returns-clause-size : goal.returns-clause-size
returns-clause-size c = search (rules, answer_size_lem)

pub returns-clause-bytes : goal.returns-clause-bytes
returns-clause-bytes c = search (rules, answer_bytes)
