-- `lines::put_head` meets its contract.
use borrow.Author.Rules.{rules}
use Rattle.forming.proofs.Pieces.{head_place, head_bytes}
use Rattle.forming.proofs.lines.put_head.Goals as goal

pub returns-clause-place : goal.returns-clause-place
returns-clause-place c = search (rules, head_place)

pub returns-clause-bytes : goal.returns-clause-bytes
returns-clause-bytes c = search (rules, head_bytes)
