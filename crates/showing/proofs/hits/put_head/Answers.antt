-- `hits::put_head` meets its contract: three pieces one after the other.
use borrow.Author.Rules.{rules}
use Rattle.showing.proofs.Pieces.{path_near, head_near, head_offset, head_bytes}
use Rattle.showing.proofs.hits.put_head.Goals as goal

pub put-requires : goal.put-requires
put-requires c = (search (rules, path_near), search rules)

pub returns-clause-offset : goal.returns-clause-offset
returns-clause-offset c = search (rules, head_offset)

pub returns-clause-near : goal.returns-clause-near
returns-clause-near c = search (rules, head_near)

pub returns-clause-bytes : goal.returns-clause-bytes
returns-clause-bytes c = search (rules, head_bytes)
