-- `hits::put_tail` meets its contract: three pieces one after the other.
use borrow.Author.Rules.{rules}
use Rattle.showing.proofs.Pieces.{method_near, caller_near, tail_offset, tail_bytes}
use Rattle.showing.proofs.hits.put_tail.Goals as goal

pub put-b-requires : goal.put-b-requires
put-b-requires c = (search (rules, method_near), search rules)

pub put_caller-requires : goal.put_caller-requires
put_caller-requires c = (search rules, (search rules, search (rules, caller_near)))

pub returns-clause-offset : goal.returns-clause-offset
returns-clause-offset c = search (rules, tail_offset)

pub returns-clause-bytes : goal.returns-clause-bytes
returns-clause-bytes c = search (rules, tail_bytes)
