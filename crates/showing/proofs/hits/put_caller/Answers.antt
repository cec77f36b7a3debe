-- `hits::put_caller` meets its contract: one line or the other.
use borrow.Author.Rules.{rules}
use Rattle.showing.proofs.Pieces.{role_from, role_short, role_near, role_there, none_offset, none_bytes, role_offset, role_bytes}
use Rattle.showing.proofs.hits.put_caller.Goals as goal

pub returns-then-c-eq0-clause-offset : goal.returns-then-c-eq0-clause-offset
returns-then-c-eq0-clause-offset c = search (rules, none_offset)

pub returns-then-c-eq0-clause-bytes : goal.returns-then-c-eq0-clause-bytes
returns-then-c-eq0-clause-bytes c = search (rules, none_bytes)

pub overflow_sub-c : goal.overflow_sub-c
overflow_sub-c c = search (rules, role_from)

pub role-requires : goal.role-requires
role-requires c = search (rules, role_there)

pub put-b-requires : goal.put-b-requires
put-b-requires c = (search rules, search (rules, role_short))

pub put-requires-2 : goal.put-requires-2
put-requires-2 c = (search (rules, role_near), search rules)

pub returns-clause-offset : goal.returns-clause-offset
returns-clause-offset c = search (rules, role_offset)

pub returns-clause-bytes : goal.returns-clause-bytes
returns-clause-bytes c = search (rules, role_bytes)
