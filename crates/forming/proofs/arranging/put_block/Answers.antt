-- `arranging::put_block` meets its contract: a constraint with the names that it allows, or another record.
use borrow.Author.Rules.{rules}
use Rattle.forming.proofs.Orders.{put_place, put_bytes, block_writable, allows_room, constraint_place, constraint_bytes, part_begun}
use Rattle.forming.proofs.arranging.put_block.Goals as goal

pub put_record-e-requires : goal.put_record-e-requires
put_record-e-requires c = search (rules, block_writable)

pub put_allows-requires : goal.put_allows-requires
put_allows-requires c = (search rules, (search rules, search (rules, allows_room)))

pub returns-then-is_constraint-clause-place : goal.returns-then-is_constraint-clause-place
returns-then-is_constraint-clause-place c = search (rules, constraint_place)

pub returns-then-is_constraint-clause-bytes : goal.returns-then-is_constraint-clause-bytes
returns-then-is_constraint-clause-bytes c = search (rules, constraint_bytes)

pub put_if-requires : goal.put_if-requires
put_if-requires c = search (rules, block_writable)

pub returns-clause-place : goal.returns-clause-place
returns-clause-place c = search (rules, put_place, part_begun)

pub returns-clause-bytes : goal.returns-clause-bytes
returns-clause-bytes c = search (rules, put_bytes, part_begun)
