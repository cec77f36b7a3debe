use borrow.Author.Rules.{rules}
use Rattle.forming.proofs.Lefts.{left_all, done_place, done_bytes}
use Rattle.forming.proofs.Orders.{block_room, block_turn, blocks_over}
use Rattle.forming.proofs.arranging.put_blocks.Goals as goal

pub loop-i-init : goal.loop-i-init
loop-i-init c = search (rules, left_all)

pub put_block-e-requires : goal.put_block-e-requires
put_block-e-requires c = (search rules, (search rules, search (rules, block_room)))

pub loop-i-preserved : goal.loop-i-preserved
loop-i-preserved c = search (rules, block_turn)

pub returns-clause-place : goal.returns-clause-place
returns-clause-place c = search (rules, done_place, blocks_over)

pub returns-clause-bytes : goal.returns-clause-bytes
returns-clause-bytes c = search (rules, done_bytes, blocks_over)
