-- `reader::fill_lines` meets its contract: a law of Walks for each way through the loop.
use borrow.Author.Rules.{rules}
use Rattle.reading.proofs.Walks.{walk_starts, walk_bad, walk_closed, walk_on, walk_falls, walk_ends}
use Rattle.reading.proofs.reader.fill_lines.Goals as goal

pub loop-c-init : goal.loop-c-init
loop-c-init c = search (rules, walk_starts)

pub returns-in-Err : goal.returns-in-Err
returns-in-Err c = search (rules, walk_bad)

pub returns-in-Ended : goal.returns-in-Ended
returns-in-Ended c = search (rules, walk_closed)

pub loop-c-smaller : goal.loop-c-smaller
loop-c-smaller c = search (rules, walk_falls)

pub loop-c-preserved : goal.loop-c-preserved
loop-c-preserved c = search (rules, walk_on)

pub returns : goal.returns
returns c = search (rules, walk_ends)
