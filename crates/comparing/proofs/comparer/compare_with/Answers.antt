-- `comparer::compare_with` meets its contract: the first 4n numbers hold both listings and the scratch until they are zero.
use borrow.Author.Rules.{rules}
use Rattle.comparing.proofs.Compares.{table_zeroed}
use Rattle.comparing.proofs.comparer.compare_with.Goals as goal

pub returns-clause-work : goal.returns-clause-work
returns-clause-work c =
    table_zeroed _ _ c.compare_read-c.new.wo c.compare_read-c.new.wn c.compare_read-c.new.x c.split_at_mut-wo.result.1.now c.split_at_mut-wn.result.1.now _ c.zero_first.ensures
    (search rules) (search rules) (search rules) c.split_at_mut-wo.ensures.back c.split_at_mut-wn.ensures.back
