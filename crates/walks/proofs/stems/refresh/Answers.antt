-- `stems::refresh` meets its contract.
use borrow.Author.Rules.{rules}
use Rattle.walks.proofs.Gatherings.{table_long, lines_few, roster_on_table}
use Rattle.walks.proofs.stems.refresh.Goals as goal

pub refresh-requires : goal.refresh-requires
refresh-requires c = ((search (rules, table_long), search (rules, lines_few)), search (rules, roster_on_table))
