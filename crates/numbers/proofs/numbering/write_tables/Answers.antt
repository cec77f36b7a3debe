-- `numbering::write_tables` meets its contract: the methods behind the sides.
use borrow.Author.Rules.{rules}
use Rattle.numbers.proofs.Numberings.{methods_lent, tables_written}
use Rattle.numbers.proofs.numbering.write_tables.Goals as goal

pub pair_up-requires : goal.pair_up-requires
pair_up-requires c = search (rules, methods_lent)

pub returns : goal.returns
returns c = search (rules, tables_written)
