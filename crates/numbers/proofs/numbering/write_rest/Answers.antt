-- `numbering::write_rest` meets its contract: the stems behind the tables.
use borrow.Author.Rules.{rules}
use Rattle.numbers.proofs.Numberings.{stems_lent, numbers_written}
use Rattle.numbers.proofs.numbering.write_rest.Goals as goal

pub write_lines-requires : goal.write_lines-requires
write_lines-requires c = search (rules, stems_lent)

pub returns : goal.returns
returns c = search (rules, numbers_written)
