-- `numbering::write_numbers` meets its contract: the first lines, then all else.
use borrow.Author.Rules.{rules}
use Rattle.numbers.proofs.Numberings.{tables_lent, all_written}
use Rattle.numbers.proofs.numbering.write_numbers.Goals as goal

pub write_rest-requires : goal.write_rest-requires
write_rest-requires c = search (rules, tables_lent)

pub returns : goal.returns
returns c = search (rules, all_written)
