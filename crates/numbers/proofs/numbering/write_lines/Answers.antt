-- `numbering::write_lines` meets its contract, by its calls.
use borrow.Author.Rules.{rules}
use Rattle.numbers.proofs.Numberings.{lines_more, firsts_lent, counts_are}
use Rattle.numbers.proofs.numbering.write_lines.Goals as goal

pub overflow_add-n : goal.overflow_add-n
overflow_add-n c = search (rules, lines_more)

pub write_stems-requires : goal.write_stems-requires
write_stems-requires c = search (rules, firsts_lent)

pub returns-clause-counts : goal.returns-clause-counts
returns-clause-counts c = search (rules, counts_are)
