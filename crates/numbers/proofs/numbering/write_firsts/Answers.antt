-- `numbering::write_firsts` meets its contract, by the counts of both.
use borrow.Author.Rules.{rules}
use Rattle.numbers.proofs.Numberings.{lines_fit, firsts_counted, firsts_stand}
use Rattle.numbers.proofs.numbering.write_firsts.Goals as goal

pub overflow_add-n : goal.overflow_add-n
overflow_add-n c = search (rules, lines_fit)

pub write_firsts-requires : goal.write_firsts-requires
write_firsts-requires c = search (rules, firsts_counted)

pub returns : goal.returns
returns c = search (rules, firsts_stand)
