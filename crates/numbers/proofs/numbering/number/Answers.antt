-- `numbering::number` meets its contract: the scratch stands first.
use borrow.Author.Rules.{rules}
use Rattle.numbers.proofs.Numberings.{all_numbers, all_rest, all_size}
use Rattle.numbers.proofs.numbering.number.Goals as goal

pub returns-clause-numbers : goal.returns-clause-numbers
returns-clause-numbers c = search (rules, all_numbers)

pub returns-clause-rest : goal.returns-clause-rest
returns-clause-rest c = all_rest _ _ _ _ _ c.write_numbers.ensures

pub returns-clause-size : goal.returns-clause-size
returns-clause-size c = search (rules, all_size)
