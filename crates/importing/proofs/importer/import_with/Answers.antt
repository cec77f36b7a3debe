-- `importer::import_with` meets its contract: the first n numbers are zero, hold the file's records, and are zero again.
use borrow.Author.Rules.{rules}
use Rattle.importing.proofs.Imports.{zero_lent, zero_fits, zero_empty, back_lent, back_read, back_long, back_size, zero_again}
use Rattle.importing.proofs.importer.import_with.Goals as goal

pub slice_bounds-file-end-2 : goal.slice_bounds-file-end-2
slice_bounds-file-end-2 c = search (rules, zero_lent)

pub file-read-requires : goal.file-read-requires
file-read-requires c = (search rules, search (rules, zero_fits), search (rules, zero_empty))

pub slice_bounds-answer-end-2 : goal.slice_bounds-answer-end-2
slice_bounds-answer-end-2 c = search (rules, back_lent)

pub answer-r-requires : goal.answer-r-requires
answer-r-requires c = (search rules, search (rules, back_read))

pub zero_first-requires-2 : goal.zero_first-requires-2
zero_first-requires-2 c = search (rules, back_long)

pub shape_of-w : goal.shape_of-w
shape_of-w c = search (rules, back_size)

pub returns-clause-work : goal.returns-clause-work
returns-clause-work c = search (rules, zero_again)
