-- `stems::write_stems` meets its contract: the last stem, then the others.
use borrow.Author.Rules.{rules}
use Rattle.numbers.proofs.StemsPut.{lines_few, stems_ready, stems_last}
use Rattle.numbers.proofs.stems.write_stems.Goals as goal

pub put_stem-requires : goal.put_stem-requires
put_stem-requires c = (search rules, search (rules, lines_few))

pub fill_stems-requires : goal.fill_stems-requires
fill_stems-requires c = search (rules, stems_ready)

pub returns : goal.returns
returns c = search (rules, stems_last)
