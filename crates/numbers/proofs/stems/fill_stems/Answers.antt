use borrow.Author.Rules.{rules}
use Rattle.numbers.proofs.StemsPut.{stems_next, stems_more}
use Rattle.numbers.proofs.stems.fill_stems.Goals as goal

pub stem_at-x-requires : goal.stem_at-x-requires
stem_at-x-requires c = search (rules, stems_next)

pub loop-j-preserved : goal.loop-j-preserved
loop-j-preserved c = search (rules, stems_more)
