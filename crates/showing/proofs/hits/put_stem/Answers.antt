-- `hits::put_stem` meets its contract: the stem of a line, or the last.
use borrow.Author.Rules.{rules}
use Rattle.showing.proofs.Pieces.{line_there, line_pattern, stem_offset, stem_bytes, last_offset, last_bytes}
use Rattle.showing.proofs.hits.put_stem.Goals as goal

pub line_text-requires : goal.line_text-requires
line_text-requires c = search (rules, line_there)

pub put_stem-requires : goal.put_stem-requires
put_stem-requires c = (search rules, search (rules, line_pattern, line_there))

pub returns-then-j-line_count-clause-offset : goal.returns-then-j-line_count-clause-offset
returns-then-j-line_count-clause-offset c = search (rules, stem_offset)

pub returns-then-j-line_count-clause-bytes : goal.returns-then-j-line_count-clause-bytes
returns-then-j-line_count-clause-bytes c = search (rules, stem_bytes)

pub returns-clause-offset : goal.returns-clause-offset
returns-clause-offset c = search (rules, last_offset)

pub returns-clause-bytes : goal.returns-clause-bytes
returns-clause-bytes c = search (rules, last_bytes)
