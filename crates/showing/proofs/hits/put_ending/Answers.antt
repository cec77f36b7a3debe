-- `hits::put_ending` meets its contract: nothing, or the line's text behind its first byte.
use borrow.Author.Rules.{rules}
use Rattle.showing.proofs.Pieces.{no_ending_offset, no_ending_bytes, ending_there, ending_long, ending_short, ending_offset, ending_bytes, line_pattern}
use Rattle.showing.proofs.hits.put_ending.Goals as goal

pub returns-in_default-clause-offset : goal.returns-in_default-clause-offset
returns-in_default-clause-offset c = search (rules, no_ending_offset)

pub returns-in_default-clause-bytes : goal.returns-in_default-clause-bytes
returns-in_default-clause-bytes c = search (rules, no_ending_bytes)

pub line_text-text-requires : goal.line_text-text-requires
line_text-text-requires c = search (rules, ending_there)

pub slice_bounds-put-count : goal.slice_bounds-put-count
slice_bounds-put-count c = search (rules, ending_long)

pub slice_bounds-put-start : goal.slice_bounds-put-start
slice_bounds-put-start c = search (rules, ending_long)

pub put-requires : goal.put-requires
put-requires c = (search rules, search (rules, ending_short, line_pattern, ending_there) depth 9)

pub returns-clause-offset : goal.returns-clause-offset
returns-clause-offset c = search (rules, ending_offset)

pub returns-clause-bytes : goal.returns-clause-bytes
returns-clause-bytes c = search (rules, ending_bytes)
