-- `lines::put_text` meets its contract: the text gathered in a local buffer, and put.
use borrow.Author.Rules.{rules}
use Rattle.forming.proofs.Pieces.{past_place, past_bytes, refused_place, refused_bytes, text_within, gathered_short, gathered_place, gathered_bytes}
use Rattle.forming.proofs.lines.put_text.Goals as goal

pub returns-then-s-p-clause-place : goal.returns-then-s-p-clause-place
returns-then-s-p-clause-place c = search (rules, past_place)

pub returns-then-s-p-clause-bytes : goal.returns-then-s-p-clause-bytes
returns-then-s-p-clause-bytes c = search (rules, past_bytes)

pub returns-in_default-clause-place : goal.returns-in_default-clause-place
returns-in_default-clause-place c = refused_place _ _ _ c.in_default.ensures.exact _

pub returns-in_default-clause-bytes : goal.returns-in_default-clause-bytes
returns-in_default-clause-bytes c = search (rules, refused_bytes)

pub slice_bounds-letters-end : goal.slice_bounds-letters-end
slice_bounds-letters-end c = search (rules, text_within)

pub slice_bounds-put-end : goal.slice_bounds-put-end
slice_bounds-put-end c = search (rules, text_within)

pub put-requires : goal.put-requires
put-requires c = (search rules, search (rules, gathered_short))

pub returns-clause-place : goal.returns-clause-place
returns-clause-place c = gathered_place _ _ _ c.in-Ok.ensures.exact (search rules) _ (search rules) c.in-Ok.ensures.text _ _ c.put.ensures.offset

pub returns-clause-bytes : goal.returns-clause-bytes
returns-clause-bytes c = gathered_bytes _ _ _ c.in-Ok.ensures.exact (search rules) _ (search rules) c.in-Ok.ensures.text _ _ _ c.put.ensures.bytes
