-- `hits::put_method` meets its contract: new's name, old's, or the filler method.
use borrow.Author.Rules.{rules}
use mathlib.Core.Path.{refl}
use Rattle.showing.proofs.Methods.{method_short, new_offset, new_bytes, old_offset, old_bytes, filler_offset, filler_bytes}
use Rattle.showing.proofs.hits.put_method.Goals as goal

pub put-requires : goal.put-requires
put-requires c = (search rules, search (rules, method_short))

pub returns-then-i-method_count-clause-offset : goal.returns-then-i-method_count-clause-offset
returns-then-i-method_count-clause-offset c = search (rules, new_offset)

pub returns-then-i-method_count-clause-bytes : goal.returns-then-i-method_count-clause-bytes
returns-then-i-method_count-clause-bytes c = search (rules, new_bytes)

pub put-requires-then-j-method_count : goal.put-requires-then-j-method_count
put-requires-then-j-method_count c = (search rules, search (rules, method_short))

pub returns-then-j-method_count-clause-offset : goal.returns-then-j-method_count-clause-offset
returns-then-j-method_count-clause-offset c = search (rules, old_offset)

pub returns-then-j-method_count-clause-bytes : goal.returns-then-j-method_count-clause-bytes
returns-then-j-method_count-clause-bytes c = search (rules, old_bytes)

pub returns-clause-offset : goal.returns-clause-offset
returns-clause-offset c =
    filler_offset _ _ _ c.requires.0 _ c.requires.1.0 _ _ _ _ _
    refl c.method_count.ensures.count c.if-i-method_count.false refl c.method_count-2.ensures.count c.if-j-method_count.false c.method_number-n.ensures _ _ c.put_numbered.ensures.offset

pub returns-clause-bytes : goal.returns-clause-bytes
returns-clause-bytes c =
    filler_bytes _ _ _ c.requires.0 _ c.requires.1.0 _ _ _ _ _
    refl c.method_count.ensures.count c.if-i-method_count.false refl c.method_count-2.ensures.count c.if-j-method_count.false c.method_number-n.ensures _ _ _ c.put_numbered.ensures.bytes
