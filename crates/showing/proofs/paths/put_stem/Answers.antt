-- `paths::put_stem` meets its contract, kind by kind.
use mathlib.Core.Path.{refl}
use borrow.Author.Rules.{rules}
use Rattle.showing.proofs.StemPaths.{root_short, tail_short, head_short, text_short, empty_offset, empty_bytes, default_offset, default_bytes, starred_offset, starred_bytes, prefix_offset, prefix_bytes, exact_offset, exact_bytes}
use Rattle.showing.proofs.paths.put_stem.Goals as goal

pub returns-then-is_empty-clause-offset : goal.returns-then-is_empty-clause-offset
returns-then-is_empty-clause-offset c = empty_offset c.args.text.now c.args.out.now c.args.out.now c.args.at c.args.n _ (search rules) c.put.ensures.offset

pub returns-then-is_empty-clause-bytes : goal.returns-then-is_empty-clause-bytes
returns-then-is_empty-clause-bytes c = search (rules, empty_bytes)

pub returns-then-are_same-clause-offset : goal.returns-then-are_same-clause-offset
returns-then-are_same-clause-offset c = search (rules, default_offset)

pub returns-then-are_same-clause-bytes : goal.returns-then-are_same-clause-bytes
returns-then-are_same-clause-bytes c = search (rules, default_bytes)

pub put-requires-then-starts_with : goal.put-requires-then-starts_with
put-requires-then-starts_with c = (search (rules, root_short), search (rules, tail_short))

pub returns-then-starts_with-clause-offset : goal.returns-then-starts_with-clause-offset
returns-then-starts_with-clause-offset c = search (rules, starred_offset)

pub returns-then-starts_with-clause-bytes : goal.returns-then-starts_with-clause-bytes
returns-then-starts_with-clause-bytes c = search (rules, starred_bytes)

pub put_below-requires-in-Some : goal.put_below-requires-in-Some
put_below-requires-in-Some c = (search rules, search (rules, head_short))

pub returns-in-Some-clause-offset : goal.returns-in-Some-clause-offset
returns-in-Some-clause-offset c =
    let cut = c.in-Some.ensures.cases in
    prefix_offset c.args.text.now c.args.out.now c.args.out.now c.args.at c.args.n _
    _ c.are_same.ensures c.requires.1 _ c.starts_with.ensures c.if-are_same.false c.if-starts_with.false (search rules) _ cut.0 refl _ cut.1 c.put_below-in-Some.ensures.offset

pub returns-in-Some-clause-bytes : goal.returns-in-Some-clause-bytes
returns-in-Some-clause-bytes c = search (rules, prefix_bytes)

pub put-requires-2 : goal.put-requires-2
put-requires-2 c = (search rules, search (rules, text_short))

pub returns-clause-offset : goal.returns-clause-offset
returns-clause-offset c =
    let uncut = rw c.in_default.is at c.strip_suffix.ensures.cases in
    exact_offset c.args.text.now c.args.out.now c.args.out.now c.args.at c.args.n _
    _ c.are_same.ensures c.requires.1 _ c.starts_with.ensures c.if-are_same.false c.if-starts_with.false (search rules) _ uncut refl c.put-2.ensures.offset

pub returns-clause-bytes : goal.returns-clause-bytes
returns-clause-bytes c = let uncut = rw c.in_default.is at c.strip_suffix.ensures.cases in search (rules, exact_bytes)
