-- `hits::put_path` meets its contract: the stem, and what stands behind it.
use borrow.Author.Rules.{rules}
use Rattle.showing.proofs.Pieces.{stem_near, path_offset, path_bytes}
use Rattle.showing.proofs.hits.put_path.Goals as goal

pub put_ending-requires : goal.put_ending-requires
put_ending-requires c = (search rules, (search rules, search (rules, stem_near)))

pub returns-clause-offset : goal.returns-clause-offset
returns-clause-offset c = search (rules, path_offset)

pub returns-clause-bytes : goal.returns-clause-bytes
returns-clause-bytes c = search (rules, path_bytes)
