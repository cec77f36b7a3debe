-- `tables::cover` meets its contract: by its two ways.
use borrow.Author.Rules.{rules}
use Rattle.entries.proofs.Members.{cover_first, cover_more}
use Rattle.entries.proofs.tables.cover.Goals as goal

pub returns-then-fresh : goal.returns-then-fresh
returns-then-fresh c = search (rules, cover_first)

pub returns-else-fresh : goal.returns-else-fresh
returns-else-fresh c = search (rules, cover_more)
