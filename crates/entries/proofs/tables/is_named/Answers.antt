-- `tables::is_named` meets its contract: another stamp, another text; with that stamp, what stands there.
use borrow.Author.Rules.{rules}
use Rattle.entries.proofs.Regions.{no_byte, some_byte, empty_named, stamp_differs, long_unnamed, past_unnamed, stands_named}
use Rattle.entries.proofs.tables.is_named.Goals as goal
use Rattle.entries.proofs.tables.is_named.Goals.{then-x-key-via-then-x-key, then-x-key-via-else-x-key+then-t-gt255}

pub returns-then-is_empty : goal.returns-then-is_empty
returns-then-is_empty c = search (rules, empty_named, no_byte)

pub returns-then-x-key : goal.returns-then-x-key
returns-then-x-key c =
    elim c.then-x-key.branch [
      | then-x-key-via-then-x-key w ↦ search (rules, stamp_differs, some_byte)
      | then-x-key-via-else-x-key+then-t-gt255 w ↦ search (rules, long_unnamed)
    ]

pub returns-then-from-s : goal.returns-then-from-s
returns-then-from-s c = search (rules, stands_named, some_byte)

pub returns-else-from-s : goal.returns-else-from-s
returns-else-from-s c = search (rules, past_unnamed, some_byte)
