-- `put_numbered` meets its contract: the letter, and the digits behind it.
use borrow.Author.Rules.{rules}
use Rattle.writing.proofs.Puts.{numbered_offset, numbered_bytes}
use Rattle.writing.proofs.put_numbered.Goals as goal

pub returns-clause-offset : goal.returns-clause-offset
returns-clause-offset c = search (rules, numbered_offset, numbered_bytes)

pub returns-clause-bytes : goal.returns-clause-bytes
returns-clause-bytes c = search (rules, numbered_offset, numbered_bytes)
