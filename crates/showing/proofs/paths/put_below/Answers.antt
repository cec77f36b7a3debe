-- `paths::put_below` meets its contract: three texts one after the other.
use borrow.Author.Rules.{rules}
use Rattle.showing.proofs.StemPaths.{below_offset, below_bytes}
use Rattle.showing.proofs.paths.put_below.Goals as goal

pub returns-clause-offset : goal.returns-clause-offset
returns-clause-offset c = search (rules, below_offset)

pub returns-clause-bytes : goal.returns-clause-bytes
returns-clause-bytes c = search (rules, below_bytes)
