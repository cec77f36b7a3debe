-- `finding::put_name` meets its contract: what is put stands at the start.
use borrow.Author.Rules.{rules}
use Rattle.fillers.proofs.Putting.{name_size, name_bytes, name_kept}
use Rattle.fillers.proofs.finding.put_name.Goals as goal

pub returns-clause-size : goal.returns-clause-size
returns-clause-size c = search (rules, name_size, name_bytes, name_kept)

pub returns-clause-bytes : goal.returns-clause-bytes
returns-clause-bytes c = search (rules, name_size, name_bytes, name_kept)

pub returns-clause-kept : goal.returns-clause-kept
returns-clause-kept c = search (rules, name_size, name_bytes, name_kept)
