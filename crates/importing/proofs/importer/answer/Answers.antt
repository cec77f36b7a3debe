-- `importer::answer` meets its contract: the listing, or the fault with its line.
use borrow.Author.Rules.{rules}
use Rattle.importing.proofs.Imports.{read_formable, read_handed, read_left, fault_handed, fault_left}
use Rattle.importing.proofs.importer.answer.Goals as goal

pub form-requires : goal.form-requires
form-requires c = search (rules, read_formable)

pub returns-in-Ok-clause-handed : goal.returns-in-Ok-clause-handed
returns-in-Ok-clause-handed c = search (rules, read_handed)

pub returns-in-Ok-clause-buffer : goal.returns-in-Ok-clause-buffer
returns-in-Ok-clause-buffer c = search (rules, read_left)

pub returns-in-Err-clause-handed : goal.returns-in-Err-clause-handed
returns-in-Err-clause-handed c = search (rules, fault_handed)

pub returns-in-Err-clause-buffer : goal.returns-in-Err-clause-buffer
returns-in-Err-clause-buffer c = search (rules, fault_left)
