-- `files::file` meets its contract.
use borrow.Author.Rules.{rules}
use Rattle.elements.proofs.Goings.{shown_passed}
use Rattle.elements.proofs.Wholes.{file_ready, file_unled, file_unrooted, file_read}
use Rattle.elements.proofs.files.file.Goals as goal

pub returns-in_err-l-clause-exact : goal.returns-in_err-l-clause-exact
returns-in_err-l-clause-exact c = shown_passed _ _ c.from_residual.ensures.1 (search (rules, file_unled))

pub root-requires : goal.root-requires
root-requires c = search (rules, file_ready)

pub returns-in_err-r-clause-exact : goal.returns-in_err-r-clause-exact
returns-in_err-r-clause-exact c = shown_passed _ _ c.from_residual-in_err-r.ensures.1 (search (rules, file_unrooted))

pub returns-clause-exact : goal.returns-clause-exact
returns-clause-exact c = search (rules, file_read)
