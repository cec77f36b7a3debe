-- `files::lead` meets its contract.
use borrow.Author.Rules.{rules}
use Rattle.markup.proofs.Steps.{passed}
use Rattle.elements.proofs.Wholes.{lead_undeclared, lead_goes, lead_within}
use Rattle.elements.proofs.files.lead.Goals as goal

pub returns-in_err-p-clause-exact : goal.returns-in_err-p-clause-exact
returns-in_err-p-clause-exact c = passed c.from_residual.ensures.1 (search (rules, lead_undeclared))

pub returns-clause-within : goal.returns-clause-within
returns-clause-within c = search (rules, lead_within)

pub returns-clause-exact : goal.returns-clause-exact
returns-clause-exact c = search (rules, lead_goes)
