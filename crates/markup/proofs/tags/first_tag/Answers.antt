-- `first_tag` meets its contract: a law for each way out.
use borrow.Author.Rules.{rules}
use Rattle.markup.specs.declared.answers.Start.{Start}
use Rattle.markup.proofs.Steps.{passed_by}
use Rattle.markup.proofs.Openings.{first_no_name, first_no_rest, first_done, first_opening}
use Rattle.markup.proofs.tags.first_tag.Goals as goal

pub returns-in_err-end-clause-exact : goal.returns-in_err-end-clause-exact
returns-in_err-end-clause-exact c = passed_by (λ (t : Start). t.next) c.from_residual.result c.from_residual.ensures.1 (search (rules, first_no_name, c.in_err-end.ensures.exact))

pub returns-in_err-e-clause-exact : goal.returns-in_err-e-clause-exact
returns-in_err-e-clause-exact c = passed_by (λ (t : Start). t.next) c.from_residual-in_err-e.result c.from_residual-in_err-e.ensures.1 (search (rules, first_no_rest, c.in_ok-end.ensures.exact, c.in_err-e.ensures.exact))

pub returns-clause-exact : goal.returns-clause-exact
returns-clause-exact c = search (rules, first_done, c.in_ok-end.ensures.exact, c.in_ok-e.ensures.exact)

pub returns-clause-opened : goal.returns-clause-opened
returns-clause-opened c = search (rules, first_opening, c.in_ok-end.ensures, c.in_ok-e.ensures)
