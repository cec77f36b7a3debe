-- `end_tag` meets its contract: a law for each step.
use borrow.Author.Rules.{rules}
use Rattle.documents.specs.Parts as list
use Rattle.markup.proofs.Steps.{stops, passed, white_goes}
use Rattle.markup.proofs.Loops.{word_goes}
use Rattle.markup.proofs.tags.end_tag.Goals as goal

pub returns-in_err-b-clause-exact : goal.returns-in_err-b-clause-exact
unfolding list.end_tag
returns-in_err-b-clause-exact c = passed c.from_residual.ensures.1 (search (rules, stops, c.in_err-b.ensures.exact) depth 9)

pub returns-in_err-n-clause-exact : goal.returns-in_err-n-clause-exact
unfolding list.end_tag
returns-in_err-n-clause-exact c = passed c.from_residual-in_err-n.ensures.1 (search (rules, word_goes, stops, c.in_ok-b.ensures.exact, c.in_err-n.ensures.exact) depth 9)

pub returns-clause-exact : goal.returns-clause-exact
unfolding list.end_tag
returns-clause-exact c = search (rules, word_goes, white_goes, c.in_ok-b.ensures.exact, c.in_ok-n.ensures.exact) depth 9
