-- `tag_end` meets its contract: a choice.
use borrow.Author.Rules.{rules}
use Rattle.documents.specs.Parts as list
use Rattle.markup.proofs.Steps.{stops, passed, choose_miss}
use Rattle.markup.proofs.Values.{hit_ended, returned_ended}
use Rattle.markup.proofs.tags.tag_end.Goals as goal

pub returns-in-Ok-clause-exact : goal.returns-in-Ok-clause-exact
unfolding list.tag_end
returns-in-Ok-clause-exact c = search (rules, hit_ended)

pub returns-in_err-next-clause-exact : goal.returns-in_err-next-clause-exact
unfolding list.tag_end
returns-in_err-next-clause-exact c = passed c.from_residual.ensures.1 (search (rules, choose_miss, stops, c.in_default.ensures.exact, c.in_err-next.ensures.exact))

pub returns-clause-exact : goal.returns-clause-exact
unfolding list.tag_end
returns-clause-exact c = search (rules, choose_miss, returned_ended, c.in_default.ensures.exact, c.in_ok-next.ensures.exact)
