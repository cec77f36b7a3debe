-- `take_one` meets its contract.
use borrow.Author.Rules.{rules}
use Rattle.markup.specs.declared.gathering.Taken.{Taken}
use Rattle.markup.specs.Tallies.{tally, tallied}
use Rattle.markup.proofs.Steps.{passed_by}
use Rattle.markup.proofs.Keepings.{comment_stops, comment_read, letter_stops, letter_kept}
use Rattle.markup.proofs.gathering.take_one.Goals as goal

pub returns-in_err-next-clause-exact : goal.returns-in_err-next-clause-exact
returns-in_err-next-clause-exact c = passed_by (λ (t : Taken). tallied (tally t.kept c.args.out.now) t.next) c.from_residual.result c.from_residual.ensures.1 (search (rules, comment_stops, c.in_err-next.ensures.exact))

pub returns-then-is_tag-clause-exact : goal.returns-then-is_tag-clause-exact
returns-then-is_tag-clause-exact c = search (rules, comment_read, c.in_ok-next.ensures.exact)

pub returns-in_err-l-clause-exact : goal.returns-in_err-l-clause-exact
returns-in_err-l-clause-exact c = passed_by (λ (t : Taken). tallied (tally t.kept c.args.out.now) t.next) c.from_residual-in_err-l.result c.from_residual-in_err-l.ensures.1 (search (rules, letter_stops, c.in_err-l.ensures.exact))

pub returns-clause-exact : goal.returns-clause-exact
returns-clause-exact c = search (rules, letter_kept, c.in_ok-l.ensures.exact)
