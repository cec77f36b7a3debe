use borrow.Author.Rules.{rules}
use Rattle.markup.proofs.Steps.{passed}
use Rattle.markup.proofs.Keepings.{gather_inside, gather_shorter, gather_few, gather_plain, gather_less, gather_on, gather_stops, gather_ends, gather_text}
use Rattle.markup.proofs.gathering.gather.Goals as goal

pub bounds-s-n : goal.bounds-s-n
bounds-s-n c = search (rules, gather_inside)

pub keep-k-requires : goal.keep-k-requires
keep-k-requires c = search (rules, gather_few)

pub loop-b-smaller-then-is_plain : goal.loop-b-smaller-then-is_plain
loop-b-smaller-then-is_plain c = search (rules, gather_shorter)

pub loop-b-preserved-then-is_plain : goal.loop-b-preserved-then-is_plain
loop-b-preserved-then-is_plain c = search (rules, gather_plain)

pub take_one-requires : goal.take_one-requires
take_one-requires c = search (rules, gather_few)

pub returns-in_err-t-clause-exact : goal.returns-in_err-t-clause-exact
returns-in_err-t-clause-exact c = passed c.from_residual.ensures.1 (search (rules, gather_stops, c.in_err-t.ensures.exact))

pub loop-b-smaller : goal.loop-b-smaller
loop-b-smaller c = search (rules, gather_less, c.in_ok-t.ensures.exact)

pub loop-b-preserved : goal.loop-b-preserved
loop-b-preserved c = search (rules, gather_on, c.in_ok-t.ensures)

pub returns-clause-exact : goal.returns-clause-exact
returns-clause-exact c = search (rules, gather_ends)

pub returns-clause-text : goal.returns-clause-text
returns-clause-text c = search (rules, gather_text)
