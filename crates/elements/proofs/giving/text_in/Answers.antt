-- `giving::text_in` meets its contract.
use borrow.Author.Rules.{rules}
use Rattle.elements.proofs.Goings.{gone_passed}
use Rattle.elements.proofs.Givings.{entered_tagged, text_stops, text_long, sized_saying, sized_said}
use Rattle.elements.proofs.giving.text_in.Goals as goal

pub tell-requires : goal.tell-requires
tell-requires c = search (rules, entered_tagged)

pub returns-in_err-g : goal.returns-in_err-g
returns-in_err-g c = gone_passed c.from_residual.ensures.1 (search (rules, text_stops))

pub returns-then-g-gt255 : goal.returns-then-g-gt255
returns-then-g-gt255 c = text_long _ _ _ _ c.requires.0 c.args.leaf c.requires.1 _ c.in_ok-g.ensures.exact c.in_ok-g.ensures.within _ _ c.in_ok-g.ensures.size c.if-g-gt255.true c.too_long_fault-cause.ensures

pub say-requires : goal.say-requires
say-requires c = sized_saying _ _ _ _ c.requires.0 c.args.leaf c.requires.1 _ c.in_ok-g.ensures.exact c.in_ok-g.ensures.within _ _ c.in_ok-g.ensures.size c.if-g-gt255.false (search rules) c.in_ok-g.ensures.text

pub returns : goal.returns
returns c = sized_said _ _ _ _ c.requires.0 c.args.leaf c.requires.1 _ c.in_ok-g.ensures.exact c.in_ok-g.ensures.within _ _ c.in_ok-g.ensures.size c.if-g-gt255.false (search rules) c.in_ok-g.ensures.text _ _ c.say.ensures
