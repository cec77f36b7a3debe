-- `decider::answer_for` meets its contract: the path as it is, or what is left of it in a buffer.
use native.Mathlib.Omega.{arith}
use borrow.Author.Rules.{rules}
use Rattle.worktable.proofs.Lent.{lent_length}
use Rattle.deciding.proofs.Calls.{path_short, answer_without, answer_with}
use Rattle.deciding.proofs.decider.answer_for.Goals as goal

pub returns-then-not-has_byte : goal.returns-then-not-has_byte
returns-then-not-has_byte c = search (rules, answer_without)

pub drop_into-n-requires : goal.drop_into-n-requires
drop_into-n-requires c = (search (rules, path_short), search rules)

pub slice_bounds-answer_at-end : goal.slice_bounds-answer_at-end
slice_bounds-answer_at-end c = let h = c.drop_into-n.ensures in lent_length _ _ (omega (arith, h.size, h.kept))

pub returns : goal.returns
returns c = search (rules, answer_with)
