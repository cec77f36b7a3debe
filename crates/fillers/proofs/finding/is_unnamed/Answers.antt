-- `finding::is_unnamed` meets its contract: new's methods are asked, then old's.
use native.Mathlib.Omega.{arith}
use borrow.Author.Rules.{rules}
use Rattle.worktable.proofs.Lent.{lent_length}
use Rattle.fillers.proofs.Unnamed.{named_first, named_then}
use Rattle.fillers.proofs.finding.is_unnamed.Goals as goal

pub slice_bounds-method_index-end : goal.slice_bounds-method_index-end
slice_bounds-method_index-end c = let h = c.put_name-size.ensures in lent_length _ _ (omega (arith, h.size, h.kept))

pub returns-then-method_index-method_count : goal.returns-then-method_index-method_count
returns-then-method_index-method_count c = search (rules, named_first)

pub slice_bounds-method_index-end-2 : goal.slice_bounds-method_index-end-2
slice_bounds-method_index-end-2 c = let h = c.put_name-size.ensures in lent_length _ _ (omega (arith, h.size, h.kept))

pub returns : goal.returns
returns c = search (rules, named_then)
