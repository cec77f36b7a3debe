-- The library asks each number.
use Rattle.std.proofs.Common.{rules, eqb}
use Rattle.std.proofs.lemmas.List.Recursion.{and_is}
use Rattle.edges.specs.Garbage.{is_zero}
use Rattle.edges.proofs.Numbers.{agrees_none, agrees_first}
use Rattle.edges.proofs.work.is_zero.Goals as goal

pub returns : goal.returns
returns c = and_is is_zero (λ x. eqb x 0) (agrees_none 0) (agrees_first 0) c.args.w.now 0 _ (search rules) (search rules)
