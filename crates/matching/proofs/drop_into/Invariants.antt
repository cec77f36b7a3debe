-- `matching::drop_into` meets its contract. The loop's invariant: what the buffer holds and what is left of the path to come are all that is left.
use Rattle.matching.proofs.Droppings.{Left}
use Rattle.matching.proofs.drop_into.Given as goal

abbrev pub invariant-loop-b : goal.invariant-loop-b
invariant-loop-b l = Left l.path l.initial.out l.out l.behind l.n l.b-index
