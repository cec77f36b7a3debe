-- `searching::index` meets its contract: the loop leaves off the names that it has passed.
use mathlib.Core.Path.{◌≡◌}
use Prim.Native.Nat.{◌+◌}
use lib.ListN.{drop}
use Rattle.text.specs.Texts.{index_of}
use Rattle.ledger.specs.Places.{names_at}
use Rattle.ledger.proofs.searching.index.Given as goal

abbrev pub invariant-loop-k : goal.invariant-loop-k
invariant-loop-k l = index_of l.t (names_at l.s l.base l.n l.w) ≡ l.k + index_of l.t (drop l.k (names_at l.s l.base l.n l.w))
