-- `tables::index` meets its contract: the loop leaves off the texts that it has passed.
use mathlib.Core.Path.{◌≡◌}
use Prim.Native.Nat.{◌+◌}
use lib.ListN.{drop}
use Rattle.text.specs.Texts.{index_of}
use Rattle.entries.specs.Tables.{texts_at, region}
use Rattle.entries.proofs.tables.index.Given as goal

abbrev pub invariant-loop-k : goal.invariant-loop-k
invariant-loop-k l = index_of l.t (texts_at l.s (region l.w l.base l.n)) ≡ l.k + index_of l.t (drop l.k (texts_at l.s (region l.w l.base l.n)))
