-- `sides::fill_map` meets its contract: one role of new more at each turn.
use mathlib.Core.List.{[]}
use lib.ListN.{get_or}
use Rattle.text.specs.Texts.{index_of}
use Rattle.grants.proofs.Stores.{Filled}
use Rattle.numbers.proofs.sides.fill_map.Given as goal

abbrev pub invariant-loop-i : goal.invariant-loop-i
invariant-loop-i l = Filled 32 l.n l.i (λ j. index_of (get_or l.new.roles j []) l.view.roles) l.map
