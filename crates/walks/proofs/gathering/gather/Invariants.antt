-- `gathering::gather` meets its contract: one stem more at each turn.
use Rattle.std.specs.Prelude.{ℕ, ◌≡◌, length}
use Rattle.grants.specs.Sides.{roster_in}
use Rattle.walks.specs.Gathers.{Computes, table_on, count_on, gathered}
use Rattle.walks.proofs.gathering.gather.Given as goal

abbrev pub invariant-loop-i : goal.invariant-loop-i
invariant-loop-i g l =
    (length l.all ≡ 32) × (l.roster ≡ roster_in (table_on l.x l.side) (count_on l.c l.side) l.had)
    × ((op : ℕ → ℕ → ℕ) → Computes (goal.F-post g l.join) op → l.all ≡ gathered op l.x l.c l.side l.i l.initial.all)
