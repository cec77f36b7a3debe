-- `gathering::join_into` meets its contract: one method more at each turn.
use Rattle.std.specs.Prelude.{ℕ, ◌≡◌, length}
use Rattle.grants.proofs.Stores.{Mixing}
use Rattle.walks.specs.Gathers.{Computes, joined_at}
use Rattle.walks.proofs.gathering.join_into.Given as goal

abbrev pub invariant-loop-m : goal.invariant-loop-m
invariant-loop-m g l = (length l.all ≡ 32) × ((op : ℕ → ℕ → ℕ) → Computes (goal.F-post g l.join) op → Mixing 32 (joined_at op l.initial.all l.roster) l.initial.all l.m l.all)
