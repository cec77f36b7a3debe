-- `sides::fill_each` meets its contract: one number more at each turn.
use Rattle.std.proofs.Common.{ℕ, ◌≡◌, ◌<◌}
use Rattle.numbers.specs.Writes.{Wrote}
use Rattle.numbers.proofs.sides.fill_each.Given as goal

abbrev pub invariant-loop-k : goal.invariant-loop-k
invariant-loop-k g l = (f : ℕ → ℕ) → ((k r : ℕ) → k < l.n → goal.F-post g l.number k r → r ≡ f k) → Wrote l.at l.k f l.initial.w l.w
