-- What is handed back: a report, and a length beside it.
use Prim.Native.Nat.{ℕ}
use mathlib.Core.Path.{◌≡◌, ap}
use Rattle.listings.specs.Refusals.{report}
use Rattle.listings.specs.declared.answers.Report.{Report}
use Rattle.comparisons.specs.declared.answers.Comparison.{Comparison}

handed : (n : ℕ) (x y : Report) → x ≡ y → ◌≡◌ {A = Comparison} (record { report = x; length = n }) (record { report = y; length = n })
handed n x y e = ap (λ (r : Report). record { report = r; length = n }) e

pub refused_whole : (number side line : ℕ) (x : Report) → x ≡ report number side line
    → ◌≡◌ {A = Comparison} (record { report = x; length = 0 }) (record { report = report number side line; length = 0 })
refused_whole number side line x e = handed 0 x (report number side line) e

pub told_whole : (n : ℕ) (x : Report) → x ≡ report 0 0 0 → ◌≡◌ {A = Comparison} (record { report = x; length = n }) (record { report = report 0 0 0; length = n })
told_whole n x e = handed n x (report 0 0 0) e
