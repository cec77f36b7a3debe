-- `searching::strongest_by` meets its contract: the patterns are gone through once.
use Rattle.std.proofs.Common.{ℕ, ◌≡◌, ◌<◌, [], length, get_or, take}
use Rattle.text.specs.Texts.{Text}
use Rattle.reading.specs.Views.{texts}
use Rattle.grants.specs.Scratch.{leading_by}
use Rattle.numbers.proofs.searching.strongest_by.Given as goal

abbrev pub invariant-loop-k : goal.invariant-loop-k
invariant-loop-k g l =
    ((f : Text → ℕ) → ((u : _) (k r : ℕ) → k < length (texts l.view) → u.now ≡ get_or (texts l.view) k [] → goal.F-post g l.strength u r → r ≡ f u.now)
    → l.x ≡ leading_by f (take l.k (texts l.view)))
    × (l.x.seen ≡ l.k)
