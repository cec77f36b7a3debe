-- `searching::strongest_exact` meets its contract: the texts of a view are short, and none is the path.
use borrow.Author.Rules.{rules}
use mathlib.Core.Path.{refl}
use Rattle.deciding.proofs.Shorts.{lead_short}
use Rattle.numbers.proofs.Searchings.{lacks_each}
use Rattle.numbers.proofs.searching.strongest_exact.Goals as goal

pub strongest_by-requires : goal.strongest_by-requires
strongest_by-requires c = λ u k h e.
    let short = lead_short _ c.requires.0.proper k _ e in
    let other = lacks_each _ _ c.requires.0 _ k _ refl h e in
    search (rules, short, other)
