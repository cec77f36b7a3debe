-- What the functions of the call hand to each other: for the proofs alone.
use Rattle.std.specs.Prelude.{ℕ, ◌≡◌, List, Option, Some, None}
use Rattle.text.specs.Texts.{Text}
use Rattle.reading.specs.Holds.{ListingHeld}
use Rattle.reading.specs.Views.{View, ProperView}
use Rattle.trials.specs.Fillers.{first_number, fills}
use Rattle.trials.specs.Answers.{answer_of}
use Rattle.grants.specs.Scratch.{texts_of, Numbered}
use Rattle.grants.specs.declared.scratch.Counts.{Counts}
use Rattle.walks.specs.Walks.{hit_shown}
use Rattle.walks.specs.declared.walking.Hit.{Hit}
use Rattle.showing.specs.Shown.{FoundIn}
use Rattle.comparisons.specs.Outcomes.{Compared, answered}

-- two accepted listings and their views
pub record BothRead (s t : Text) (old new : View) : Type 0 where
  pub olds : ListingHeld s old
  pub news : ListingHeld t new

-- the scratch has the numbers of two views
pub record Prepared (old new : View) (x : List ℕ) (c : Counts) : Type 0 where
  pub olds : ProperView old
  pub news : ProperView new
  pub numbers : Numbered old new x c

-- n is the number of two views' filler
abbrev pub IsFiller : View → View → ℕ → Type 0
IsFiller old new n = n ≡ first_number (fills (texts_of old new))

-- a hit is one of the trials of two views
abbrev pub IsTrial : View → View → Option Hit → Type 0
IsTrial old new None = Unit {0}
IsTrial old new (Some h) = FoundIn old new h

-- what is answered for a hit
abbrev pub compared_hit : View → View → Option Hit → Compared
compared_hit old new h = answered (answer_of (hit_shown old new h))
