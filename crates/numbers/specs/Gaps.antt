-- Lines with one text, by the numbers of their first lines. For the proofs alone.
use Rattle.std.specs.Prelude.{ℕ, ◌+◌, ◌≤◌, ◌<◌, ◌≡◌, List, [], length, get_or, eqb}
use Rattle.text.specs.Texts.{Text, same}
use Rattle.reading.specs.Views.{View, texts, ProperView}

-- two lines have one text exactly where they have one number
abbrev pub Alike : List Text → List ℕ → Type 0
Alike vs fs = (j k : ℕ) → j < length vs → k < length vs → eqb (get_or fs j 0) (get_or fs k 0) ≡ same (get_or vs j []) (get_or vs k [])

-- line k, with such numbers
pub record Gapable (v : View) (fs : List ℕ) (k : ℕ) : Type 0 where
  pub proper : ProperView v
  pub inside : k < length (texts v)
  pub room : length (texts v) ≤ length fs
  pub alike : Alike (texts v) fs

-- there are such numbers, and room for z numbers from offset at on
pub record GapsLent (v : View) (fs : List ℕ) (at z : ℕ) (w : List ℕ) : Type 0 where
  pub proper : ProperView v
  pub room : at + z ≤ length w
  pub firsts : length (texts v) ≤ length fs
  pub alike : Alike (texts v) fs
