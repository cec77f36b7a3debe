-- The scratch while it is filled: what each part of it leaves. For the proofs alone.
use Rattle.std.specs.Prelude.{ℕ, ◌≤◌, ◌≡◌, List, length}
use Rattle.text.specs.Texts.{part}
use Rattle.reading.specs.Views.{View, texts}
use Rattle.grants.specs.Sides.{SideOf, PairsOf}
use Rattle.grants.specs.Scratch.{Numbered, texts_of}
use Rattle.firsts.specs.Shares.{Laid, Firsts}
use Rattle.grants.specs.declared.scratch.Counts.{Counts}
use Rattle.firsts.specs.Keeping.{Kept}

-- the first lines of the texts of both stand there; new has n lines
pub record FirstsStand (old new : View) (n : ℕ) (w₀ w : List ℕ) : Type 0 where
  pub kept : Kept 0 2048 w₀ w
  pub laid : Laid old new w
  pub firsts : Firsts (texts_of old new) (length (texts_of old new)) w
  pub news : n ≡ length (texts new)
  pub few : n ≤ 128

-- the same, whatever stood before
pub record SidesLent (old new : View) (n : ℕ) (w : List ℕ) : Type 0 where
  pub laid : Laid old new w
  pub firsts : Firsts (texts_of old new) (length (texts_of old new)) w
  pub news : n ≡ length (texts new)
  pub few : n ≤ 128

-- both sides stand there
pub record SidesWritten (old new : View) (w₀ w : List ℕ) : Type 0 where
  pub kept : Kept 0 1024 w₀ w
  pub old_side_lem : SideOf new.roles old (part 0 512 w)
  pub new_side_lem : SideOf new.roles new (part 512 1024 w)

-- and the trial methods, count of them
pub record TablesWritten (old new : View) (w₀ w : List ℕ) (count : ℕ) : Type 0 where
  pub kept : Kept 0 1152 w₀ w
  pub old_side_lem : SideOf new.roles old (part 0 512 w)
  pub new_side_lem : SideOf new.roles new (part 512 1024 w)
  pub methods : PairsOf old.methods new.methods (part 1024 1152 w) count

-- and all else
pub record NumbersWritten (old new : View) (w₀ w : List ℕ) (c : Counts) : Type 0 where
  pub kept : Kept 0 2048 w₀ w
  pub numbers : Numbered old new (part 0 2048 w) c

-- the counts of both, with those of m trial methods
abbrev pub counts_of : View → View → ℕ → Counts
counts_of old new m = record { old = length (texts old); new = length (texts new); methods = m }
