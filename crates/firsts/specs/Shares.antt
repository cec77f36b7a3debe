-- What texts share from their start, and the numbers that stand for it in the scratch. For the proofs alone.
use Rattle.std.specs.Prelude.{ℕ, suc, ◌+◌, ◌≤◌, ◌<◌, ◌≡◌, Bool, cond, List, [], ◌∷◌, ◌++◌, length, get_or, set, eqb}
use Rattle.text.specs.Texts.{Text, same, index_of}
use Rattle.reading.specs.Views.{View, texts, ProperView}
use Rattle.firsts.specs.Keeping.{Kept}

-- how many bytes two texts share from their start
unfoldable pub common : Text → Text → ℕ
common [] u = 0
common (x ∷ xs) [] = 0
common (x ∷ xs) (y ∷ ys) = cond (eqb x y) (suc (common xs ys)) 0

-- ---- the scratch
-- the pattern texts of two views: new's, and then old's
abbrev pub lines_in : View → View → List Text
lines_in old new = texts new ++ texts old

-- both views are as they should be, and w has room for 2,048 numbers
pub record Laid (old new : View) (w : List ℕ) : Type 0 where
  pub olds : ProperView old
  pub news : ProperView new
  pub room : 2048 ≤ length w

-- p is a line not behind j; where it stands before, the two share d bytes
pub record Near (ts : List Text) (j p d : ℕ) : Type 0 where
  pub ahead : p ≤ j
  pub share : p < j → d ≡ common (get_or ts j []) (get_or ts p [])

-- each line up to e has such a one
abbrev pub Tree : List Text → ℕ → List ℕ → Type 0
Tree ts e w = (j : ℕ) → j < e → Near ts j (get_or w j 0) (get_or w (256 + j) 0)

-- what the text t shares with the lines up to e
abbrev pub Shared : Text → List Text → ℕ → List ℕ → Type 0
Shared t ts e w = (i : ℕ) → i < e → get_or w (512 + i) 0 ≡ common t (get_or ts i [])

-- what t shares with the lines before line i is known
pub record Sharing (old new : View) (t : Text) (i : ℕ) (w : List ℕ) : Type 0 where
  pub laid : Laid old new w
  pub inside : i < length (lines_in old new)
  pub few : i < 256
  pub tree : Tree (lines_in old new) (i + 1) w
  pub shared : Shared t (lines_in old new) i w

-- t shares x bytes with line i
pub record Compared (old new : View) (t : Text) (i x : ℕ) : Type 0 where
  pub inside : i < length (lines_in old new)
  pub share : x ≡ common t (get_or (lines_in old new) i [])

-- that was entered, and r says whether the line has the text
pub record ShareEntered (t : Text) (ts : List Text) (i : ℕ) (w₀ w : List ℕ) (r : Bool) : Type 0 where
  pub written : w ≡ set w₀ (512 + i) (common t (get_or ts i []))
  pub found : r ≡ same (get_or ts i []) t

-- ---- a line is entered
-- line j can be: those before it are
pub record Enterable (old new : View) (j : ℕ) (w : List ℕ) : Type 0 where
  pub laid : Laid old new w
  pub inside : j < length (lines_in old new)
  pub few : j < 256
  pub tree : Tree (lines_in old new) j w

-- f is the first line with its text, and what it shares with the lines up to there is entered
pub record FirstFound (ts : List Text) (j : ℕ) (w₀ w : List ℕ) (f : ℕ) : Type 0 where
  pub kept : Kept 512 768 w₀ w
  pub first : f ≡ index_of (get_or ts j []) ts
  pub ahead : f ≤ j
  pub shared : (i : ℕ) → i < j → i ≤ f → get_or w (512 + i) 0 ≡ common (get_or ts j []) (get_or ts i [])

-- p is one of these, or j
pub record Nearby (j f p : ℕ) : Type 0 where
  pub ahead : p ≤ j
  pub known : p < j → p ≤ f

-- line j with its nearest line p and the first line f that has its text
abbrev pub put_near : ℕ → ℕ → ℕ → List ℕ → List ℕ
put_near j p f w = set (set (set w j p) (256 + j) (get_or w (512 + p) 0)) (1666 + j) f

-- the numbers of line i are as they were
pub record LineKept (i : ℕ) (w₀ w : List ℕ) : Type 0 where
  pub nearest : get_or w i 0 ≡ get_or w₀ i 0
  pub share : get_or w (256 + i) 0 ≡ get_or w₀ (256 + i) 0
  pub first : get_or w (1666 + i) 0 ≡ get_or w₀ (1666 + i) 0

-- line j is entered
pub record Entered (ts : List Text) (j : ℕ) (w₀ w : List ℕ) : Type 0 where
  pub kept : Kept 0 2048 w₀ w
  pub others : (i : ℕ) → i < j → LineKept i w₀ w
  pub near : Near ts j (get_or w j 0) (get_or w (256 + j) 0)
  pub first : get_or w (1666 + j) 0 ≡ index_of (get_or ts j []) ts

-- ---- all lines are
-- the first line with the text of each line up to e
abbrev pub Firsts : List Text → ℕ → List ℕ → Type 0
Firsts ts e w = (j : ℕ) → j < e → get_or w (1666 + j) 0 ≡ index_of (get_or ts j []) ts

-- both are so, with count lines in all
pub record Counted (old new : View) (count : ℕ) (w : List ℕ) : Type 0 where
  pub laid : Laid old new w
  pub all : count ≡ length (lines_in old new)

-- the lines up to count are entered
pub record FirstsWritten (ts : List Text) (count : ℕ) (w₀ w : List ℕ) : Type 0 where
  pub kept : Kept 0 2048 w₀ w
  pub tree : Tree ts count w
  pub firsts : Firsts ts count w
