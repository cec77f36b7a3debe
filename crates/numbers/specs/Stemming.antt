-- The stems while they are written: by the tests of the code. For the proofs alone.
use Rattle.std.specs.Prelude.{ℕ, ◌+◌, ◌*◌, ◌≤◌, ◌<◌, ◌≡◌, Bool, true, false, cond, List, [], ◌++◌, length, get_or, set, take, eqb, leb, Option, Some, None}
use Rattle.std.specs.List.{position}
use Rattle.text.specs.Texts.{Text, bytes, same, member, index_of}
use Rattle.names.specs.Patterns.{default, kind_of, is_permitted}
use Rattle.reading.specs.Views.{View, texts, ProperView}
use Rattle.matching.specs.Strengths.{kind_strength}
use Rattle.grants.specs.Scratch.{is_firm_in, sort_of, stem_best, texts_of}
use Rattle.firsts.specs.Keeping.{Kept}
use Rattle.firsts.specs.Shares.{Laid, Firsts}
use Rattle.numbers.specs.declared.stems.Stem.{Stem}
use Rattle.numbers.specs.declared.stems.Spot.{Spot}

-- an exact text or a prefix
unfoldable pub is_firm_text : Text → Bool
unfolding kind_of
is_firm_text t = leb 3 (kind_strength (kind_of t))

-- the best line of the stem of an extension that is line k, or of `/`, by that of the root
unfoldable pub soft_best : Text → Option ℕ → ℕ → ℕ
unfolding same
soft_best t None root = root
soft_best t (Some k) root = cond (is_firm_in root) root (cond (same t (bytes "/")) root (2 * (k + 1)))

-- the first of some texts that is this one
unfoldable pub line_among : Text → List Text → Option ℕ
unfolding same
line_among t us = position (λ u. same u t) us

-- ---- where a text stands
-- the lines with the text are those with the number f
pub record Findable (v : View) (fs : List ℕ) (text : Text) (f : ℕ) : Type 0 where
  pub room : length (texts v) ≤ length fs
  pub tells : (k : ℕ) → k < length (texts v) → eqb (get_or fs k 0) f ≡ same (get_or (texts v) k []) text

-- it is none of the lines
pub record Lacking (v : View) (text : Text) : Type 0 where
  pub proper : ProperView v
  pub lacks : length (texts v) ≤ index_of text (texts v)

-- the text is line k, and root the best line of `/`filler
pub record BestSought (v : View) (text : Text) (k : Option ℕ) (root : ℕ) : Type 0 where
  pub proper : ProperView v
  pub permitted : is_permitted (kind_of text) ≡ true
  pub line : k ≡ line_among text (texts v)
  pub root_is : root ≡ stem_best (texts v) default

-- its first line of both is f; where that is one of new, the numbers of old's lines are still there
pub record Spottable (old new : View) (fs : List ℕ) (text : Text) (f : ℕ) : Type 0 where
  pub olds : ProperView old
  pub news : ProperView new
  pub size : length fs ≡ 257
  pub first : f ≡ index_of text (texts new ++ texts old)
  pub among : index_of text (texts new ++ texts old) < length (texts new ++ texts old)
  pub lines : f < length (texts new) → (k : ℕ) → k < length (texts old)
      → get_or fs (length (texts new) + k) 0 ≡ index_of (get_or (texts old) k []) (texts new ++ texts old)

pub record SpotIs (os ns : List Text) (t : Text) (x : Spot) : Type 0 where
  pub in_old_lem : x.in_old ≡ line_among t os
  pub in_new_lem : x.in_new ≡ line_among t ns

-- ---- stems
-- the stem of `/`filler
unfoldable pub last_stem : List Text → List Text → Stem
unfolding stem_best
last_stem os ns = record { sort = 1; in_old = stem_best os default; in_new = stem_best ns default }

-- what is needed of a text that stands nowhere before, and its stem
pub record Fresh (old new : View) (text : Text) (spot : Spot) (last : Stem) : Type 0 where
  pub olds : ProperView old
  pub news : ProperView new
  pub permitted : is_permitted (kind_of text) ≡ true
  pub spot_is : SpotIs (texts old) (texts new) text spot
  pub last_is : last ≡ last_stem (texts old) (texts new)

pub record FreshIs (os ns : List Text) (t : Text) (x : Stem) : Type 0 where
  pub sort : x.sort ≡ sort_of (kind_of t)
  pub in_old_lem : x.in_old ≡ stem_best os (kind_of t)
  pub in_new_lem : x.in_new ≡ stem_best ns (kind_of t)

-- line j, where the numbers of the first lines still stand from it on
pub record Stemmable (old new : View) (fs : List ℕ) (last : Stem) (j : ℕ) : Type 0 where
  pub olds : ProperView old
  pub news : ProperView new
  pub inside : j < length (texts new ++ texts old)
  pub size : length fs ≡ 257
  pub few : j < 257
  pub firsts : (i : ℕ) → j ≤ i → i < length (texts new ++ texts old)
      → get_or fs i 0 ≡ index_of (get_or (texts new ++ texts old) i []) (texts new ++ texts old)
  pub last_is : last ≡ last_stem (texts old) (texts new)

-- x is the stem of the text t at line j of both, whose pattern texts are os and ns: its sort alone where t stands before
pub record StemIs (os ns : List Text) (t : Text) (j : ℕ) (x : Stem) : Type 0 where
  pub sort : x.sort ≡ cond (member t (take j (ns ++ os))) 0 (sort_of (kind_of t))
  pub in_old_lem : member t (take j (ns ++ os)) ≡ false → x.in_old ≡ stem_best os (kind_of t)
  pub in_new_lem : member t (take j (ns ++ os)) ≡ false → x.in_new ≡ stem_best ns (kind_of t)

-- x is the stem of line j of both
abbrev pub StemOf : List Text → List Text → ℕ → Stem → Type 0
StemOf os ns j x = StemIs os ns (get_or (ns ++ os) j []) j x

-- stem j in the scratch
abbrev pub put_stem : ℕ → Stem → List ℕ → List ℕ
put_stem j x w = set (set (set w (1152 + j) x.in_old) (1409 + j) x.in_new) (1666 + j) x.sort

-- what stands of stem j there
abbrev pub stem_in : ℕ → List ℕ → Stem
stem_in j w = record { sort = get_or w (1666 + j) 0; in_old = get_or w (1152 + j) 0; in_new = get_or w (1409 + j) 0 }

-- the first n stems of the lines
pub record StemsWritten (os ns : List Text) (n : ℕ) (w₀ w : List ℕ) : Type 0 where
  pub kept : Kept 1152 2048 w₀ w
  pub stems : (j : ℕ) → j < n → StemIs os ns (get_or (ns ++ os) j []) j (stem_in j w)
  pub behind : stem_in (length (ns ++ os)) w ≡ stem_in (length (ns ++ os)) w₀

-- all of them
pub record AllStems (os ns : List Text) (w₀ w : List ℕ) : Type 0 where
  pub kept : Kept 1152 2048 w₀ w
  pub stems : (j : ℕ) → j < length (ns ++ os) → StemIs os ns (get_or (ns ++ os) j []) j (stem_in j w)
  pub last : stem_in (length (ns ++ os)) w ≡ last_stem os ns

-- ---- the numbers of the first lines of the texts of both, count of them, in the scratch
pub record FirstsLent (old new : View) (count : ℕ) (w : List ℕ) : Type 0 where
  pub laid : Laid old new w
  pub all : count ≡ length (texts_of old new)
  pub firsts : Firsts (texts_of old new) count w

-- and the last stem behind them
pub record StemsLent (old new : View) (count : ℕ) (last : Stem) (w : List ℕ) : Type 0 where
  pub laid : Laid old new w
  pub all : count ≡ length (texts_of old new)
  pub firsts : Firsts (texts_of old new) count w
  pub last_is : last ≡ last_stem (texts old) (texts new)
