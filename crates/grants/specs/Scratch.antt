-- The scratch of a comparison: what its numbers say. For the proofs alone.
-- A *stem* stands for each `pattern` line, those of new and then those of old, and one more: the path of an exact line, P`/`filler of a prefix line, `/`filler`.`E of an
-- extension line, `/`filler of a default line and of the last. Its numbers are its sort, and its best line in old and in new.
use Rattle.std.specs.Prelude.{ℕ, ◌+◌, ◌*◌, ◌/◌, ◌%◌, ◌≤◌, ◌<◌, ◌≡◌, Bool, false, cond, List, [], ◌++◌, length, get_or, take, eqb, leb}
use Rattle.text.specs.Texts.{Text, part, same, member, run}
use Rattle.names.specs.Patterns.{PatternKind, exact, prefix, extension, default, unpermitted, kind_of}
use Rattle.reading.specs.Views.{View, texts}
use Rattle.decisions.specs.Matching.{is_under}
use Rattle.matching.specs.Strengths.{strength, start_leading, lead_by}
use Rattle.matching.specs.declared.Leading.{Leading}
use Rattle.trials.specs.Trials.{below, dotted}
use Rattle.grants.specs.Sides.{SideOf, PairsOf, PairsFit}
use Rattle.grants.specs.declared.scratch.Counts.{Counts}

-- ---- where the lists stand
abbrev pub old_side : List ℕ → List ℕ
old_side x = part 0 512 x

abbrev pub new_side : List ℕ → List ℕ
new_side x = part 512 1024 x

-- the trial methods: new's numbers, and 64 numbers on old's
abbrev pub pairs_in : List ℕ → List ℕ
pairs_in x = part 1024 1152 x

-- the best line of stem j in old and in new, and its sort
abbrev pub best_in_old : List ℕ → ℕ → ℕ
best_in_old x j = get_or x (1152 + j) 0

abbrev pub best_in_new : List ℕ → ℕ → ℕ
best_in_new x j = get_or x (1409 + j) 0

abbrev pub sort_at : List ℕ → ℕ → ℕ
sort_at x j = get_or x (1666 + j) 0

-- ---- a best line as a number: 0 where nothing matches, else twice its number from 1, and one more where it is firm (a prefix or an exact one)
abbrev pub best_number : Leading → ℕ
best_number x = cond (eqb x.most 0) 0 (2 * (x.at + 1) + cond (leb 3 x.most) 1 0)

-- its number from 1, 0 where there is none
abbrev pub line_in : ℕ → ℕ
line_in v = v / 2

abbrev pub is_firm_in : ℕ → Bool
is_firm_in v = eqb (v % 2) 1

-- what an extension behind a stem makes of the stem's best line v: it stays where it is firm, and else is the extension's own, u
abbrev pub staying : ℕ → ℕ → ℕ
staying v u = cond (is_firm_in v) v u

-- ---- the sorts of stems
-- 0: nothing to try, since the same text stands before; 1: one path; 2: a path, then with each extension behind it; 3: one path, and an extension
abbrev pub sort_of : PatternKind → ℕ
sort_of (exact q) = 1
sort_of (prefix p) = 2
sort_of (extension e) = 3
sort_of default = 1
sort_of unpermitted = 1

unfoldable pub sorted : List Text → ℕ → ℕ
unfolding member kind_of
sorted ts j = cond (member (get_or ts j []) (take j ts)) 0 (sort_of (kind_of (get_or ts j [])))

-- ---- the best line of a stem, which needs no filler
-- below P the paths P`/`filler: what is above P matches, and the default
abbrev pub below_strength : Text → PatternKind → ℕ
below_strength p (exact q) = 0
below_strength p (prefix q) = cond (is_under q p) (3 + length q) 0
below_strength p (extension e) = 0
below_strength p default = 1
below_strength p unpermitted = 0

-- at `/`filler`.`E: `/*`, the extension E itself, the default
abbrev pub end_strength : Text → PatternKind → ℕ
end_strength e (exact q) = 0
end_strength e (prefix q) = cond (is_under q []) (3 + length q) 0
end_strength e (extension d) = cond (same e d) 2 0
end_strength e default = 1
end_strength e unpermitted = 0

-- how strong the pattern text u is at the stem of a pattern of kind k
unfoldable pub stem_strength : PatternKind → Text → ℕ
unfolding strength kind_of is_under same
stem_strength (exact q) u = strength u q
stem_strength (prefix p) u = below_strength p (kind_of u)
stem_strength (extension e) u = end_strength e (kind_of u)
stem_strength default u = below_strength [] (kind_of u)
stem_strength unpermitted u = 0

-- the strongest by such numbers
unfoldable pub leading_by : (Text → ℕ) → List Text → Leading
unfolding run
leading_by g ts = run (λ (x : Leading) (u : Text). lead_by x (g u)) start_leading ts

-- the best line among ts of the stem of a pattern of kind k
unfoldable pub stem_best : List Text → PatternKind → ℕ
unfolding leading_by stem_strength
stem_best ts k = best_number (leading_by (stem_strength k) ts)

-- the path of the stem
abbrev pub stem_path : Text → PatternKind → Text
stem_path filler (exact q) = q
stem_path filler (prefix p) = below p filler
stem_path filler (extension e) = dotted [] filler e
stem_path filler default = below [] filler
stem_path filler unpermitted = []

-- ---- all the numbers
-- the pattern texts of both views in the order of the trials
abbrev pub texts_of : View → View → List Text
texts_of old new = texts new ++ texts old

-- the numbers of a stem of kind k
pub record StemIn (old new : View) (x : List ℕ) (j : ℕ) (k : PatternKind) : Type 0 where
  pub in_old_lem : best_in_old x j ≡ stem_best (texts old) k
  pub in_new_lem : best_in_new x j ≡ stem_best (texts new) k

-- the scratch x, with its counts c, has the numbers of both views
pub record Numbered (old new : View) (x : List ℕ) (c : Counts) : Type 0 where
  pub size : length x ≡ 2048
  pub olds : c.old ≡ length (texts old)
  pub news : c.new ≡ length (texts new)
  pub old_side_lem : SideOf new.roles old (old_side x)
  pub new_side_lem : SideOf new.roles new (new_side x)
  pub methods : PairsOf old.methods new.methods (pairs_in x) c.methods
  pub sorts : (j : ℕ) → j < length (texts_of old new) → sort_at x j ≡ sorted (texts_of old new) j
  pub stems : (j : ℕ) → j < length (texts_of old new) → member (get_or (texts_of old new) j []) (take j (texts_of old new)) ≡ false
      → StemIn old new x j (kind_of (get_or (texts_of old new) j []))
  pub last_sort : sort_at x (length (texts_of old new)) ≡ 1
  pub last_stem_lem : StemIn old new x (length (texts_of old new)) default

-- what the walk over the numbers needs of them to be safe
pub record Walkable (x : List ℕ) (c : Counts) : Type 0 where
  pub size : length x ≡ 2048
  pub olds : c.old ≤ 128
  pub news : c.new ≤ 128
  pub few : c.methods ≤ 63
  pub fits : PairsFit (pairs_in x) c.methods
