-- What a listing's `pattern` lines come to, one after the other: for the proofs alone, which show that it is what Decisions combines.
use Rattle.std.specs.Prelude.{Bool, true, false, cond, ◌&&◌, List}
use Rattle.text.specs.Texts.{Text, same, run}
use Rattle.listings.specs.Listings.{Listing, PatternLine, covers, pattern_lines_of}
use Rattle.decisions.specs.Combining.{Access, join, neutral, access_of}

-- the line has that pattern text, and its collection covers the method
unfoldable pub is_for : Text → Text → PatternLine → Bool
unfolding same covers
is_for t m r = same r.text t && covers r.collection m

-- what is gathered so far: whether a line is for them, and what those that are come to
pub record Gathered : Type 0 where
  pub any : Bool
  pub sum : Access

-- of no line
abbrev pub nothing_gathered : Gathered
nothing_gathered = record { any = false; sum = neutral }

-- with one line more
unfoldable pub with_line : List Text → Text → Text → Gathered → PatternLine → Gathered
unfolding is_for access_of
with_line declared t m g r = cond (is_for t m r) (record { any = true; sum = join g.sum (access_of declared r.constraint) }) g

-- from the first line to the last
unfoldable pub gathered : Listing → Text → Text → Gathered
unfolding run with_line pattern_lines_of
gathered l t m = run (with_line l.declared t m) nothing_gathered (pattern_lines_of l)
