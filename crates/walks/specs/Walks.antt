-- The walk over the numbers of the scratch: for the proofs alone, which show that it finds Verdicts' verdict.
use Rattle.std.specs.Prelude.{ℕ, zero, suc, ◌+◌, cond, List, [], ◌∷◌, ◌++◌, length, get_or, eqb, ltb, Option as Maybe, Some, None}
use Rattle.std.proofs.Math.Option.{Option, none, some}
use Rattle.text.specs.Texts.{Text, dot}
use Rattle.names.specs.Patterns.{PatternKind, default, kind_of}
use Rattle.reading.specs.Views.{View}
use Rattle.decisions.specs.Requests.{Request, request}
use Rattle.trials.specs.Fillers.{filler}
use Rattle.trials.specs.Trials.{extension_in, methods_tried}
use Rattle.grants.specs.Sides.{caller_at}
use Rattle.grants.specs.Catches.{caught_in}
use Rattle.grants.specs.Scratch.{old_side, new_side, pairs_in, best_in_old, best_in_new, sort_at, line_in, staying, texts_of, stem_path}
use Rattle.grants.specs.declared.scratch.Counts.{Counts}
use Rattle.grants.specs.declared.judging.Catch.{Catch}
use Rattle.walks.specs.declared.walking.Hit.{Hit}

-- ---- one path
-- who is caught where the best line is u in old and v in new
unfoldable pub caught_at : List ℕ → Counts → ℕ → ℕ → Maybe Catch
unfolding caught_in
caught_at x c u v = caught_in (old_side x) c.old (new_side x) c.new (pairs_in x) c.methods (line_in u) (line_in v)

-- at stem j, with the extension of stem i behind it
abbrev pub caught_behind : List ℕ → Counts → ℕ → ℕ → Maybe Catch
caught_behind x c j i = caught_at x c (staying (best_in_old x j) (best_in_old x i)) (staying (best_in_new x j) (best_in_new x i))

-- a hit at stem j, with the extension of line e behind it
abbrev pub some_hit : ℕ → Maybe ℕ → Catch → Maybe Hit
some_hit j e c = Some (record { stem = j; ending = e; caught = c })

-- ---- the extensions behind a stem
-- the first, from stem i on, by which stem j shows; k stems are left
unfoldable pub behind_from : List ℕ → Counts → ℕ → ℕ → ℕ → Maybe Hit
unfolding caught_at
behind_from x c j zero i = None
behind_from x c j (suc k) i =
    cond (eqb (sort_at x i) 3)
    (elim (caught_behind x c j i) [ None ↦ behind_from x c j k (i + 1) | Some y ↦ some_hit j (Some i) y ])
    (behind_from x c j k (i + 1))

-- of all the lines
abbrev pub behind : List ℕ → Counts → ℕ → Maybe Hit
behind x c j = behind_from x c j (c.old + c.new) 0

-- ---- the stems
-- what stem j shows
unfoldable pub stem_hit : List ℕ → Counts → ℕ → Maybe Hit
unfolding caught_at behind_from
stem_hit x c j =
    cond (eqb (sort_at x j) 0) None
    (elim (caught_at x c (best_in_old x j) (best_in_new x j)) [ None ↦ cond (eqb (sort_at x j) 2) (behind x c j) None | Some y ↦ some_hit j None y ])

-- the first hit from stem j on; k stems are left
unfoldable pub walk_from : List ℕ → Counts → ℕ → ℕ → Maybe Hit
unfolding stem_hit
walk_from x c zero j = None
walk_from x c (suc k) j = elim (stem_hit x c j) [ None ↦ walk_from x c k (j + 1) | Some h ↦ Some h ]

-- of all, the last too
unfoldable pub walked : List ℕ → Counts → Maybe Hit
unfolding walk_from
walked x c = walk_from x c (c.old + c.new + 1) 0

-- ---- the request that a hit stands for
-- the kind of stem j; behind the lines stands the last, `/`filler
abbrev pub kind_at : List Text → ℕ → PatternKind
kind_at ts j = cond (ltb j (length ts)) (kind_of (get_or ts j [])) default

-- `.`E, where the extension is that of stem i
abbrev pub ending : List Text → Maybe ℕ → Text
ending ts None = []
ending ts (Some i) = ending_of (extension_in (kind_at ts i))
  where
    ending_of : List Text → Text
    ending_of [] = []
    ending_of (e ∷ es) = dot ∷ e

abbrev pub hit_path : Text → List Text → ℕ → Maybe ℕ → Text
hit_path made ts j e = stem_path made (kind_at ts j) ++ ending ts e

-- of two views
abbrev pub hit_shown : View → View → Maybe Hit → Option Request
hit_shown old new None = none
hit_shown old new (Some h) =
    some (request (hit_path (filler (texts_of old new)) (texts_of old new) h.stem h.ending) (get_or (methods_tried old.methods new.methods) h.caught.method []) (caller_at new.roles h.caught.caller))
