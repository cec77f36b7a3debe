-- Marking the numbers of a view's pattern texts, one text after the other.
use mathlib.Core.Path.{◌≡◌, refl}
use mathlib.Core.Bool.{Bool, true, false, not, ◌&&◌, ◌||◌}
use mathlib.Core.List.{List, [], ◌∷◌}
use Prim.Native.Nat.{ℕ, suc, ◌+◌, ◌≤◌, ◌<◌}
use native.Mathlib.Numerals.{add-one}
use native.Mathlib.Omega.{arith}
use lib.ListN.{length, drop, get_or, drop_of_length-le}
use lib.Seq.{drop-cons}
use Rattle.text.specs.Texts.{Text}
use Rattle.trials.specs.Fillers.{numbered, occurs, absent, fills}
use Rattle.fillers.specs.Marks.{MarkedToo, within, within_any}
use Rattle.fillers.proofs.Marking.{Remaining, marking_starts, marking_ends, marking_turns}

-- ---- the pattern texts one after the other
-- the first of some texts, or one of the others
within_more : (t : Text) (ts : List Text) (n : ℕ) → within_any (t ∷ ts) n ≡ within t n || within_any ts n
unfolding within within_any fills absent
within_more t ts n = go (occurs (numbered (113 ∷ []) n) t) (absent (numbered (113 ∷ []) n) ts)
  where
    go : (a b : Bool) → not (not a && b) ≡ a || not b
    go true b = refl
    go false b = refl

-- nothing is inside none
within_none : (n : ℕ) → within_any [] n ≡ false
unfolding within_any fills absent
within_none n = refl

module _ (ps : List Text) where
  pub lines_start : (ws : List ℕ) → Remaining (within_any ps) (within_any ps) ws ws
  lines_start ws = marking_starts (within_any ps) (within_any ps) ws (λ n h. refl)

  module _ (before now : List ℕ) (k : ℕ) (M : Remaining (within_any ps) (within_any (drop k ps)) before now) where
    -- no text is left
    pub lines_end : (count : ℕ) → count ≡ length ps → count ≤ k → MarkedToo (within_any ps) before now
    lines_end count e h = marking_ends (within_any ps) _ before now M (λ n l. rw (drop_of_length-le ps (rw e at h)) (within_none n))

    -- the next is marked
    pub lines_turn : (count : ℕ) (u : Text) → count ≡ length ps → k < count → u ≡ get_or ps k [] → (now' : List ℕ) → MarkedToo (within u) now now'
        → Remaining (within_any ps) (within_any (drop (k + 1) ps)) before now'
    lines_turn count u e h u-is now' T =
        let l : k < length ps = omega arith in
        marking_turns (within_any ps) _ before now M _ _ now' T
        (λ n m. rw (drop-cons ps k [] l, add-one k, ← u-is) (within_more u (drop (suc k) ps) n))
