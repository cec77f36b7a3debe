-- A table that holds a view, and into which the numbers of its lines are written behind it, one after the other: the view stays what it was.
use mathlib.Core.Path.{◌≡◌, refl, ap, ◌∙◌}
use mathlib.Core.List.{List}
use Prim.Native.Nat.{ℕ, ◌+◌, ◌≤◌, ◌<◌}
use native.Mathlib.Omega.{arith}
use lib.ListN.{length, set}
use Rattle.text.specs.Texts.{Text, part}
use Rattle.reading.specs.Holds.{Holds}
use Rattle.reading.specs.Views.{View, texts, view_at}
use Rattle.entries.specs.declared.tables.Tally.{Tally}
use Rattle.firsts.specs.Keeping.{Kept}
use Rattle.firsts.proofs.Keepings.{kept_all, kept_set, held_still, view_still}
use Rattle.numbers.specs.Writes.{Wrote, LinesWritten}
use Rattle.numbers.proofs.Writings.{wrote_none, wrote_more}

-- the view in the 1,024 numbers from `from` on
abbrev pub view_from : Text → Tally → ℕ → List ℕ → View
view_from s t from w = view_at s t (part from (from + 1024) w)

-- the table holds it there, and has room for z numbers from at on, behind the first 2,048
pub record Lent (s : Text) (t : Tally) (from at z : ℕ) (w : List ℕ) : Type 0 where
  pub held : Holds s t (part from (from + 1024) w)
  pub first : from ≤ 1024
  pub clear : 2048 ≤ at
  pub room : at + z ≤ length w

-- k of n are written, each by g from the view that is held
pub record Writing (s : Text) (t : Tally) (from at n k : ℕ) (g : View → ℕ → ℕ) (w₀ w : List ℕ) : Type 0 where
  pub wrote : Wrote at k (g (view_from s t from w₀)) w₀ w
  pub all : n ≡ length (texts (view_from s t from w₀))
  pub same : view_from s t from w ≡ view_from s t from w₀
  pub lent : Lent s t from at 128 w
  pub so_far : k ≤ n
  pub few : n ≤ 128

module _ (s : Text) (t : Tally) (from at n : ℕ) (g : View → ℕ → ℕ) where
  -- none yet
  pub write_start : (w : List ℕ) → Lent s t from at 128 w → n ≡ length (texts (view_from s t from w)) → Writing s t from at n 0 g w w
  write_start w L e = record {
    wrote = wrote_none at (g (view_from s t from w)) w;
    all = e;
    same = refl;
    lent = L;
    so_far = omega arith;
    few = omega (arith, L.held.proper.few_patterns);
  }

  -- one more
  pub write_more : (k v : ℕ) (w₀ w : List ℕ) → Writing s t from at n k g w₀ w → k < n → v ≡ g (view_from s t from w) k → Writing s t from at n (k + 1) g w₀ (set w (at + k) v)
  write_more k v w₀ w W h e = record {
    wrote = wrote_more at k v (g (view_from s t from w₀)) w₀ w W.wrote (omega (arith, W.lent.room, W.few)) (e ∙ ap (λ (u : View). g u k) W.same);
    all = W.all;
    same = view_still s t from (from + 1024) at (at + (k + 1)) w (set w (at + k) v) stored before (omega arith) within ∙ W.same;
    lent = record {
      held = held_still s t from (from + 1024) at (at + (k + 1)) w (set w (at + k) v) W.lent.held stored before (omega arith) within;
      first = W.lent.first;
      clear = W.lent.clear;
      room = omega (arith, W.lent.room, stored.size);
    };
    so_far = omega arith;
    few = W.few;
  }
    where
      stored : Kept at (at + (k + 1)) w (set w (at + k) v)
      stored = kept_set at (at + (k + 1)) w w (at + k) v (kept_all at (at + (k + 1)) w) (omega arith) (omega arith)

      before : from + 1024 ≤ at
      before = omega (arith, W.lent.first, W.lent.clear)

      within : from + 1024 ≤ length w
      within = omega (arith, W.lent.first, W.lent.clear, W.lent.room)

  -- all
  pub write_all : (k : ℕ) (w₀ w : List ℕ) → Writing s t from at n k g w₀ w → n ≤ k → LinesWritten (view_from s t from w₀) g at w₀ w
  write_all k w₀ w W h = let q : k ≡ length (texts (view_from s t from w₀)) = omega (arith, W.so_far, W.all) in rw q at W.wrote
