-- How a path ends: what follows the last `.` of its last segment, sought from the end.
use mathlib.Core.Path.{◌≡◌, refl, sym, ap, ◌∙◌}
use mathlib.Core.Bool.{Bool, true, false, cond, ◌||◌}
use mathlib.Core.List.{[], ◌∷◌, ◌++◌}
use Prim.Native.Nat.{ℕ, suc, ◌+◌, ◌-◌, ◌≤◌, ◌<◌}
use native.Mathlib.Omega.{arith}
use lib.ListN.{length, take, drop, get_or, take-append-drop}
use lib.Seq.{drop-length, drop-cons}
use lib.Dec.{eqb}
use borrow.Author.Tests.{ne_eqb}
use Rattle.text.specs.Texts.{Text, slash, dot, has}
use Rattle.decisions.specs.Matching.{after_last_or, after_last, last_segment}
use Rattle.decisions.proofs.Lasts.{last_none, last_behind, has_middle}
use Rattle.matching.specs.Strengths.{Ends}
use Rattle.matching.specs.declared.Ending.TheVariants.{Extension, Segment}

-- ---- what follows the last b
-- where all ends with a text without one, what follows the last does too
last_ends : (b : ℕ) (keep s t : Text) → has b t ≡ false → (u : Text) × (after_last_or b (keep ++ t) (s ++ t) ≡ u ++ t)
unfolding after_last_or
last_ends b keep [] t h = (keep, last_none b (keep ++ t) t h)
last_ends b keep (x ∷ xs) t h =
    let r = last_ends b (cond (eqb b x) xs keep) xs t h in (r.0, ap (λ (k : Text). after_last_or b k (xs ++ t)) (go (eqb b x)) ∙ r.1)
  where
    go : (c : Bool) → cond c (xs ++ t) (keep ++ t) ≡ cond c xs keep ++ t
    go true = refl
    go false = refl

-- ---- a byte in a text
-- another byte before it does not matter
has_other : (b x : ℕ) (t : Text) → (x ≡ b → ⊥) → has b (x ∷ t) ≡ has b t
unfolding has
has_other b x t n = ap (λ (c : Bool). c || has b t) (ne_eqb b x (λ e. n (sym e)))

-- ---- the loop
-- the path has no `.` and no `/` from the offset on
pub record PlainFrom (path : Text) (at : ℕ) : Type 0 where
  pub no_dot : has dot (drop at path) ≡ false
  pub no_slash : has slash (drop at path) ≡ false
  pub within : at ≤ length path

-- as from its end
pub plain_end : (path : Text) → PlainFrom path (length path)
unfolding has
plain_end path = record { no_dot = ap (has dot) (drop-length path); no_slash = ap (has slash) (drop-length path); within = omega arith }

module _ (path : Text) (at : ℕ) (v : PlainFrom path at) where
  -- the path from the byte before the offset on
  before : 0 < at → drop (at - 1) path ≡ get_or path (at - 1) 0 ∷ drop at path
  before h = let z : suc (at - 1) ≡ at = omega arith in drop-cons path (at - 1) 0 (omega arith) ∙ rw z

  -- the path cut at that byte
  cut : (b : ℕ) → 0 < at → get_or path (at - 1) 0 ≡ b → path ≡ take (at - 1) path ++ b ∷ drop at path
  cut b h e = sym (take-append-drop (at - 1) path) ∙ ap (λ (t : Text). take (at - 1) path ++ t) (before h ∙ rw e)

  -- the byte is neither: on to it
  pub plain_step : 0 < at → (get_or path (at - 1) 0 ≡ 46 → ⊥) → (get_or path (at - 1) 0 ≡ 47 → ⊥) → PlainFrom path (at - 1)
  plain_step h n m = record { no_dot = other dot n v.no_dot; no_slash = other slash m v.no_slash; within = omega arith }
    where
      other : (b : ℕ) → (get_or path (at - 1) 0 ≡ b → ⊥) → has b (drop at path) ≡ false → has b (drop (at - 1) path) ≡ false
      other b n e = ap (has b) (before h) ∙ has_other b (get_or path (at - 1) 0) (drop at path) n ∙ e

  -- it is a `.`: what follows is the extension
  pub ends_dotted : 0 < at → get_or path (at - 1) 0 ≡ 46 → Ends path (Extension (at - 1 + 1))
  ends_dotted h e =
      let u : Text = take (at - 1) path in
      let r = last_ends slash u u (dot ∷ drop at path) (has_other slash dot (drop at path) (λ q. omega arith) ∙ v.no_slash) in
      let segment : last_segment path ≡ r.0 ++ dot ∷ drop at path = ap (λ (p : Text). last_segment p) (cut dot h e) ∙ r.1 in
      let z : at - 1 + 1 ≡ at = omega arith in
      record {
        dotted = sym (ap (has dot) segment ∙ has_middle dot r.0 (drop at path));
        behind = ap (λ (k : ℕ). drop k path) z ∙ sym (ap (after_last dot) segment ∙ last_behind dot (r.0 ++ dot ∷ drop at path) r.0 (drop at path) v.no_dot);
        within = omega (arith, v.within);
      }

  -- where the last segment begins at the offset, it has no `.`
  segment_plain : (k : ℕ) → k ≡ at → last_segment path ≡ drop at path → Ends path (Segment k)
  segment_plain k e segment = record {
    dotted = sym (ap (has dot) segment ∙ v.no_dot);
    behind = ap (λ (i : ℕ). drop i path) e ∙ sym (ap (after_last dot) segment ∙ last_none dot (drop at path) (drop at path) v.no_dot);
    within = omega (arith, v.within);
  }

  -- as where the byte is a `/`
  pub ends_plain : 0 < at → get_or path (at - 1) 0 ≡ 47 → Ends path (Segment (at - 1 + 1))
  ends_plain h e =
      let u : Text = take (at - 1) path in
      segment_plain (at - 1 + 1) (omega arith) (ap (λ (p : Text). last_segment p) (cut slash h e) ∙ last_behind slash (u ++ slash ∷ drop at path) u (drop at path) v.no_slash)

  -- or where there is none: the path is one segment
  pub ends_whole : at ≤ 0 → Ends path (Segment 0)
  ends_whole h =
      let z : at ≡ 0 = omega arith in
      segment_plain 0 (sym z) (last_none slash path path (rw z at v.no_slash) ∙ ap (λ (i : ℕ). drop i path) (sym z))
