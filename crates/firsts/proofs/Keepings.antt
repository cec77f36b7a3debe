-- What a call keeps of the work table.
use mathlib.Core.Path.{◌≡◌, refl, sym, ap, subst, ◌∙◌}
use mathlib.Core.List.{List}
use Prim.Native.Nat.{ℕ, ◌+◌, ◌-◌, ◌≤◌, ◌<◌}
use native.Mathlib.Omega.{arith}
use lib.ListN.{length, get_or, set, drop, length-set, length-drop}
use lib.Seq.{get_or-set_other, ext_get_or, get_or-take, length-take-le, get_or-drop}
use Rattle.text.specs.Texts.{Text, part}
use Rattle.entries.specs.declared.tables.Tally.{Tally}
use Rattle.reading.specs.Holds.{Holds}
use Rattle.reading.specs.Views.{view_at}
use Rattle.firsts.specs.Keeping.{Kept}

pub kept_all : (a e : ℕ) (w : List ℕ) → Kept a e w w
kept_all a e w = record { size = refl; before = λ i h. refl; behind = λ i h. refl }

-- one number is stored inside
pub kept_set : (a e : ℕ) (w₀ w : List ℕ) (i v : ℕ) → Kept a e w₀ w → a ≤ i → i < e → Kept a e w₀ (set w i v)
kept_set a e w₀ w i v K l h = record {
  size = length-set w i v ∙ K.size;
  before = λ j m. get_or-set_other w i j v 0 (λ q. omega arith) ∙ K.before j m;
  behind = λ j m. get_or-set_other w i j v 0 (λ q. omega arith) ∙ K.behind j m;
}

-- one call after another, each inside
pub kept_then : (a e b f c g : ℕ) (w₀ w₁ w₂ : List ℕ) → Kept b f w₀ w₁ → Kept c g w₁ w₂ → a ≤ b → f ≤ e → a ≤ c → g ≤ e → Kept a e w₀ w₂
kept_then a e b f c g w₀ w₁ w₂ K L p q r s = record {
  size = L.size ∙ K.size;
  before = λ i h. L.before i (omega arith) ∙ K.before i (omega arith);
  behind = λ i h. L.behind i (omega arith) ∙ K.behind i (omega arith);
}

-- ---- regions
-- number i of a region
pub part_at : (a e i : ℕ) (w : List ℕ) → a + i < e → get_or (part a e w) i 0 ≡ get_or w (a + i) 0
part_at a e i w h = get_or-take (e - a) (drop a w) i 0 (omega arith) ∙ get_or-drop a w i 0

pub part_length : (a e : ℕ) (w : List ℕ) → a ≤ e → e ≤ length w → length (part a e w) ≡ e - a
part_length a e w l h = length-take-le (e - a) (drop a w) (omega (arith, length-drop a w))

-- a region before what is written stays
pub part_kept : (a e : ℕ) (w₀ w : List ℕ) → Kept a e w₀ w → (b f : ℕ) → f ≤ a → b ≤ f → f ≤ length w₀ → part b f w ≡ part b f w₀
part_kept a e w₀ w K b f h l m =
    let p : length (part b f w) ≡ f - b = part_length b f w l (omega (arith, K.size)) in
    ext_get_or 0 (part b f w) (part b f w₀) (p ∙ sym (part_length b f w₀ l m)) (λ i q.
    part_at b f i w (omega arith) ∙ K.before (b + i) (omega arith) ∙ sym (part_at b f i w₀ (omega arith)))

-- a region behind what is written stays
pub part_behind : (a e : ℕ) (w₀ w : List ℕ) → Kept a e w₀ w → (b f : ℕ) → e ≤ b → b ≤ f → f ≤ length w₀ → part b f w ≡ part b f w₀
part_behind a e w₀ w K b f h l m =
    let p : length (part b f w) ≡ f - b = part_length b f w l (omega (arith, K.size)) in
    ext_get_or 0 (part b f w) (part b f w₀) (p ∙ sym (part_length b f w₀ l m)) (λ i q.
    part_at b f i w (omega arith) ∙ K.behind (b + i) (omega arith) ∙ sym (part_at b f i w₀ (omega arith)))

-- ---- a listing's table before what is written
-- it holds what it held
pub held_still : (s : Text) (t : Tally) (b f a e : ℕ) (w₀ w : List ℕ) → Holds s t (part b f w₀) → Kept a e w₀ w → f ≤ a → b ≤ f → f ≤ length w₀ → Holds s t (part b f w)
held_still s t b f a e w₀ w H K h l m = subst (λ (u : List ℕ). Holds s t u) (sym (part_kept a e w₀ w K b f h l m)) H

-- and its view is what it was: wherever it stands, in the first 1,024 numbers, in the next
pub view_still : (s : Text) (t : Tally) (b f a e : ℕ) (w₀ w : List ℕ) → Kept a e w₀ w → f ≤ a → b ≤ f → f ≤ length w₀ → view_at s t (part b f w) ≡ view_at s t (part b f w₀)
view_still s t b f a e w₀ w K h l m = ap (view_at s t) (part_kept a e w₀ w K b f h l m)

pub olds_still : (old : Text) (t : Tally) (a e : ℕ) (w₀ w : List ℕ) → Kept a e w₀ w → 2048 ≤ a → 2048 ≤ length w₀ → view_at old t (part 0 1024 w) ≡ view_at old t (part 0 1024 w₀)
olds_still old t a e w₀ w K h m = view_still old t 0 1024 a e w₀ w K (omega arith) (omega arith) (omega arith)

pub news_still : (new : Text) (t : Tally) (a e : ℕ) (w₀ w : List ℕ) → Kept a e w₀ w → 2048 ≤ a → 2048 ≤ length w₀ → view_at new t (part 1024 2048 w) ≡ view_at new t (part 1024 2048 w₀)
news_still new t a e w₀ w K h m = view_still new t 1024 2048 a e w₀ w K (omega arith) (omega arith) (omega arith)
