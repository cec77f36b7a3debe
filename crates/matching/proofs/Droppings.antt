-- The code that drops a path's parameters, byte by byte.
use mathlib.Core.Path.{◌≡◌, refl, sym, ap, ◌∙◌}
use mathlib.Core.Bool.{Bool, true, false, not, cond}
use mathlib.Core.List.{List, [], ◌∷◌, ◌++◌, append-nil, append_assoc}
use Prim.Native.Nat.{ℕ, suc, ◌+◌, ◌≤◌, ◌<◌}
use native.Mathlib.Numerals.{add-one}
use native.Mathlib.Omega.{arith}
use lib.ListN.{length, take, drop, get_or, set, length-set, drop_of_length-le}
use lib.Seq.{drop-cons, take-suc-set, take-set-le}
use Rattle.text.specs.Texts.{Text}
use Rattle.decisions.specs.Paths.{is_dropped, left_of, dropped}
use Rattle.decisions.proofs.Droppings.{left_step}

-- after i bytes of the path: n bytes of the buffer are what is left of them, the next byte standing behind a `;` or not
pub record Left (path out₀ out : List ℕ) (behind : Bool) (n i : ℕ) : Type 0 where
  pub bytes : take n out ++ left_of behind (drop i path) ≡ dropped path
  pub offset : n ≤ i
  pub within : i ≤ length path
  pub same : length out ≡ length out₀

-- before the first byte
pub left_start : (path out : List ℕ) → Left path out out false 0 0
unfolding dropped
left_start path out = record { bytes = refl; offset = omega arith; within = omega arith; same = refl }

module _ (path out₀ out : List ℕ) (b : Bool) (n i : ℕ) (L : Left path out₀ out b n i) where
  -- a byte more: put there, and counted where it is kept
  module _ (h : i < length path) (room : (length path ≤ 1024) × (1024 ≤ length out₀)) where
    pub offset_within : n < length out
    offset_within = omega (arith, L.offset, L.same, room.0, room.1)

    turn : (d : Bool) → is_dropped b (get_or path i 0) ≡ d
        → take (cond d n (n + 1)) (set out n (get_or path i 0)) ++ left_of d (drop (i + 1) path) ≡ take n out ++ left_of b (drop i path)
    turn d e = go d (ap (λ (t : Text). left_of b t) (drop-cons path i 0 h) ∙ left_step b (get_or path i 0) (drop (suc i) path) d e)
      where
        go : (d : Bool) → left_of b (drop i path) ≡ cond d [] (get_or path i 0 ∷ []) ++ left_of d (drop (suc i) path)
            → take (cond d n (n + 1)) (set out n (get_or path i 0)) ++ left_of d (drop (i + 1) path) ≡ take n out ++ left_of b (drop i path)
        go true q = rw (q, add-one i, take-set-le n out n (get_or path i 0) (omega arith))
        go false q = rw (q, add-one i, add-one n, take-suc-set out n (get_or path i 0) offset_within) (append_assoc (take n out) (get_or path i 0 ∷ []) (left_of false (drop (suc i) path)))

    pub left_more : (d : Bool) (k : ℕ) → d ≡ is_dropped b (get_or path i 0) → k ≡ cond (not d) 1 0 → Left path out₀ (set out n (get_or path i 0)) d (n + k) (i + 1)
    left_more d k e g = let m : ℕ = n + k in let f : m ≡ cond d n (n + 1) = counted d k g in record {
      bytes = ap (λ (k : ℕ). take k (set out n (get_or path i 0)) ++ left_of d (drop (i + 1) path)) f ∙ turn d (sym e) ∙ L.bytes;
      offset = near d f;
      within = omega (arith, h);
      same = length-set out n (get_or path i 0) ∙ L.same;
    }
      where
        counted : (d : Bool) (k : ℕ) → k ≡ cond (not d) 1 0 → n + k ≡ cond d n (n + 1)
        counted true k q = omega arith
        counted false k q = omega arith

        near : (d : Bool) → n + k ≡ cond d n (n + 1) → n + k ≤ i + 1
        near true q = omega (arith, L.offset)
        near false q = omega (arith, L.offset)

  -- the path runs out
  module _ (h : length path ≤ i) where
    pub left_all : take n out ≡ dropped path
    unfolding left_of
    left_all = sym (append-nil (take n out)) ∙ ap (λ (t : Text). take n out ++ left_of b t) (sym (drop_of_length-le path h)) ∙ L.bytes
