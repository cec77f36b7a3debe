-- A text is put into a buffer part by part: how much of it is left.
use mathlib.Core.Path.{◌≡◌, refl, sym, ap, ◌∙◌}
use mathlib.Core.List.{[], ◌++◌}
use Prim.Native.Nat.{ℕ, ◌+◌, ◌≤◌}
use native.Mathlib.Omega.{arith}
use lib.ListN.{length, length-append}
use lib.Seq.{sets}
use Rattle.text.specs.Texts.{Text}
use Rattle.writing.proofs.Puts.{sets_append}

-- with `rest` put from the place e of out on, it is as if `whole` were put from the place at of the first buffer on
pub record Left (first : Text) (at : ℕ) (whole out : Text) (e : ℕ) (rest : Text) : Type 0 where
  pub place : at + length whole ≡ e + length rest
  pub bytes : sets first at whole ≡ sets out e rest

pub left_all : (out : Text) (at : ℕ) (t : Text) → Left out at t out at t
left_all out at t = record { place = refl; bytes = refl }

module _ (first : Text) (at : ℕ) (whole out : Text) (e : ℕ) where
  -- a part is put
  pub left_behind : (t u rest : Text) → t ≡ u ++ rest → Left first at whole out e t → (e' : ℕ) (out' : Text) → e' ≡ e + length u → out' ≡ sets out e u → Left first at whole out' e' rest
  left_behind t u rest q L e' out' p b = record {
    place = L.place ∙ (let l : length t ≡ length u + length rest = ap length q ∙ length-append u rest in omega arith);
    bytes = L.bytes ∙ ap (sets out e) q ∙ sym (sets_append u rest out e) ∙ ap (λ (k : ℕ). sets (sets out e u) k rest) (sym p) ∙ ap (λ (o : Text). sets o e' rest) (sym b);
  }

  -- nothing is left
  pub done_place : (t : Text) → t ≡ [] → Left first at whole out e t → e ≡ at + length whole
  done_place t q L = let l : length t ≡ 0 = ap length q in let p = L.place in omega arith

  pub done_bytes : (t : Text) → t ≡ [] → Left first at whole out e t → out ≡ sets first at whole
  done_bytes t q L = sym (L.bytes ∙ ap (sets out e) q)

  -- the place stays below what all of it comes to
  pub left_low : (n : ℕ) (t : Text) → Left first at whole out e t → at + length whole ≤ n → e + length t ≤ n
  left_low n t L h = let p = L.place in omega arith
