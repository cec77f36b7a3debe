-- One record more: what it changes in the tables.
use mathlib.Core.Path.{◌≡◌, refl, sym, ap}
use mathlib.Core.Bool.{Bool, true, false, cond}
use mathlib.Core.List.{List, [], ◌∷◌, ◌++◌, append_assoc}
use Prim.Native.Nat.{suc, ◌<◌}
use native.Mathlib.Omega.{arith}
use lib.ListN.{length, length-append}
use lib.Dec.{ltb}
use borrow.Author.Tests.{ltb-true, ltb-false}
use Rattle.text.specs.Texts.{Text, known, on_last, index_of}
use Rattle.text.proofs.Indices.{run_snoc, index_bound, index_member, index_front, index_behind, Begins, begins_front}
use Rattle.listings.specs.Records.{Record}
use Rattle.entries.specs.Tables.{start_tables, indexed, tables_with, tables_of}

-- a change of the last element keeps the number
pub length_on_last {ℓ} : {A : Type ℓ} (f : A → A) (xs : List A) → length (on_last f xs) ≡ length xs
unfolding on_last
length_on_last f [] = refl
length_on_last f (x ∷ []) = refl
length_on_last f (x ∷ y ∷ ys) = ap suc (length_on_last f (y ∷ ys))

-- the two ways to put a text behind the others are one
pub indexed_known : (t : Text) (us : List Text) → indexed t us ≡ known us t
unfolding indexed known
indexed_known t us = ap (λ (b : Bool). cond b us (us ++ t ∷ [])) (index_member t us)

-- ---- one record more
-- the tables are those before, with what it adds
pub tables_snoc : (rs : List Record) (r : Record) → tables_of (rs ++ r ∷ []) ≡ tables_with (tables_of rs) r
unfolding tables_of
tables_snoc rs r = run_snoc tables_with start_tables rs r

-- ---- indices that are settled
-- a text put behind them, if it is none of them, has its index for good
module _ (t : Text) (us ws : List Text) where
  pub begins_indexed : Begins (indexed t us) ws → Begins us ws
  unfolding indexed
  begins_indexed = go (ltb (index_of t us) (length us))
    where
      go : (b : Bool) → Begins (cond b us (us ++ t ∷ [])) ws → Begins us ws
      go true b = b
      go false b = begins_front us (t ∷ []) ws b

  pub settled : Begins (indexed t us) ws → (index_of t us ≡ index_of t ws) × (index_of t ws < length ws)
  unfolding indexed
  settled = go (ltb (index_of t us) (length us)) refl
    where
      go : (b : Bool) → ltb (index_of t us) (length us) ≡ b → Begins (cond b us (us ++ t ∷ [])) ws → (index_of t us ≡ index_of t ws) × (index_of t ws < length ws)
      go true e b =
          let l = ltb-true (index_of t us) (length us) e in
          let f = index_front t us b.0 l in
          rw b.1 (sym f, omega (arith, f, length-append us b.0))
      go false e b =
          let l = ltb-false (index_of t us) (length us) e in
          let f = index_behind t us b.0 l in
          rw (b.1, append_assoc us (t ∷ []) b.0)
          (omega (arith, f, index_bound t us), omega (arith, f, length-append us (t ∷ b.0)))
