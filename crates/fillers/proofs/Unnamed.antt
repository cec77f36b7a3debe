-- The filler method's number: a method that neither listing names, and the first number of such a method.
use mathlib.Core.Path.{◌≡◌, sym, ◌∙◌}
use mathlib.Core.Bool.{Bool, true, false, not}
use mathlib.Core.List.{List, [], ◌∷◌, ◌++◌}
use Prim.Native.Nat.{ℕ, ◌+◌, ◌≤◌, ◌<◌}
use native.Mathlib.Omega.{arith}
use native.Mathlib.Decide.{dec_lt}
use lib.ListN.{length, length-append}
use lib.Dec.{ltb, leb}
use borrow.Author.Tests.{lt-ltb, le-ltb, le-leb, lt-leb}
use Rattle.text.specs.Texts.{Text, member, index_of}
use Rattle.reading.specs.Views.{View, ProperView}
use Rattle.text.proofs.Truths.{never}
use Rattle.text.proofs.Indices.{index_member}
use Rattle.names.proofs.Plainly.{member_append}
use Rattle.trials.specs.Fillers.{numbered, first_number, is_unnamed, First}
use Rattle.trials.proofs.Pigeons.{first_one}
use Rattle.trials.proofs.FillersExist.{method_is_first}

-- ---- one number: name is `Q` and n, i its index among new's methods, k their number
module _ (old new : List Text) (n i k : ℕ) (name : Text) (written : name ≡ numbered (81 ∷ []) n) (index : i ≡ index_of name new) (count : k ≡ length new) where
  -- new names it
  pub named_first : i < k → false ≡ is_unnamed (new ++ old) n
  unfolding is_unnamed
  named_first h =
      let e : member name new ≡ true = sym (index_member name new) ∙ lt-ltb _ _ (rw (index, count) at h) in
      rw (← written, member_append name new old, e)

  -- or else it is for old to name it
  pub named_then : k ≤ i → (j l : ℕ) → j ≡ index_of name old → l ≡ length old → leb l j ≡ is_unnamed (new ++ old) n
  unfolding is_unnamed
  named_then h j l p q =
      let e : member name new ≡ false = sym (index_member name new) ∙ le-ltb _ _ (rw (index, count) at h) in
      rw (← written, member_append name new old, e, ← index_member name old, p, q) (other (index_of name old) (length old))
    where
      other : (a b : ℕ) → leb b a ≡ not (ltb a b)
      other a b = go (dec_lt a b)
        where
          go : Dec (a < b) → leb b a ≡ not (ltb a b)
          go (yes h) = rw (lt-ltb a b h) (lt-leb b a h)
          go (no h) = let g : b ≤ a = omega arith in rw (le-ltb a b g) (le-leb b a g)

-- ---- the first of them
module _ (old new : View) (O : ProperView old) (N : ProperView new) where
  -- the methods of both listings: 62 at most
  few : length (new.methods ++ old.methods) ≤ 62
  few =
      let a = N.few_methods in
      let b = O.few_methods in
      rw (length-append new.methods old.methods) (omega arith)

  module _ (n : ℕ) (before : (i : ℕ) → i < n → is_unnamed (new.methods ++ old.methods) i ≡ false) where
    -- the number that is found is the filler method's
    pub method_found : (b : Bool) → b ≡ is_unnamed (new.methods ++ old.methods) n → b ≡ true
        → n ≡ first_number (is_unnamed (new.methods ++ old.methods))
    method_found b e f = first_one _ n _ (method_is_first _ (omega (arith, few))).0 (sym e ∙ f) before

    -- and where as many are passed as there are methods, the next is
    pub method_last : n ≡ length new.methods + length old.methods → n ≡ first_number (is_unnamed (new.methods ++ old.methods))
    method_last h =
        let F = method_is_first (new.methods ++ old.methods) (omega (arith, few)) in
        go F (dec_lt (first_number (is_unnamed (new.methods ++ old.methods))) n)
      where
        go : First (is_unnamed (new.methods ++ old.methods)) 0 (first_number (is_unnamed (new.methods ++ old.methods))) × (first_number (is_unnamed (new.methods ++ old.methods)) ≤ length (new.methods ++ old.methods))
            → Dec (first_number (is_unnamed (new.methods ++ old.methods)) < n) → n ≡ first_number (is_unnamed (new.methods ++ old.methods))
        go F (yes l) = absurd (never _ F.0.passes (before _ l))
        go F (no l) = omega (arith, F.1, length-append new.methods old.methods)

  pub method_small : (n : ℕ) → n ≤ length new.methods + length old.methods → n < 100
  method_small n h = omega (arith, O.few_methods, N.few_methods)
