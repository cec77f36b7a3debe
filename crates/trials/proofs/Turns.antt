-- The loops turn by turn: the first answer of a list from an index on, and the trial paths, methods and names by the lines of the listings.
use mathlib.Core.Path.{◌≡◌, refl, sym, ap, ◌∙◌}
use mathlib.Core.Bool.{Bool, true, false, cond}
use mathlib.Core.List.{List, [], ◌∷◌, ◌++◌, map}
use mathlib.Core.Option.{Option, none, some}
use Prim.Native.Nat.{ℕ, zero, suc, ◌+◌, ◌≤◌, ◌<◌}
use native.Mathlib.Numerals.{add-one}
use native.Mathlib.Omega.{arith}
use lib.ListN.{length, drop, get_or}
use Rattle.text.specs.Texts.{Text, member}
use Rattle.names.specs.Patterns.{kind_of}
use Rattle.trials.specs.Trials.{below, dotted, extension_in, extensions, paths_of_kind, paths_from, further}
use Rattle.trials.specs.Loops.{or_else, first_some}

-- ---- the first answer from index i on
module _ {A B : Type 0} (f : A → Option B) where
  from_suc : (xs : List A) (i : ℕ) (d : A) → i < length xs → first_some f (drop i xs) ≡ or_else (f (get_or xs i d)) (first_some f (drop (suc i) xs))
  unfolding first_some
  from_suc [] i d h = absurd (omega arith)
  from_suc (x ∷ xs) zero d h = go (f x)
    where
      go : (o : Option B) → elim o [ none ↦ first_some f xs | some b ↦ some b ] ≡ or_else o (first_some f xs)
      go none = refl
      go (some b) = refl
  from_suc (x ∷ xs) (suc i) d h = from_suc xs i d (omega arith)

  -- element i has an answer
  pub turn_found : (xs : List A) (i : ℕ) (d : A) (b : B) → i < length xs → f (get_or xs i d) ≡ some b → first_some f (drop i xs) ≡ some b
  turn_found xs i d b h e = from_suc xs i d h ∙ rw e

  -- it has none: the rest is gone through
  pub turn_on : (xs : List A) (i : ℕ) (d : A) → i < length xs → f (get_or xs i d) ≡ none → first_some f (drop i xs) ≡ first_some f (drop (i + 1) xs)
  turn_on xs i d h e = from_suc xs i d h ∙ rw (e, add-one i)

  -- no element is left
  pub turn_ends : (xs : List A) (i : ℕ) → length xs ≤ i → first_some f (drop i xs) ≡ none
  unfolding first_some
  turn_ends [] zero h = refl
  turn_ends [] (suc i) h = refl
  turn_ends (x ∷ xs) zero h = absurd (omega arith)
  turn_ends (x ∷ xs) (suc i) h = turn_ends xs i (omega arith)

  -- of two lists together
  pub some_append : (xs ys : List A) → first_some f (xs ++ ys) ≡ or_else (first_some f xs) (first_some f ys)
  unfolding first_some
  some_append [] ys = refl
  some_append (x ∷ xs) ys = go (f x) (some_append xs ys)
    where
      go : (o : Option B) → first_some f (xs ++ ys) ≡ or_else (first_some f xs) (first_some f ys)
          → elim o [ none ↦ first_some f (xs ++ ys) | some b ↦ some b ] ≡ or_else (elim o [ none ↦ first_some f xs | some b ↦ some b ]) (first_some f ys)
      go none ih = ih
      go (some b) ih = refl

  -- of none
  pub some_none : first_some f [] ≡ none
  unfolding first_some
  some_none = refl

  -- of one element
  pub some_one : (x : A) → first_some f (x ∷ []) ≡ f x
  unfolding first_some
  some_one x = go (f x)
    where
      go : (o : Option B) → elim o [ none ↦ none | some b ↦ some b ] ≡ o
      go none = refl
      go (some b) = refl

  -- of one element more in front
  pub some_cons : (x : A) (xs : List A) → first_some f (x ∷ xs) ≡ or_else (f x) (first_some f xs)
  some_cons x xs = from_suc (x ∷ xs) 0 x (omega arith)

-- of elements made of others
pub some_map : {A B C : Type 0} (f : B → Option C) (g : A → B) (xs : List A) → first_some f (map g xs) ≡ first_some (λ (x : A). f (g x)) xs
unfolding first_some
some_map f g [] = refl
some_map f g (x ∷ xs) = ap (λ (o : Option _). elim (f (g x)) [ none ↦ o | some b ↦ some b ]) (some_map f g xs)

-- either answer, or else a third
or_assoc : {A : Type 0} (x y z : Option A) → or_else (or_else x y) z ≡ or_else x (or_else y z)
or_assoc none y z = refl
or_assoc (some x) y z = refl

module _ {B : Type 0} (f : Text → Option B) where
  -- ---- the trial paths, one `pattern` line after the other, and last of all `/`filler
  pub paths_by_lines : (filler : Text) (es ts : List Text)
      → first_some f (paths_from filler es ts) ≡ or_else (first_some (λ (t : Text). first_some f (paths_of_kind filler es (kind_of t))) ts) (f (below [] filler))
  unfolding paths_from
  paths_by_lines filler es [] =
      some_one f (below [] filler)
      ∙ ap (λ (o : Option B). or_else o (f (below [] filler))) (sym (some_none (λ (t : Text). first_some f (paths_of_kind filler es (kind_of t)))))
  paths_by_lines filler es (t ∷ ts) =
      some_append f (paths_of_kind filler es (kind_of t)) (paths_from filler es ts)
      ∙ ap (or_else (first_some f (paths_of_kind filler es (kind_of t)))) (paths_by_lines filler es ts)
      ∙ rw (some_cons (λ (u : Text). first_some f (paths_of_kind filler es (kind_of u))) t ts, or_assoc)

  -- a prefix line: P`/`filler, then P`/`filler`.`E for each extension
  pub paths_below : (filler p : Text) (es : List Text) → first_some f (below p filler ∷ map (dotted p filler) es) ≡ or_else (f (below p filler)) (first_some (λ (e : Text). f (dotted p filler e)) es)
  paths_below filler p es = some_cons f (below p filler) (map (dotted p filler) es) ∙ ap (or_else (f (below p filler))) (some_map f (dotted p filler) es)

  -- the extensions, one `pattern` line after the other
  pub extensions_by_lines : (ts : List Text) → first_some f (extensions ts) ≡ first_some (λ (t : Text). first_some f (extension_in (kind_of t))) ts
  unfolding extensions first_some
  extensions_by_lines [] = refl
  extensions_by_lines (t ∷ ts) =
      some_append f (extension_in (kind_of t)) (extensions ts)
      ∙ ap (or_else (first_some f (extension_in (kind_of t)))) (extensions_by_lines ts)
      ∙ rw (some_cons (λ (u : Text). first_some f (extension_in (kind_of u))) t ts)

  -- ---- names of new, then those of old that new has not
  further_by_lines : (us vs : List Text) → first_some f (further us vs) ≡ first_some (λ (v : Text). cond (member v us) none (f v)) vs
  unfolding further first_some
  further_by_lines us [] = refl
  further_by_lines us (v ∷ vs) = go (member v us) (further_by_lines us vs)
    where
      go : (b : Bool) → first_some f (further us vs) ≡ first_some (λ (v : Text). cond (member v us) none (f v)) vs
          → first_some f (cond b (further us vs) (v ∷ further us vs)) ≡ elim (cond b none (f v)) [ none ↦ first_some (λ (v : Text). cond (member v us) none (f v)) vs | some x ↦ some x ]
      go true ih = ih
      go false ih = ap (λ (o : Option B). elim (f v) [ none ↦ o | some b ↦ some b ]) ih
