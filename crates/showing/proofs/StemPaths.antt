-- The path of a stem, test by test as the code meets it.
use mathlib.Core.Path.{◌≡◌, refl, sym, ap, ◌∙◌}
use mathlib.Core.Bool.{Bool, true, false, cond}
use mathlib.Core.List.{[], ◌∷◌, ◌++◌}
use Prim.Native.Nat.{ℕ, zero, suc, ◌+◌, ◌-◌, ◌≤◌}
use native.Mathlib.Omega.{arith}
use lib.ListN.{length, take, drop, length-append, length-drop}
use lib.Seq.{sets}
use lib.Dec.{eqb}
use Rattle.std.specs.Cmp.Lexicographic.{pointwise}
use Rattle.text.specs.Texts.{Text, bytes, slash, dot, same, starts_with, ends_with, part}
use Rattle.names.specs.Names.{is_pattern}
use Rattle.names.specs.Patterns.{exact, prefix, extension, unpermitted, is_extension, kind_of, is_permitted}
use Rattle.text.proofs.Truths.{never}
use Rattle.text.proofs.Spans.{same_equal, from_on, stripped_end}
use Rattle.names.proofs.Namings.{filled_differs}
use Rattle.names.proofs.Plainly.{starts_plain}
use Rattle.writing.specs.Decimals.{digits}
use Rattle.writing.proofs.Decimals.{digits_most}
use Rattle.writing.proofs.Puts.{sets_then}
use Rattle.trials.specs.Fillers.{numbered}
use Rattle.trials.specs.Trials.{below, dotted}
use Rattle.trials.proofs.Bounds.{pattern_short, pattern_permitted}
use Rattle.grants.specs.Scratch.{stem_path}

-- ---- p`/`filler
abbrev filler : ℕ → Text
filler n = numbered (bytes "q") n

module _ (p out d₁ d₂ d₃ : Text) (at n a b r : ℕ) (at₁ : a ≡ at + length p) (at₂ : b ≡ a + 1) where
  pub below_offset : r ≡ b + length (113 ∷ digits 5 n) → r ≡ at + length (below p (filler n))
  below_offset at₃ = omega (arith, length-append p (slash ∷ filler n))

  pub below_bytes : d₁ ≡ sets out at p → d₂ ≡ sets d₁ a (bytes "/") → d₃ ≡ sets d₂ b (113 ∷ digits 5 n) → d₃ ≡ sets out at (below p (filler n))
  below_bytes put₁ put₂ put₃ =
      sets_then out d₁ d₃ p (slash ∷ filler n) at a at₁ put₁
      (sets_then d₁ d₂ d₃ (bytes "/") (filler n) a b at₂ put₂ put₃)

-- `/`filler is short
pub root_short : (at r n : ℕ) → at ≤ 1000 → r ≡ at + length (below [] (filler n)) → r ≤ 1000000
root_short at r n h e = omega (arith, digits_most 5 n)

-- so are its parts
pub tail_short : (t : Text) → is_pattern t ≡ true → length (part 1 (length t) t) ≤ 1000000
tail_short t h = let l = ap length (from_on 1 t) ∙ length-drop 1 t in omega (arith, pattern_short t h)

pub head_short : (t p : Text) (e : ℕ) → is_pattern t ≡ true → p ≡ take e t → length p ≤ 255
head_short t p e h q = let l = length_take_most e t in omega (arith, pattern_short t h, ap length q)
  where
    length_take_most : (e : ℕ) (t : Text) → length (take e t) ≤ length t
    length_take_most zero t = omega arith
    length_take_most (suc e) [] = omega arith
    length_take_most (suc e) (x ∷ xs) = let q = length_take_most e xs in omega arith

pub text_short : (t : Text) → is_pattern t ≡ true → length t ≤ 1000000
text_short t h = omega (arith, pattern_short t h)

-- ---- the path by the tests on the text
module _ (f t : Text) where
  path_empty : length t ≡ 0 → stem_path f (kind_of t) ≡ slash ∷ []
  unfolding kind_of
  path_empty h = go t h
    where
      go : (t : Text) → length t ≡ 0 → stem_path f (kind_of t) ≡ slash ∷ []
      go [] h = refl
      go (x ∷ xs) h = absurd (omega arith)

  path_default : same t (bytes "/") ≡ true → stem_path f (kind_of t) ≡ below [] f
  unfolding kind_of
  path_default h = let e : t ≡ bytes "/" = same_equal t (bytes "/") h in rw e

  path_starred : (r : Text) → t ≡ bytes "*." ++ r → is_permitted (kind_of t) ≡ true → stem_path f (kind_of t) ≡ dotted [] f r
  unfolding kind_of
  path_starred r e p = rw e (go (is_extension r) (rw e at p))
    where
      go : (b : Bool) → is_permitted (cond b (extension r) unpermitted) ≡ true → stem_path f (cond b (extension r) unpermitted) ≡ dotted [] f r
      go true h = refl
      go false h = absurd (never false h refl)

  module _ (a : same t [] ≡ false) (b : same t (bytes "/") ≡ false) (e : starts_with (bytes "*.") t ≡ false) (p : is_permitted (kind_of t) ≡ true) where
    path_below : ends_with (bytes "/*") t ≡ true → stem_path f (kind_of t) ≡ below (take (length t - 2) t) f
    unfolding kind_of
    path_below d = rw (a, b, d, e) (go (starts_with (bytes "/") t) (rw (a, b, d, e) at p))
      where
        go : (c : Bool) → is_permitted (cond c (prefix (take (length t - 2) t)) unpermitted) ≡ true
            → stem_path f (cond c (prefix (take (length t - 2) t)) unpermitted) ≡ below (take (length t - 2) t) f
        go true h = refl
        go false h = absurd (never false h refl)

    path_exact : ends_with (bytes "/*") t ≡ false → stem_path f (kind_of t) ≡ t
    unfolding kind_of
    path_exact d = rw (a, b, d, e) (go (starts_with (bytes "/") t) (rw (a, b, d, e) at p))
      where
        go : (c : Bool) → is_permitted (cond c (exact t) unpermitted) ≡ true → stem_path f (cond c (exact t) unpermitted) ≡ t
        go true h = refl
        go false h = absurd (never false h refl)

-- ---- what is put
module _ (t out d : Text) (at n r : ℕ) where
  -- the empty text
  pub empty_offset : length t ≡ 0 → r ≡ at + 1 → r ≡ at + length (stem_path (filler n) (kind_of t))
  empty_offset z e = rw (path_empty (filler n) t z) e

  pub empty_bytes : length t ≡ 0 → d ≡ sets out at (bytes "/") → d ≡ sets out at (stem_path (filler n) (kind_of t))
  empty_bytes z e = rw (path_empty (filler n) t z) e

  -- `/`
  module _ (y : Bool) (is : y ≡ same t (bytes "/")) where
    module _ (yes : y ≡ true) where
      pub default_offset : r ≡ at + length (below [] (filler n)) → r ≡ at + length (stem_path (filler n) (kind_of t))
      default_offset e = rw (path_default (filler n) t (sym is ∙ yes)) e

      pub default_bytes : d ≡ sets out at (below [] (filler n)) → d ≡ sets out at (stem_path (filler n) (kind_of t))
      default_bytes e = rw (path_default (filler n) t (sym is ∙ yes)) e

    module _ (good : is_pattern t ≡ true) (z : Bool) (starred : z ≡ starts_with (bytes "*.") t) where
      -- an extension
      module _ (yes : z ≡ true) (d₁ : Text) (a : ℕ) (at₁ : a ≡ at + length (below [] (filler n))) where
        split : (e : Text) × (t ≡ bytes "*." ++ e)
        split = (starts_plain (bytes "*.") t).0 (sym starred ∙ yes)

        behind : part 1 (length t) t ≡ dot ∷ split.0
        unfolding split
        behind = from_on 1 t ∙ ap (drop 1) split.1

        whole : below [] (filler n) ++ dot ∷ split.0 ≡ stem_path (filler n) (kind_of t)
        whole = sym (path_starred (filler n) t split.0 split.1 (pattern_permitted t good))

        pub starred_offset : r ≡ a + length (part 1 (length t) t) → r ≡ at + length (stem_path (filler n) (kind_of t))
        starred_offset e = rw (← whole, length-append (below [] (filler n)) (dot ∷ split.0)) (let l = ap length behind in omega arith)

        pub starred_bytes : d₁ ≡ sets out at (below [] (filler n)) → d ≡ sets d₁ a (part 1 (length t) t) → d ≡ sets out at (stem_path (filler n) (kind_of t))
        starred_bytes put₁ put₂ = rw (← whole) (sets_then out d₁ d (below [] (filler n)) (dot ∷ split.0) at a at₁ put₁ (rw behind at put₂))

      module _ (no : y ≡ false) (unstarred : z ≡ false) (some : length t ≡ 0 → ⊥) (x : Bool) (ended : pointwise eqb (drop (length t - 2) t) (bytes "/*") ≡ x) where
        -- a prefix
        module _ (yes : x ≡ true) (p : Text) (p-is : p ≡ take (length t - 2) t) where
          pre : stem_path (filler n) (kind_of t) ≡ below p (filler n)
          pre = path_below (filler n) t (sym (filled_differs t some)) (sym is ∙ no) (sym starred ∙ unstarred) (pattern_permitted t good) (sym (stripped_end (bytes "/*") t) ∙ ended ∙ yes) ∙ ap (λ (u : Text). below u (filler n)) (sym p-is)

          pub prefix_offset : r ≡ at + length (below p (filler n)) → r ≡ at + length (stem_path (filler n) (kind_of t))
          prefix_offset e = rw pre e

          pub prefix_bytes : d ≡ sets out at (below p (filler n)) → d ≡ sets out at (stem_path (filler n) (kind_of t))
          prefix_bytes e = rw pre e

        -- the text itself
        module _ (unended : x ≡ false) where
          itself : stem_path (filler n) (kind_of t) ≡ t
          itself = path_exact (filler n) t (sym (filled_differs t some)) (sym is ∙ no) (sym starred ∙ unstarred) (pattern_permitted t good) (sym (stripped_end (bytes "/*") t) ∙ ended ∙ unended)

          pub exact_offset : r ≡ at + length t → r ≡ at + length (stem_path (filler n) (kind_of t))
          exact_offset e = rw itself e

          pub exact_bytes : d ≡ sets out at t → d ≡ sets out at (stem_path (filler n) (kind_of t))
          exact_bytes e = rw itself e
