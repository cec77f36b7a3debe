-- Lists of lists numbered through: what stands at the number of the list that an element stands in.
use mathlib.Core.Path.{◌≡◌, refl, sym, ap, ap₂, ◌∙◌}
use mathlib.Core.List.{List, [], ◌∷◌, ◌++◌, map, flat_map, append_assoc, append-nil, map-append, map-map}
use Prim.Native.Nat.{ℕ, zero, suc, ◌+◌, ◌-◌, ◌≤◌, ◌<◌}
use native.Mathlib.Nat.{add-zero}
use native.Mathlib.Omega.{arith}
use native.Mathlib.Decide.{dec_lt}
use lib.ListN.{length, get_or, length-append, length-map, get_or-append}
use lib.Seq.{get_or-append_seam, get_or-append-add}
use Rattle.text.specs.Texts.{Text, on_last}
use Rattle.entries.proofs.Regions.{on_last_snoc}
use Rattle.text.proofs.Indices.{length_snoc}

-- ---- the last element changed
module _ {A B : Type 0} (h : A → B) (xs : List A) (x y : A) where
  -- a change of the last that the image shows
  pub map_last : (g : B → B) → g (h x) ≡ h y → on_last g (map h (xs ++ x ∷ [])) ≡ map h (xs ++ y ∷ [])
  map_last g e = rw (map-append h xs (x ∷ []), map-append h xs (y ∷ []), on_last_snoc g (map h xs) (h x), e)

  -- and one that it does not show
  pub map_kept : h x ≡ h y → map h (xs ++ x ∷ []) ≡ map h (xs ++ y ∷ [])
  map_kept e = rw (map-append h xs (x ∷ []), map-append h xs (y ∷ []), e)

-- ---- lists joined
module _ {A B : Type 0} (f : A → List B) where
  pub flat_append : (xs ys : List A) → flat_map f (xs ++ ys) ≡ flat_map f xs ++ flat_map f ys
  unfolding flat_map
  flat_append [] ys = refl
  flat_append (x ∷ xs) ys = ap (λ (l : List B). f x ++ l) (flat_append xs ys) ∙ sym (append_assoc (f x) (flat_map f xs) (flat_map f ys))

  pub flat_snoc : (xs : List A) (x : A) → flat_map f (xs ++ x ∷ []) ≡ flat_map f xs ++ f x
  unfolding flat_map
  flat_snoc xs x = flat_append xs (x ∷ []) ∙ ap (λ (l : List B). flat_map f xs ++ l) (append-nil (f x))

  -- a change of the last that does not show
  pub flat_kept : (xs : List A) (x y : A) → f x ≡ f y → flat_map f (xs ++ x ∷ []) ≡ flat_map f (xs ++ y ∷ [])
  flat_kept xs x y e = flat_snoc xs x ∙ ap (λ (l : List B). flat_map f xs ++ l) e ∙ sym (flat_snoc xs y)

  -- one element more in the last
  pub flat_more : (xs : List A) (x y : A) (b : B) → f y ≡ f x ++ b ∷ [] → flat_map f (xs ++ y ∷ []) ≡ flat_map f (xs ++ x ∷ []) ++ b ∷ []
  flat_more xs x y b e = rw (flat_snoc xs y, flat_snoc xs x, e, append_assoc)

  -- an image of all
  pub flat_map_lem : {C : Type 0} (h : B → C) (xs : List A) → map h (flat_map f xs) ≡ flat_map (λ (x : A). map h (f x)) xs
  unfolding flat_map
  flat_map_lem h [] = refl
  flat_map_lem h (x ∷ xs) = map-append h (f x) (flat_map f xs) ∙ ap (λ (l : List _). map h (f x) ++ l) (flat_map_lem h xs)

-- lists of lists of lists
pub flat_flat : {A B C : Type 0} (f : A → List B) (g : B → List C) (xs : List A) →
    flat_map g (flat_map f xs) ≡ flat_map (λ (x : A). flat_map g (f x)) xs
unfolding flat_map
flat_flat f g [] = refl
flat_flat f g (x ∷ xs) = flat_append g (f x) (flat_map f xs) ∙ ap (λ (l : List _). flat_map g (f x) ++ l) (flat_flat f g xs)

-- the same lists joined
pub flat_same : {A B : Type 0} (f g : A → List B) (xs : List A) → ((x : A) → f x ≡ g x) → flat_map f xs ≡ flat_map g xs
unfolding flat_map
flat_same f g [] h = refl
flat_same f g (x ∷ xs) h = ap₂ ◌++◌ (h x) (flat_same f g xs h)

-- ---- numbers
-- for each text the number of the list that it stands in, from n on
unfoldable pub numbers : ℕ → List (List Text) → List ℕ
numbers n [] = []
numbers n (ts ∷ tss) = map (λ (t : Text). n) ts ++ numbers (suc n) tss

-- a list more
pub numbers_snoc : (n : ℕ) (tss : List (List Text)) (ts : List Text) → numbers n (tss ++ ts ∷ []) ≡ numbers n tss ++ map (λ (t : Text). n + length tss) ts
unfolding numbers
numbers_snoc n [] ts = append-nil (map (λ (t : Text). n) ts) ∙ ap (λ (m : ℕ). map (λ (t : Text). m) ts) (sym (add-zero n))
numbers_snoc n (us ∷ tss) ts =
    let e : suc n + length tss ≡ n + suc (length tss) = omega arith in
    ap (λ (l : List ℕ). map (λ (t : Text). n) us ++ l) (numbers_snoc (suc n) tss ts ∙ ap (λ (m : ℕ). numbers (suc n) tss ++ map (λ (t : Text). m) ts) e)
    ∙ sym (append_assoc (map (λ (t : Text). n) us) (numbers (suc n) tss) (map (λ (t : Text). n + suc (length tss)) ts))

-- an empty one
pub numbers_none : (n : ℕ) (tss : List (List Text)) → numbers n (tss ++ [] ∷ []) ≡ numbers n tss
numbers_none n tss = numbers_snoc n tss [] ∙ append-nil (numbers n tss)

-- a text more in the last
pub numbers_more : (n : ℕ) (tss : List (List Text)) (ts : List Text) (t : Text) →
    numbers n (tss ++ (ts ++ t ∷ []) ∷ []) ≡ numbers n (tss ++ ts ∷ []) ++ (n + length tss) ∷ []
numbers_more n tss ts t =
    numbers_snoc n tss (ts ++ t ∷ [])
    ∙ ap (λ (l : List ℕ). numbers n tss ++ l) (map-append (λ (t : Text). n + length tss) ts (t ∷ []))
    ∙ sym (append_assoc (numbers n tss) (map (λ (t : Text). n + length tss) ts) ((n + length tss) ∷ []))
    ∙ ap (λ (l : List ℕ). l ++ (n + length tss) ∷ []) (sym (numbers_snoc n tss ts))

-- the same for an image's lists
pub numbered_more : {A : Type 0} (p : A → List Text) (xs : List A) (x y : A) (t : Text) (n : ℕ) → p y ≡ p x ++ t ∷ [] → n ≡ length (xs ++ x ∷ []) →
    numbers 1 (map p (xs ++ x ∷ [])) ++ n ∷ [] ≡ numbers 1 (map p (xs ++ y ∷ []))
numbered_more p xs x y t n e h =
    let k : n ≡ 1 + length (map p xs) = omega (arith, length_snoc xs x, length-map xs p) in
    rw (map-append p xs (x ∷ []), map-append p xs (y ∷ []), e, k) (sym (numbers_more 1 (map p xs) (p x) t))

-- as many as the texts
pub numbers_length : {A : Type 0} (p : A → List Text) (n : ℕ) (xs : List A) → length (numbers n (map p xs)) ≡ length (flat_map p xs)
unfolding numbers flat_map
numbers_length p n [] = refl
numbers_length p n (x ∷ xs) =
    rw (length-append (map (λ (t : Text). n) (p x)), length-append (p x), length-map (p x), numbers_length p (suc n) xs)

-- a constant list
constant : (ts : List Text) (n k : ℕ) → k < length ts → get_or (map (λ (t : Text). n) ts) k 0 ≡ n
constant [] n k h = absurd (omega arith)
constant (t ∷ ts) n zero h = refl
constant (t ∷ ts) n (suc k) h = constant ts n k (omega arith)

-- each is one of the numbers from n on
pub numbers_bound : (n : ℕ) (tss : List (List Text)) (k : ℕ) → k < length (numbers n tss) →
    (n ≤ get_or (numbers n tss) k 0) × (get_or (numbers n tss) k 0 < n + length tss)
unfolding numbers
numbers_bound n [] k h = absurd (omega arith)
numbers_bound n (ts ∷ tss) k h = go (dec_lt k (length ts)) (numbers_bound (suc n) tss (k - length ts))
  where
    ns : List ℕ
    ns = map (λ (t : Text). n) ts

    more : List ℕ
    more = numbers (suc n) tss

    size : length ns ≡ length ts
    size = length-map ts (λ (t : Text). n)

    go : Dec (k < length ts) → (k - length ts < length more → (suc n ≤ get_or more (k - length ts) 0) × (get_or more (k - length ts) 0 < suc n + length tss)) →
        (n ≤ get_or (ns ++ more) k 0) × (get_or (ns ++ more) k 0 < n + suc (length tss))
    go (yes l) again =
        let e : get_or (ns ++ more) k 0 ≡ n = get_or-append ns more 0 k (omega (arith, size)) ∙ constant ts n k l in
        rw e (omega arith, omega arith)
    go (no l) again =
        let e : k ≡ length ns + (k - length ts) = omega (arith, size) in
        let f : get_or (ns ++ more) k 0 ≡ get_or more (k - length ts) 0
        = ap (λ (j : ℕ). get_or (ns ++ more) j 0) e ∙ get_or-append-add ns more (k - length ts) 0 in
        let b = again (omega (arith, size, length-append ns more)) in
        rw f (omega (arith, b.0), omega (arith, b.1))

-- what stands at the numbers, in a list with one for each list of texts
module _ {A B : Type 0} (p : A → List Text) (g : A → B) (d : B) where
  at_numbers : (front : List B) (xs : List A) →
      map (λ (n : ℕ). get_or (front ++ map g xs) n d) (numbers (length front) (map p xs)) ≡ flat_map (λ (x : A). map (λ (t : Text). g x) (p x)) xs
  unfolding numbers flat_map
  at_numbers front [] = refl
  at_numbers front (x ∷ xs) =
      map-append look (map (λ (t : Text). length front) (p x)) (numbers (suc (length front)) (map p xs))
      ∙ ap₂ ◌++◌ here (rw (append_assoc front (g x ∷ []) (map g xs), length_snoc front (g x)) at (at_numbers (front ++ g x ∷ []) xs))
    where
      look : ℕ → B
      look n = get_or (front ++ g x ∷ map g xs) n d

      here : map look (map (λ (t : Text). length front) (p x)) ≡ map (λ (t : Text). g x) (p x)
      here = map-map look (λ (t : Text). length front) (p x) ∙ ap (λ (b : B). map (λ (t : Text). b) (p x)) (get_or-append_seam front (g x) (map g xs) d)

  pub looked_up : (xs : List A) → map (λ (n : ℕ). get_or (d ∷ map g xs) n d) (numbers 1 (map p xs)) ≡ flat_map (λ (x : A). map (λ (t : Text). g x) (p x)) xs
  looked_up xs = at_numbers (d ∷ []) xs
