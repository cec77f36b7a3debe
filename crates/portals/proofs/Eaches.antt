-- What holds of each of a list.
use mathlib.Core.List.{List, [], ◌∷◌, ◌++◌, map, flat_map}

abbrev pub Each : {A : Type 0} → (A → Type 0) → List A → Type 0
Each P [] = Unit {0}
Each P (x ∷ xs) = P x × Each P xs

module _ {A : Type 0} (P : A → Type 0) where
  pub each_append : (xs ys : List A) → Each P xs → Each P ys → Each P (xs ++ ys)
  each_append [] ys a b = b
  each_append (x ∷ xs) ys a b = (a.0, each_append xs ys a.1 b)

  -- of two lists together, the first, the second, and the first element of the second
  pub each_first : (xs ys : List A) → Each P (xs ++ ys) → Each P xs
  each_first [] ys a = tt
  each_first (x ∷ xs) ys a = (a.0, each_first xs ys a.1)

  pub each_second : (xs ys : List A) → Each P (xs ++ ys) → Each P ys
  each_second [] ys a = a
  each_second (x ∷ xs) ys a = each_second xs ys a.1

  pub each_map : {B : Type 0} (f : B → A) → ((b : B) → P (f b)) → (bs : List B) → Each P (map f bs)
  each_map f h [] = tt
  each_map f h (b ∷ bs) = (h b, each_map f h bs)

  pub each_flat : {B : Type 0} (f : B → List A) → ((b : B) → Each P (f b)) → (bs : List B) → Each P (flat_map f bs)
  unfolding flat_map
  each_flat f h [] = tt
  each_flat f h (b ∷ bs) = each_append (f b) (flat_map f bs) (h b) (each_flat f h bs)

-- of each, what follows from it
pub each_more : {A : Type 0} (P Q : A → Type 0) → ((x : A) → P x → Q x) → (xs : List A) → Each P xs → Each Q xs
each_more P Q f [] a = tt
each_more P Q f (x ∷ xs) a = (f x a.0, each_more P Q f xs a.1)
