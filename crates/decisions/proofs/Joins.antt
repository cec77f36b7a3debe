-- The laws of combining, and that the join of several is 01's "if any .. else if any".
use mathlib.Core.Path.{◌≡◌, refl, sym, ap, ap₂, fun_ext, ◌∙◌}
use mathlib.Core.Bool.{Bool, true, false, cond, ◌||◌, or_comm, or_assoc, or_self, or-false}
use mathlib.Core.List.Memᴰ
use mathlib.Core.List.{List, [], ◌∷◌, Memᴰ}
use Rattle.text.specs.Texts.{Text}
use Rattle.text.proofs.Truths.{never}
use Rattle.decisions.specs.Combining.{Access, closed, free, roles, join, neutral, together, any_of, is_closed, is_free, has_role, ranked}
use Rattle.decisions.specs.Decisions.{combine}
use Rattle.decisions.specs.Demands.{JoinLaws, JoinIsRanked}
use Rattle.decisions.proofs.Anys.{Within, any_plain, any_same}

-- ---- the laws
order : (a b : Access) → join a b ≡ join b a
order closed closed = refl
order closed free = refl
order closed (roles g) = refl
order free closed = refl
order free free = refl
order free (roles g) = refl
order (roles f) closed = refl
order (roles f) free = refl
order (roles f) (roles g) = ap roles (fun_ext (λ n. or_comm (f n) (g n)))

grouping : (a b c : Access) → join (join a b) c ≡ join a (join b c)
grouping closed b c = refl
grouping free closed c = refl
grouping free free closed = refl
grouping free free free = refl
grouping free free (roles h) = refl
grouping free (roles g) closed = refl
grouping free (roles g) free = refl
grouping free (roles g) (roles h) = refl
grouping (roles f) closed c = refl
grouping (roles f) free closed = refl
grouping (roles f) free free = refl
grouping (roles f) free (roles h) = refl
grouping (roles f) (roles g) closed = refl
grouping (roles f) (roles g) free = refl
grouping (roles f) (roles g) (roles h) = ap roles (fun_ext (λ n. or_assoc (f n) (g n) (h n)))

itself : (a : Access) → join a a ≡ a
itself closed = refl
itself free = refl
itself (roles f) = ap roles (fun_ext (λ n. or_self (f n)))

nothing : (a : Access) → join a neutral ≡ a
nothing closed = refl
nothing free = refl
nothing (roles f) = ap roles (fun_ext (λ n. or-false (f n)))

pub join_laws : JoinLaws
join_laws = record { order = order; grouping = grouping; itself = itself; swallows = λ b. refl; nothing = nothing }

-- ---- "if any .. else if any"
-- one more
ranks : (a : Access) (c o : Bool) (f : Text → Bool)
    → join a (cond c closed (cond o free (roles f))) ≡ cond (is_closed a || c) closed (cond (is_free a || o) free (roles (λ n. has_role a n || f n)))
ranks closed c o f = refl
ranks free true o f = refl
ranks free false true f = refl
ranks free false false f = refl
ranks (roles g) true o f = refl
ranks (roles g) false true f = refl
ranks (roles g) false false f = refl

pub join_is_ranked : JoinIsRanked
unfolding together ranked any_of
join_is_ranked [] = refl
join_is_ranked (a ∷ xs) = ap (join a) (join_is_ranked xs) ∙ ranks a (any_of is_closed xs) (any_of is_free xs) (λ n. any_of (λ x. has_role x n) xs)

-- ---- so those with the same members come to the same: order and repeats are no matter
ranked_same : (xs ys : List Access) → Within xs ys → Within ys xs → ranked xs ≡ ranked ys
unfolding ranked
ranked_same xs ys h k =
    ap₂ (λ (c : Bool) (r : Access). cond c closed r) (any is_closed)
    (ap₂ (λ (c : Bool) (r : Access). cond c free r) (any is_free)
    (ap roles (fun_ext (λ n. any (λ a. has_role a n)))))
  where
    any : (f : Access → Bool) → any_of f xs ≡ any_of f ys
    any f = any_same f xs ys h k

pub together_same : (xs ys : List Access) → Within xs ys → Within ys xs → together xs ≡ together ys
together_same xs ys h k = join_is_ranked xs ∙ ranked_same xs ys h k ∙ sym (join_is_ranked ys)

-- none included
pub combine_same : (xs ys : List Access) → Within xs ys → Within ys xs → combine xs ≡ combine ys
unfolding combine
combine_same [] [] h k = refl
combine_same [] (y ∷ ys) h k = absurd (Memᴰ.not-nil (k y (Memᴰ.head refl)))
combine_same (x ∷ xs) [] h k = absurd (Memᴰ.not-nil (h x (Memᴰ.head refl)))
combine_same (x ∷ xs) (y ∷ ys) h k = together_same (x ∷ xs) (y ∷ ys) h k

-- ---- a role of the join is one of them
pub role_of : (xs : List Access) (n : Text) → has_role (together xs) n ≡ true → (a : Access) × Memᴰ a xs × (has_role a n ≡ true)
unfolding ranked
role_of xs n h = (any_plain (λ a. has_role a n) xs).0 (go (any_of is_closed xs) (any_of is_free xs) (rw (join_is_ranked xs) at h))
  where
    go : (c o : Bool) → has_role (cond c closed (cond o free (roles (λ m. any_of (λ a. has_role a m) xs)))) n ≡ true → any_of (λ a. has_role a n) xs ≡ true
    go true o i = absurd (never false i refl)
    go false true i = absurd (never false i refl)
    go false false i = i
