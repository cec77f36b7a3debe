-- The declared names are no more than the names: each is one of them, and stands once.
use mathlib.Core.Path.{◌≡◌, refl, ap, ◌∙◌}
use mathlib.Core.Bool.{Bool, true, false, cond, ◌||◌}
use mathlib.Core.List.{List, [], ◌∷◌, ◌++◌}
use Prim.Native.Nat.{ℕ, suc, ◌+◌, ◌≤◌}
use native.Mathlib.Omega.{arith}
use lib.ListN.{length}
use Rattle.text.specs.Texts.{Text, same, member, known}
use Rattle.text.proofs.Truths.{never}
use Rattle.text.proofs.Spans.{same_self, same_equal}
use Rattle.text.proofs.Indices.{length_snoc}

-- ---- texts that are none of others
-- how many of the texts are none of us
unfoldable pub outside : List Text → List Text → ℕ
outside us [] = 0
outside us (v ∷ vs) = cond (member v us) (outside us vs) (suc (outside us vs))

member_snoc : (v : Text) (us : List Text) (t : Text) → member v (us ++ t ∷ []) ≡ (member v us || same t v)
unfolding member
member_snoc v [] t = go (same t v)
  where
    go : (b : Bool) → (b || false) ≡ b
    go true = refl
    go false = refl
member_snoc v (u ∷ us) t = go (same u v) (member_snoc v us t)
  where
    go : (b : Bool) → member v (us ++ t ∷ []) ≡ (member v us || same t v) → (b || member v (us ++ t ∷ [])) ≡ ((b || member v us) || same t v)
    go true e = refl
    go false e = e

-- one text more
outside_behind : (us vs : List Text) (t : Text) → outside us (vs ++ t ∷ []) ≤ suc (outside us vs)
unfolding outside
outside_behind us [] t = go (member t us)
  where
    go : (b : Bool) → cond b 0 1 ≤ 1
    go true = omega arith
    go false = omega arith
outside_behind us (v ∷ vs) t = go (member v us) (outside_behind us vs t)
  where
    go : (b : Bool) → outside us (vs ++ t ∷ []) ≤ suc (outside us vs)
        → cond b (outside us (vs ++ t ∷ [])) (suc (outside us (vs ++ t ∷ []))) ≤ suc (cond b (outside us vs) (suc (outside us vs)))
    go true e = e
    go false e = omega arith

-- of us, one that is then none outside
outside_met : (us vs : List Text) (t : Text) → member t us ≡ true → outside us (vs ++ t ∷ []) ≡ outside us vs
unfolding outside
outside_met us [] t e = rw e
outside_met us (v ∷ vs) t e = rw (outside_met us vs t e)

module _ (us : List Text) (t : Text) where
  -- fewer are outside of one more
  outside_less : (vs : List Text) → outside (us ++ t ∷ []) vs ≤ outside us vs
  unfolding outside
  outside_less [] = omega arith
  outside_less (v ∷ vs) = rw (member_snoc v us t) (go (member v us) (same t v) (outside_less vs))
    where
      go : (a b : Bool) → outside (us ++ t ∷ []) vs ≤ outside us vs
          → cond (a || b) (outside (us ++ t ∷ []) vs) (suc (outside (us ++ t ∷ []) vs)) ≤ cond a (outside us vs) (suc (outside us vs))
      go true b e = e
      go false true e = omega arith
      go false false e = omega arith

  -- one fewer at least, where it is new and one of them
  outside_fewer : (vs : List Text) → member t us ≡ false → member t vs ≡ true → suc (outside (us ++ t ∷ []) vs) ≤ outside us vs
  unfolding outside member
  outside_fewer [] n h = absurd (never false h refl)
  outside_fewer (v ∷ vs) n h = rw (member_snoc v us t) (go (same v t) refl h (member v us) refl (same t v) refl (outside_less vs) (outside_fewer vs n))
    where
      go : (x : Bool) → same v t ≡ x → (x || member t vs) ≡ true → (a : Bool) → member v us ≡ a → (b : Bool) → same t v ≡ b
          → outside (us ++ t ∷ []) vs ≤ outside us vs → (member t vs ≡ true → suc (outside (us ++ t ∷ []) vs) ≤ outside us vs)
          → suc (cond (a || b) (outside (us ++ t ∷ []) vs) (suc (outside (us ++ t ∷ []) vs))) ≤ cond a (outside us vs) (suc (outside us vs))
      go true e k true m b o l again = absurd (never (member v us) m (ap (λ (z : Text). member z us) (same_equal v t e) ∙ n))
      go true e k false m true o l again = omega arith
      go true e k false m false o l again = absurd (never (same t v) (ap (λ (z : Text). same t z) (same_equal v t e) ∙ same_self t) o)
      go false e k true m b o l again = again k
      go false e k false m true o l again = let j = again k in omega arith
      go false e k false m false o l again = let j = again k in omega arith

-- as many as stand among the names
abbrev pub Spare : List Text → List Text → Type 0
Spare us vs = length us + outside us vs ≤ length vs

pub known_there : (us : List Text) (t : Text) → member t us ≡ true → known us t ≡ us
unfolding known
known_there us t e = rw e

pub known_new : (us : List Text) (t : Text) → member t us ≡ false → known us t ≡ us ++ t ∷ []
unfolding known
known_new us t e = rw e

pub spare_named : (us vs : List Text) (t : Text) → Spare us vs → Spare us (known vs t)
spare_named us vs t h = go (member t vs) refl
  where
    go : (b : Bool) → member t vs ≡ b → Spare us (known vs t)
    go true e = rw (known_there vs t e) h
    go false e = rw (known_new vs t e, length_snoc vs t) (let k = outside_behind us vs t in omega arith)

pub spare_declared : (us vs : List Text) (t : Text) → member t us ≡ false → Spare us vs → Spare (us ++ t ∷ []) (known vs t)
spare_declared us vs t n h = go (member t vs) refl
  where
    here : member t (us ++ t ∷ []) ≡ true
    here = member_snoc t us t ∙ rw (n, same_self t)

    go : (b : Bool) → member t vs ≡ b → Spare (us ++ t ∷ []) (known vs t)
    go true e = rw (known_there vs t e, length_snoc us t) (let k = outside_fewer us t vs n e in omega arith)
    go false e = rw (known_new vs t e, length_snoc us t, length_snoc vs t, outside_met (us ++ t ∷ []) vs t here) (let k = outside_less us t vs in omega arith)
