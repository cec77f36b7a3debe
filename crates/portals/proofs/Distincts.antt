-- Texts of which no two are the same, and how many distinct ones there are.
use mathlib.Core.Path.{◌≡◌, refl, sym, ap, ◌∙◌}
use mathlib.Core.Bool.{Bool, true, false, cond, ◌||◌, or-true, or-false, or_assoc}
use mathlib.Core.List.{List, [], ◌∷◌, ◌++◌}
use Prim.Native.Nat.{suc, ◌≤◌}
use native.Mathlib.Omega.{arith}
use lib.ListN.{length}
use Rattle.text.specs.Texts.{Text, same, member, run, known, distinct}
use Rattle.text.proofs.Truths.{never, not_so, or_left, or_right}
use Rattle.text.proofs.Spans.{same_equal, same_self}
use Rattle.names.proofs.Plainly.{same_swap, member_append}

-- each of the texts is one of the others
abbrev pub Among : List Text → List Text → Type 0
Among us vs = (t : Text) → member t us ≡ true → member t vs ≡ true

-- no two are the same
abbrev pub Apart : List Text → Type 0
Apart [] = Unit {0}
Apart (u ∷ us) = (member u us ≡ false) × Apart us

-- ---- one more
pub apart_more : (us : List Text) (t : Text) → Apart us → member t us ≡ false → Apart (us ++ t ∷ [])
unfolding member
apart_more [] t a h = (refl, tt)
apart_more (u ∷ us) t a h =
    (member_append u us (t ∷ []) ∙ rw (a.0, same_swap t u, or_left (same u t) (member t us) h), apart_more us t a.1 (or_right (same u t) (member t us) h))

-- one of them is none of those before it
pub apart_at : (us vs : List Text) (t : Text) → Apart (us ++ t ∷ vs) → member t us ≡ false
unfolding member
apart_at [] vs t a = refl
apart_at (u ∷ us) vs t a =
    let h : (member u us || (same t u || member u vs)) ≡ false = sym (member_append u us (t ∷ vs)) ∙ a.0 in
    let e : same t u ≡ false = or_left (same t u) (member u vs) (or_right (member u us) (same t u || member u vs) h) in
    rw (same_swap u t, e) (apart_at us vs t a.1)

-- ---- the distinct ones
apart_known : (us : List Text) (t : Text) → Apart us → Apart (known us t)
unfolding known
apart_known us t a = go (member t us) refl
  where
    go : (b : Bool) → member t us ≡ b → Apart (cond b us (us ++ t ∷ []))
    go true e = a
    go false e = apart_more us t a e

apart_run : (us ts : List Text) → Apart us → Apart (run known us ts)
unfolding run
apart_run us [] a = a
apart_run us (t ∷ ts) a = apart_run (known us t) ts (apart_known us t a)

apart_distinct : (ts : List Text) → Apart (distinct ts)
unfolding distinct
apart_distinct ts = apart_run [] ts tt

member_one : (x t : Text) → member x (t ∷ []) ≡ same t x
unfolding member
member_one x t = or-false (same t x)

known_members : (us : List Text) (t x : Text) → member x (known us t) ≡ (member x us || same t x)
unfolding known
known_members us t x = go (member t us) refl
  where
    here : member t us ≡ true → (b : Bool) → same t x ≡ b → member x us ≡ (member x us || b)
    here e true f = let g : member x us ≡ true = ap (λ (y : Text). member y us) (sym (same_equal t x f)) ∙ e in rw g
    here e false f = sym (or-false (member x us))

    go : (b : Bool) → member t us ≡ b → member x (cond b us (us ++ t ∷ [])) ≡ (member x us || same t x)
    go true e = here e (same t x) refl
    go false e = member_append x us (t ∷ []) ∙ ap (λ (b : Bool). member x us || b) (member_one x t)

run_members : (us ts : List Text) (x : Text) → member x (run known us ts) ≡ (member x us || member x ts)
unfolding run member
run_members us [] x = sym (or-false (member x us))
run_members us (t ∷ ts) x =
    run_members (known us t) ts x ∙ ap (λ (b : Bool). b || member x ts) (known_members us t x) ∙ or_assoc (member x us) (same t x) (member x ts)

distinct_members : (ts : List Text) (x : Text) → member x (distinct ts) ≡ member x ts
unfolding distinct member
distinct_members ts x = run_members [] ts x

-- ---- as many places as texts
without : Text → List Text → List Text
without t [] = []
without t (v ∷ vs) = cond (same v t) vs (v ∷ without t vs)

without_length : (t : Text) (vs : List Text) → member t vs ≡ true → length vs ≡ suc (length (without t vs))
unfolding member without
without_length t [] h = absurd (never false h refl)
without_length t (v ∷ vs) h = go (same v t) h (without_length t vs)
  where
    go : (b : Bool) → b || member t vs ≡ true → (member t vs ≡ true → length vs ≡ suc (length (without t vs))) → suc (length vs) ≡ suc (length (cond b vs (v ∷ without t vs)))
    go true e ih = refl
    go false e ih = ap suc (ih e)

without_member_lem : (t x : Text) (vs : List Text) → member x vs ≡ true → same t x ≡ false → member x (without t vs) ≡ true
unfolding member without
without_member_lem t x [] h n = h
without_member_lem t x (v ∷ vs) h n = go (same v t) refl h (without_member_lem t x vs)
  where
    other : (a : Bool) → a || member x vs ≡ true → (member x vs ≡ true → same t x ≡ false → member x (without t vs) ≡ true) → a || member x (without t vs) ≡ true
    other true e ih = refl
    other false e ih = ih e n

    go : (b : Bool) → same v t ≡ b → same v x || member x vs ≡ true → (member x vs ≡ true → same t x ≡ false → member x (without t vs) ≡ true)
        → member x (cond b vs (v ∷ without t vs)) ≡ true
    go true e k ih =
        let f : same v x ≡ false = ap (λ (y : Text). same y x) (same_equal v t e) ∙ n in
        rw f at k
    go false e k ih = other (same v x) k ih

apart_fewer : (us vs : List Text) → Apart us → Among us vs → length us ≤ length vs
unfolding member
apart_fewer [] vs a h = omega arith
apart_fewer (u ∷ us) vs a h =
    let first : member u vs ≡ true = h u (rw (same_self u)) in
    let rest : Among us (without u vs) = λ x e. without_member_lem u x vs (h x (rw e (or-true (same u x))))
    (not_so (same u x) (λ d. never (member u us) (ap (λ (y : Text). member y us) (same_equal u x d) ∙ e) a.0)) in
    omega (arith, without_length u vs first, apart_fewer us (without u vs) a.1 rest)

-- texts that are all among others have no more distinct ones
pub distinct_fewer : (us vs : List Text) → Among us vs → length (distinct us) ≤ length (distinct vs)
distinct_fewer us vs h = apart_fewer (distinct us) (distinct vs) (apart_distinct us) (λ t e. distinct_members vs t ∙ h t (sym (distinct_members us t) ∙ e))
