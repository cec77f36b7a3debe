-- Two readers that go the same way: they read the same, fault at the same places, and their values are related.
use mathlib.Core.Path.{◌≡◌, refl}
use mathlib.Core.Bool.{Bool, true, false}
use Prim.Native.Nat.{ℕ, zero, suc}
use Rattle.text.specs.Texts.{Text}
use Rattle.documents.specs.Parts.{Fault, Got, got, fault, Reader, ◌>>=◌, whether, rounds, walk}

pub data Alike {A B : Type 0} (R : A → B → Type 0) : Got A → Got B → Type 0 where
  both : {a : A} {b : B} {r : Text} → R a b → Alike R (got a r) (got b r)
  neither : {e : Fault} {n : ℕ} → Alike R (fault e n) (fault e n)

pub alike_self : {A : Type 0} (g : Got A) → Alike ◌≡◌ g g
alike_self (got a r) = both refl
alike_self (fault e n) = neither

pub alike_then : {A B C D : Type 0} {R : A → B → Type 0} {Q : C → D → Type 0} (m : Reader A) (m' : Reader B) (k : A → Reader C) (k' : B → Reader D) (x : Text)
    → Alike R (m x) (m' x) → ((a : A) (b : B) (r : Text) → R a b → Alike Q (k a r) (k' b r)) → Alike Q ((m >>= k) x) ((m' >>= k') x)
unfolding ◌>>=◌
alike_then {A} {B} {C} {D} {R = R} {Q = Q} m m' k k' x h f = go (m x) (m' x) h
  where
    go : (g : Got A) (g' : Got B) → Alike R g g'
        → Alike Q (elim g as (λ y. Got C) [ got a r ↦ k a r | fault e n ↦ fault e n ]) (elim g' as (λ y. Got D) [ got b r ↦ k' b r | fault e n ↦ fault e n ])
    go g g' (both {r = r} i) = f _ _ r i
    go g g' neither = neither

pub alike_whether : {A B : Type 0} {Q : A → B → Type 0} (t : Bool) (m k : Reader A) (m' k' : Reader B) (x : Text)
    → Alike Q (m x) (m' x) → Alike Q (k x) (k' x) → Alike Q (whether t m k x) (whether t m' k' x)
unfolding whether
alike_whether true m k m' k' x h i = h
alike_whether false m k m' k' x h i = i

module _ {A B : Type 0} (R : A → B → Type 0) (more : Text → Bool) (step : A → Reader A) (step' : B → Reader B)
    (one : (a : A) (b : B) (x : Text) → R a b → Alike R (step a x) (step' b x)) where
  rounds_alike : (f : ℕ) (a : A) (b : B) (x : Text) → R a b → Alike R (rounds more step f a x) (rounds more step' f b x)
  unfolding rounds
  rounds_alike zero a b x h = both h
  rounds_alike (suc f) a b x h =
      alike_whether (more x) _ _ _ _ x (alike_then (step a) (step' b) (rounds more step f) (rounds more step' f) x (one a b x h) (λ c d r i. rounds_alike f c d r i)) (both h)

  pub walk_alike : (a : A) (b : B) (x : Text) → R a b → Alike R (walk more step a x) (walk more step' b x)
  unfolding walk
  walk_alike a b x h = rounds_alike _ a b x h

-- where the second gets something, so does the first
pub alike_got : {A B : Type 0} {R : A → B → Type 0} (g : Got A) (b : B) (r : Text) → Alike R g (got b r) → (a : A) × (g ≡ got a r) × R a b
alike_got g b r (both {a = a} i) = (a, refl, i)
