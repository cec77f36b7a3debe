-- The two loops turn by turn. Their count is the length of the text; where each turn leaves less of it, the count does not matter, and a loop is one turn and the loop again.
use mathlib.Core.Path.{◌≡◌, refl, sym, ap, ◌∙◌}
use mathlib.Core.Bool.{Bool, true, false}
use mathlib.Core.List.{[], ◌∷◌}
use Prim.Native.Nat.{ℕ, zero, suc, ◌≤◌, ◌<◌}
use native.Mathlib.Omega.{arith}
use lib.ListN.{length}
use Rattle.text.specs.Texts.{Text}
use Rattle.documents.specs.Parts.{Got, got, fault, Reader, ◌>>=◌, return, whether, turns, many, rounds, walk}
use Rattle.documents.proofs.Steps.{Ok, accepted, refused, run_then, run_true, run_false}

-- what is accepted leaves less than x
abbrev pub Less : {A : Type 0} → Text → Got A → Type 0
Less x g = Ok (λ a r. length r < length x) g

no_bytes : (x : Text) → length x ≤ 0 → x ≡ []
no_bytes [] h = refl
no_bytes (b ∷ x) h = absurd (omega arith)

-- two loops that agree on every shorter text agree behind a step
same_turn : {A B : Type 0} (t : Bool) (m : Reader A) (j k : A → Reader B) (z : Reader B) (x : Text) → (t ≡ true → Less x (m x))
    → ((a : A) (r : Text) → length r < length x → j a r ≡ k a r) → whether t (m >>= j) z x ≡ whether t (m >>= k) z x
unfolding whether ◌>>=◌
same_turn {A} {B} true m j k z x less h = go (m x) (less refl)
  where
    go : (g : Got A) → Less x g →
        Path (Got B) (elim g as (λ y. Got B) [ got a r ↦ j a r | fault d n ↦ fault d n ]) (elim g as (λ y. Got B) [ got a r ↦ k a r | fault d n ↦ fault d n ])
    go (got a r) (accepted l) = h a r l
    go (fault d n) refused = refl
same_turn false m j k z x less h = refl

-- ---- pieces
module _ {A B : Type 0} (more : Text → Bool) (read : Reader A) (start : B) (add : A → B → B)
    (none : more [] ≡ false) (less : (x : Text) → more x ≡ true → Less x (read x)) where
  -- the rest of a turn
  abbrev pub again : Reader B → A → Reader B
  again m a = m >>= λ b. return (add a b)

  same_again : (m k : Reader B) (a : A) (r : Text) → m r ≡ k r → again m a r ≡ again k a r
  unfolding ◌>>=◌
  same_again m k a r e = ap (λ (g : Got B). elim g as (λ z. Got B) [ got b q ↦ got (add a b) q | fault d n ↦ fault d n ]) e

  -- two counts that are both large enough
  enough : (f g : ℕ) (x : Text) → length x ≤ f → length x ≤ g → turns more read start add f x ≡ turns more read start add g x
  unfolding turns
  enough zero zero x p q = refl
  enough zero (suc g) x p q = rw (no_bytes x p) (sym (run_false _ _ _ [] none refl))
  enough (suc f) zero x p q = rw (no_bytes x q) (run_false _ _ _ [] none refl)
  enough (suc f) (suc g) x p q =
      same_turn (more x) read (again (turns more read start add f)) (again (turns more read start add g)) (return start) x (less x)
      (λ a r l. same_again _ _ a r (enough f g r (omega arith) (omega arith)))

  pub many_step : (x : Text) → many more read start add x ≡ whether (more x) (read >>= again (many more read start add)) (return start) x
  unfolding many turns
  many_step x =
      enough (length x) (suc (length x)) x (omega arith) (omega arith)
      ∙ same_turn (more x) read (again (turns more read start add (length x))) (again (many more read start add)) (return start) x (less x)
      (λ a r l. same_again _ _ a r (enough (length x) (length r) r (omega arith) (omega arith)))

-- ---- a value handed on
module _ {A : Type 0} (more : Text → Bool) (step : A → Reader A)
    (none : more [] ≡ false) (less : (a : A) (x : Text) → more x ≡ true → Less x (step a x)) where
  rounds_enough : (f g : ℕ) (a : A) (x : Text) → length x ≤ f → length x ≤ g → rounds more step f a x ≡ rounds more step g a x
  unfolding rounds
  rounds_enough zero zero a x p q = refl
  rounds_enough zero (suc g) a x p q = rw (no_bytes x p) (sym (run_false _ _ _ [] none refl))
  rounds_enough (suc f) zero a x p q = rw (no_bytes x q) (run_false _ _ _ [] none refl)
  rounds_enough (suc f) (suc g) a x p q =
      same_turn (more x) (step a) (rounds more step f) (rounds more step g) (return a) x (less a x) (λ b r l. rounds_enough f g b r (omega arith) (omega arith))

  pub walk_step : (a : A) (x : Text) → walk more step a x ≡ whether (more x) (step a >>= walk more step) (return a) x
  unfolding walk rounds
  walk_step a x =
      rounds_enough (length x) (suc (length x)) a x (omega arith) (omega arith)
      ∙ same_turn (more x) (step a) (rounds more step (length x)) (walk more step) (return a) x (less a x)
      (λ b r l. rounds_enough (length x) (length r) b r (omega arith) (omega arith))

  -- how a walk goes on, and how it ends
  pub walk_goes : (a : A) (x : Text) {b : A} {r : Text} → more x ≡ true → step a x ≡ got b r → walk more step a x ≡ walk more step b r
  walk_goes a x e h = walk_step a x ∙ run_true _ _ _ _ e (run_then _ _ _ h refl)

  pub walk_ends : (a : A) (x : Text) → more x ≡ false → walk more step a x ≡ got a x
  walk_ends a x e = walk_step a x ∙ run_false _ _ _ _ e refl
