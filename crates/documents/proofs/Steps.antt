-- How readers that are put together are reasoned about: what an accepted answer satisfies (forwards), and how a run goes (by equations).
use mathlib.Core.Path.{◌≡◌, refl, sym, ap, ◌∙◌}
use mathlib.Core.Bool.{Bool, true, false}
use mathlib.Core.List.{[], ◌++◌, append_assoc}
use Prim.Native.Nat.{ℕ, zero, suc}
use Rattle.text.specs.Texts.{Text}
use Rattle.documents.specs.Parts.{Fault, Got, got, fault, Reader, ◌>>=◌, whether, blamed, turns, many, rounds, walk}

-- ---- forwards: P holds of what is accepted and of the text left
pub data Ok {A : Type 0} (P : A → Text → Type 0) : Got A → Type 0 where
  accepted : {a : A} {r : Text} → P a r → Ok P (got a r)
  refused : {e : Fault} {n : ℕ} → Ok P (fault e n)

pub ok_got : {A : Type 0} {P : A → Text → Type 0} {a : A} {r : Text} → Ok P (got a r) → P a r
ok_got (accepted h) = h

pub ok_map : {A : Type 0} {P Q : A → Text → Type 0} {g : Got A} → Ok P g → ((a : A) (r : Text) → P a r → Q a r) → Ok Q g
ok_map (accepted h) f = accepted (f _ _ h)
ok_map refused f = refused

pub ok_then : {A B : Type 0} {P : A → Text → Type 0} {Q : B → Text → Type 0} (m : Reader A) (k : A → Reader B) (s : Text)
    → Ok P (m s) → ((a : A) (r : Text) → P a r → Ok Q (k a r)) → Ok Q ((m >>= k) s)
unfolding ◌>>=◌
ok_then {A} {B} {P = P} {Q = Q} m k s h f = go (m s) h
  where
    go : (g : Got A) → Ok P g → Ok Q (elim g as (λ x. Got B) [ got a r ↦ k a r | fault e n ↦ fault e n ])
    go (got a r) (accepted i) = f a r i
    go (fault e n) refused = refused

pub ok_whether : {A : Type 0} {Q : A → Text → Type 0} (t : Bool) (m k : Reader A) (s : Text)
    → (t ≡ true → Ok Q (m s)) → (t ≡ false → Ok Q (k s)) → Ok Q (whether t m k s)
unfolding whether
ok_whether true m k s f g = f refl
ok_whether false m k s f g = g refl

-- where a fault is put changes nothing of what is accepted
pub ok_blamed : {A : Type 0} {P : A → Text → Type 0} (n : ℕ) (m : Reader A) (s : Text) → Ok P (m s) → Ok P (blamed n m s)
unfolding blamed
ok_blamed {A} {P = P} n m s h = go (m s) h
  where
    go : (g : Got A) → Ok P g → Ok P (elim g as (λ x. Got A) [ got a r ↦ got a r | fault e zero ↦ fault e zero | fault e (suc k) ↦ fault e n ])
    go (got a r) (accepted i) = accepted i
    go (fault e zero) refused = refused
    go (fault e (suc k)) refused = refused

-- a part of s that spells a by R, and what is left behind it
pub record Reads {A : Type 0} (R : A → Text → Type 0) (s : Text) (a : A) (r : Text) : Type 0 where
  pub used : Text
  pub split : s ≡ used ++ r
  pub spelt : R a used

-- what the reader m accepts R spells
abbrev pub Sound : {A : Type 0} → (A → Text → Type 0) → Reader A → Type 0
Sound R m = (s : Text) → Ok (Reads R s) (m s)

-- what spells by R spells by Q
pub sound_map : {A : Type 0} {R Q : A → Text → Type 0} {m : Reader A} → Sound R m → ((a : A) (t : Text) → R a t → Q a t) → Sound Q m
sound_map h f s = ok_map (h s) (λ a r i. record { used = i.used; split = i.split; spelt = f a i.used i.spelt })

-- one part behind the other
pub reads_then : {A B C : Type 0} {R : A → Text → Type 0} {S : B → Text → Type 0} {Q : C → Text → Type 0} {s r t : Text} {a : A} {b : B} (c : C)
    → ((u v : Text) → R a u → S b v → Q c (u ++ v)) → Reads R s a r → Reads S r b t → Reads Q s c t
reads_then {t = t} c f h i = record {
  used = h.used ++ i.used;
  split = h.split ∙ ap (λ (x : Text). h.used ++ x) i.split ∙ sym (append_assoc h.used i.used t);
  spelt = f h.used i.used h.spelt i.spelt;
}

-- nothing is read
pub reads_none : {A : Type 0} {R : A → Text → Type 0} {s : Text} {a : A} → R a [] → Reads R s a s
reads_none h = record { used = []; split = refl; spelt = h }

module _ {A B : Type 0} (more : Text → Bool) (read : Reader A) (start : B) (add : A → B → B) where
  turns_sound : (R : A → Text → Type 0) (S : B → Text → Type 0) → ((s : Text) → more s ≡ true → Ok (Reads R s) (read s)) → S start []
      → ((a : A) (b : B) (s t : Text) → R a s → S b t → S (add a b) (s ++ t)) → (f : ℕ) → Sound S (turns more read start add f)
  unfolding turns
  turns_sound R S one none cons zero s = accepted (reads_none none)
  turns_sound R S one none cons (suc f) s =
      ok_whether _ _ _ s
      (λ e. ok_then _ _ s (one s e) (λ a r h. ok_then _ _ r (turns_sound R S one none cons f r) (λ b t i. accepted (reads_then (add a b) (cons a b) h i))))
      (λ e. accepted (reads_none none))

  -- where each piece is spelt by R, and S puts pieces together, S spells all that many pieces accept
  pub many_sound : (R : A → Text → Type 0) (S : B → Text → Type 0) → ((s : Text) → more s ≡ true → Ok (Reads R s) (read s)) → S start []
      → ((a : A) (b : B) (s t : Text) → R a s → S b t → S (add a b) (s ++ t)) → Sound S (many more read start add)
  unfolding many
  many_sound R S one none cons s = turns_sound R S one none cons _ s

module _ {A : Type 0} (more : Text → Bool) (step : A → Reader A) where
  rounds_sound : (R S : A → A → Text → Type 0) → ((a : A) (s : Text) → more s ≡ true → Ok (Reads (R a) s) (step a s)) → ((a : A) → S a a [])
      → ((a b c : A) (s t : Text) → R a b s → S b c t → S a c (s ++ t)) → (f : ℕ) (a : A) → Sound (S a) (rounds more step f a)
  unfolding rounds
  rounds_sound R S one none cons zero a s = accepted (reads_none (none a))
  rounds_sound R S one none cons (suc f) a s =
      ok_whether _ _ _ s
      (λ e. ok_then _ _ s (one a s e) (λ b r h. ok_map (rounds_sound R S one none cons f b r) (λ c t i. reads_then c (cons a b c) h i)))
      (λ e. accepted (reads_none (none a)))

  -- R a b: a step leads from a to b by that text; S a c: some steps lead from a to c
  pub walk_sound : (R S : A → A → Text → Type 0) → ((a : A) (s : Text) → more s ≡ true → Ok (Reads (R a) s) (step a s)) → ((a : A) → S a a [])
      → ((a b c : A) (s t : Text) → R a b s → S b c t → S a c (s ++ t)) → (a : A) → Sound (S a) (walk more step a)
  unfolding walk
  walk_sound R S one none cons a s = rounds_sound R S one none cons _ a s

-- ---- by equations
pub run_then : {A B : Type 0} (m : Reader A) (k : A → Reader B) (s : Text) {a : A} {r : Text} {g : Got B} → m s ≡ got a r → k a r ≡ g → (m >>= k) s ≡ g
unfolding ◌>>=◌
run_then {B = B} m k s e h = ap (λ (x : Got _). elim x as (λ y. Got B) [ got a r ↦ k a r | fault e n ↦ fault e n ]) e ∙ h

pub run_true : {A : Type 0} (t : Bool) (m k : Reader A) (s : Text) {g : Got A} → t ≡ true → m s ≡ g → whether t m k s ≡ g
unfolding whether
run_true {A} t m k s e h = ap (λ (x : Bool). elim x as (λ y. Got A) [ true ↦ m s | false ↦ k s ]) e ∙ h

pub run_false : {A : Type 0} (t : Bool) (m k : Reader A) (s : Text) {g : Got A} → t ≡ false → k s ≡ g → whether t m k s ≡ g
unfolding whether
run_false {A} t m k s e h = ap (λ (x : Bool). elim x as (λ y. Got A) [ true ↦ m s | false ↦ k s ]) e ∙ h

module _ {A : Type 0} (n : ℕ) (m : Reader A) (s : Text) where
  abbrev blame : Got A → Got A
  blame g = elim g as (λ y. Got A) [ got a r ↦ got a r | fault e zero ↦ fault e zero | fault e (suc k) ↦ fault e n ]

  -- what is got is got
  pub run_blamed : {a : A} {r : Text} → m s ≡ got a r → blamed n m s ≡ got a r
  unfolding blamed
  run_blamed e = ap blame e

  -- where the text runs out the fault stays
  pub blamed_out : {e : Fault} → m s ≡ fault e 0 → blamed n m s ≡ fault e 0
  unfolding blamed
  blamed_out e = ap blame e

  -- every other fault is put where n bytes are left
  pub blamed_there : {e : Fault} {k : ℕ} → m s ≡ fault e (suc k) → blamed n m s ≡ fault e n
  unfolding blamed
  blamed_there e = ap blame e
