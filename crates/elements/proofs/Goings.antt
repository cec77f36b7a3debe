-- Readers put together, read at places with the value that is read: where the first part faults, where it goes on, where a walk turns.
use mathlib.Core.Path.{◌≡◌, refl, sym, ap, subst, ◌∙◌}
use mathlib.Core.Bool.{Bool, true, false}
use mathlib.Core.List.{List, []}
use Prim.Native.Nat.{ℕ, ◌-◌, ◌≤◌, ◌<◌}
use native.Mathlib.Omega.{arith}
use lib.ListN.{length, drop, length-drop}
use Rattle.std.specs.Prelude.{Result, Ok, Err}
use Rattle.std.specs.Result.{IsErrAnd}
use Rattle.text.specs.Texts.{Text}
use Rattle.documents.specs.Parts.{Fault, Got, got, fault, Reader, ◌>>=◌, ◌>>◌, return, whether, walk}
use Rattle.documents.proofs.Steps.{Ok as Accepts, ok_got, run_then, run_true, run_false}
use Rattle.documents.proofs.Loops.{Less, walk_goes, walk_ends}
use Rattle.documents.proofs.Leaves.{Leaves}
use Rattle.markup.specs.declared.answers.Fault.{Fault as Blame}
use Rattle.markup.specs.declared.gathering.Gathered.{Gathered}
use Rattle.markup.specs.Tallies.{gathered_at}
use Rattle.markup.specs.Places.{blame, cause_of, placed_as, read_as, read_at, place_of}
use Rattle.markup.proofs.Places.{place}
use Rattle.markup.proofs.Steps as steps
use Rattle.markup.proofs.Steps.{fine, faulty}
use Rattle.portals.specs.Readings.{Reached}
use Rattle.ledger.specs.Ledgers.{Ledger}
use Rattle.elements.specs.declared.giving.Went.{Went}
use Rattle.elements.specs.Goings.{Stood, stood, Going, read_on, shown_by, Gone}

-- ---- what a `?` hands on
pub gone_passed : {s : Text} {due : Going (Reached Ledger)} {r : Result Went Blame} {e : Blame} {w : List ℕ} → IsErrAnd r (λ d. d ≡ e) → Gone s due (Err e) w → Gone s due r w
gone_passed {r = Ok b} h g = absurd h
gone_passed {s} {due} {r = Err d} {w = w} h g = subst (λ (x : Blame). Gone s due (Err x) w) (sym h) g

pub shown_passed : {A : Type 0} (y : A) (r : Result ℕ Blame) {e : Blame} {g : Going A} → IsErrAnd r (λ d. d ≡ e) → Err e ≡ g → shown_by r y ≡ g
shown_passed y (Ok b) h f = absurd h
shown_passed {A} y (Err d) h f = ap (faulty {B = Stood A}) h ∙ f

pub shown_passed_as : {A : Type 0} (y : A) (r : Result Gathered Blame) {e : Blame} {g : Going A} → IsErrAnd r (λ d. d ≡ e) → Err e ≡ g → shown_by (gathered_at r) y ≡ g
shown_passed_as y (Ok b) h f = absurd h
shown_passed_as {A} y (Err d) h f = ap (faulty {B = Stood A}) h ∙ f

-- ---- one step
module _ {A : Type 0} (m : Reader A) (s : Text) (i : ℕ) where
  -- what was read
  pub read_got : Leaves m → (y : A) (n : ℕ) → Ok (stood y n) ≡ read_on m s i → m (drop i s) ≡ got y (drop n s)
  read_got leaves y n e =
      let w = steps.went_as m s i leaves stood (stood y n) e in
      w.1.1.1 ∙ ap (λ (z : Stood A). got z.value (drop z.next s)) (sym w.1.1.0)

  pub got_on : {a : A} (n : ℕ) → n ≤ length s → m (drop i s) ≡ got a (drop n s) → Ok (stood a n) ≡ read_on m s i
  unfolding read_as
  got_on {a = a} n h f = ap (λ (z : ℕ). fine (stood a z)) (sym (place s n h)) ∙ ap (placed_as stood (length s)) (sym f)

  -- a fault at a place
  pub fault_on : (e : Fault) (n k : ℕ) → n ≡ length s - k → m (drop i s) ≡ fault e k → Err (blame (cause_of e) n) ≡ read_on m s i
  unfolding read_as
  fault_on e n k h f = ap (λ (z : ℕ). faulty {B = Stood A} (blame (cause_of e) z)) h ∙ ap (placed_as stood (length s)) (sym f)

  -- two readers that agree there
  pub same_on : (k : Reader A) → m (drop i s) ≡ k (drop i s) → read_on m s i ≡ read_on k s i
  unfolding read_as
  same_on k e = ap (placed_as stood (length s)) e

  module _ {B : Type 0} (k : A → Reader B) where
    -- a fault of m
    pub on_stops : (e : Blame) → Err e ≡ read_on m s i → Err e ≡ read_on (m >>= k) s i
    on_stops e h = steps.stops m s i k stood stood e h

    pub at_stops : {C : Type 0} (f : A → ℕ → C) (e : Blame) → Err e ≡ read_as f m s i → Err e ≡ read_on (m >>= k) s i
    at_stops f e h = steps.stops m s i k f stood e h

    -- what m reads, and then what follows
    pub got_goes : {a : A} (n : ℕ) (g : Going B) → m (drop i s) ≡ got a (drop n s) → g ≡ read_on (k a) s n → g ≡ read_on (m >>= k) s i
    unfolding read_as
    got_goes n g e h = h ∙ ap (placed_as stood (length s)) (sym (run_then m k (drop i s) e refl))

    pub on_goes : Leaves m → (y : A) (n : ℕ) (g : Going B) → Ok (stood y n) ≡ read_on m s i → g ≡ read_on (k y) s n → g ≡ read_on (m >>= k) s i
    on_goes leaves y n g e h = got_goes n g (read_got leaves y n e) h

  -- what is left is less
  pub less_on : Leaves m → ((x : Text) → Less x (m x)) → (y : A) (n : ℕ) → Ok (stood y n) ≡ read_on m s i → length s - n < length s - i
  less_on leaves less y n e =
      let shorter : length (drop n s) < length (drop i s) = ok_got (subst (Accepts (λ a r. length r < length (drop i s))) (read_got leaves y n e) (less (drop i s))) in
      omega (arith, length-drop i s, length-drop n s)

-- a part without a value, and then a value
pub at_returns : {A B : Type 0} (m : Reader A) (b : B) (s : Text) (i : ℕ) → Leaves m → (n : ℕ) → Ok n ≡ read_at m s i → n ≤ length s → Ok (stood b n) ≡ read_on (m >> return b) s i
at_returns m b s i leaves n e h =
    let w = steps.went m s i leaves n e in
    got_goes m s i (λ a. return b) n _ w.1 (got_on (return b) s n n h refl)

pub shown_returns : {A B : Type 0} (m : Reader A) (b : B) (s : Text) (i : ℕ) → Leaves m → (g : Result ℕ Blame) → g ≡ read_at m s i → place_of g ≤ length s → shown_by g b ≡ read_on (m >> return b) s i
shown_returns m b s i leaves (Ok n) e h = at_returns m b s i leaves n e h
shown_returns m b s i leaves (Err d) e h = at_stops m s i (λ a. return b) (λ a k. k) d e

-- one way or the other
module _ {A : Type 0} (t : Bool) (m k : Reader A) (s : Text) (i : ℕ) (g : Going A) where
  pub on_true : t ≡ true → g ≡ read_on m s i → g ≡ read_on (whether t m k) s i
  unfolding read_as
  on_true e h = h ∙ ap (placed_as stood (length s)) (sym (run_true t m k (drop i s) e refl))

  pub on_false : t ≡ false → g ≡ read_on k s i → g ≡ read_on (whether t m k) s i
  unfolding read_as
  on_false e h = h ∙ ap (placed_as stood (length s)) (sym (run_false t m k (drop i s) e refl))

-- ---- readers put together in two ways
pub regrouped : {A B C : Type 0} (m : Reader A) (k : A → Reader B) (j : B → Reader C) (x : Text) → ((m >>= k) >>= j) x ≡ (m >>= λ a. k a >>= j) x
unfolding ◌>>=◌
regrouped {A} {B} {C} m k j x = go (m x)
  where
    go : (g : Got A) → Path (Got C)
        (elim (elim g as (λ z. Got B) [ got a r ↦ k a r | fault d l ↦ fault d l ]) as (λ z. Got C) [ got b r ↦ j b r | fault d l ↦ fault d l ])
        (elim g as (λ z. Got C) [ got a r ↦ (k a >>= j) r | fault d l ↦ fault d l ])
    go (got a r) = refl
    go (fault d l) = refl

pub alike_behind : {A B : Type 0} (m : Reader A) (k j : A → Reader B) (x : Text) → ((a : A) (r : Text) → k a r ≡ j a r) → (m >>= k) x ≡ (m >>= j) x
unfolding ◌>>=◌
alike_behind {A} {B} m k j x h = go (m x)
  where
    go : (g : Got A) → Path (Got B) (elim g as (λ z. Got B) [ got a r ↦ k a r | fault d l ↦ fault d l ]) (elim g as (λ z. Got B) [ got a r ↦ j a r | fault d l ↦ fault d l ])
    go (got a r) = h a r
    go (fault d l) = refl

-- ---- walks
module _ {A : Type 0} (more : Text → Bool) (step : A → Reader A) (none : more [] ≡ false) (less : (a : A) (x : Text) → more x ≡ true → Less x (step a x))
    (s : Text) (n : ℕ) (a : A) where
  pub on_over : n ≤ length s → more (drop n s) ≡ false → Ok (stood a n) ≡ read_on (walk more step a) s n
  on_over h e = got_on (walk more step a) s n n h (walk_ends more step none less a (drop n s) e)

  pub on_halts : (e : Blame) → more (drop n s) ≡ true → Err e ≡ read_on (step a) s n → Err e ≡ read_on (walk more step a) s n
  on_halts e t h = steps.walk_stops more step none less s n n a a refl stood stood e t h

  pub on_turns : (b : A) (k : ℕ) → more (drop n s) ≡ true → Ok (stood b k) ≡ read_on (step a) s n → Leaves (step a) → read_on (walk more step a) s n ≡ read_on (walk more step b) s k
  unfolding read_as
  on_turns b k t e leaves = ap (placed_as stood (length s)) (walk_goes more step none less a (drop n s) t (read_got (step a) s n leaves b k e))
