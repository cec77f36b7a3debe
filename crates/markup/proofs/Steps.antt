-- A reader that is put together, read at places: where its first part faults, where it goes on, where its loop turns.
use mathlib.Core.Path.{◌≡◌, refl, sym, ap, subst, ◌∙◌}
use mathlib.Core.Bool.{Bool, true, false, ◌&&◌, false≢true}
use mathlib.Core.List.{[], ◌∷◌, ◌++◌, append_assoc}
use Prim.Native.Nat.{ℕ, ◌-◌, ◌≤◌, ◌<◌}
use native.Mathlib.Omega.{arith}
use lib.Dec.{eqb}
use lib.ListN.{length, drop, take, length-drop, length-append, take-append-drop}
use lib.Seq.{drop_at}
use Rattle.std.specs.Prelude.{Result, Ok, Err}
use Rattle.std.specs.Result.{is_ok, result_unwrap_or, result_map_both, IsErrAnd}
use Rattle.std.proofs.lemmas.Result.{err_from_is_err_and}
use Rattle.text.specs.Texts.{Text, starts_with}
use Rattle.documents.specs.Chars.{is_white, after}
use Rattle.documents.specs.Parts.{Got, got, fault, malformed, Reader, ◌>>=◌, ◌>>◌, return, whether, choose, ends, word, white, many, walk}
use Rattle.documents.proofs.Steps.{Ok as Accepts, accepted, refused, ok_got, run_then, run_true, run_false}
use Rattle.documents.proofs.Loops.{Less, again, many_step, walk_step, walk_goes, walk_ends}
use Rattle.documents.proofs.Leaves.{Leaves}
use Rattle.markup.specs.declared.answers.Fault.{Fault as Blame}
use Rattle.markup.specs.Places.{placed_as, read_as, read_at}
use Rattle.markup.proofs.Places.{place, here, good}

-- ---- an answer is a value or a fault, and one of these
pub not_both : {B : Type 0} {b : B} {e : Blame} → Path (Result B Blame) (Ok b) (Err e) → ⊥
not_both h = false≢true (sym (ap is_ok h))

pub same_value : {B : Type 0} {a b : B} → Path (Result B Blame) (Ok a) (Ok b) → a ≡ b
same_value {B} {a} h = ap (λ (r : Result B Blame). result_unwrap_or r a) h

pub same_fault : {B : Type 0} {d e : Blame} → Path (Result B Blame) (Err d) (Err e) → d ≡ e
same_fault {B} {d} h = ap (λ (r : Result B Blame). elim r as (λ x. Blame) [ Ok b ↦ d | Err x ↦ x ]) h

-- a fault is the same beside any value
abbrev pub fine : {B : Type 0} → B → Result B Blame
fine b = Ok b

abbrev pub faulty : {B : Type 0} → Blame → Result B Blame
faulty e = Err e

pub carried : {B C : Type 0} {d e : Blame} → Path (Result B Blame) (Err d) (Err e) → Path (Result C Blame) (Err d) (Err e)
carried {C = C} h = ap (faulty {B = C}) (same_fault h)

-- the fault that a `?` hands on
pub passed : {B : Type 0} {r q : Result B Blame} {e : Blame} → IsErrAnd r (λ d. d ≡ e) → Path (Result B Blame) (Err e) q → r ≡ q
passed {B} {r} h f = let p = err_from_is_err_and r h in p.1 ∙ ap (faulty {B = B}) p.2 ∙ f

-- beside which nothing is said of a value
pub passed_by : {B C : Type 0} (p : B → C) (r : Result B Blame) {q : Result C Blame} {e : Blame} → IsErrAnd r (λ d. d ≡ e) → Path (Result C Blame) (Err e) q → result_map_both p (λ d. d) r ≡ q
passed_by p r h f = ap (result_map_both p (λ d. d)) (passed h refl) ∙ f

-- what is left is what stands at its place
suffix : (p r s : Text) → s ≡ p ++ r → r ≡ drop (length s - length r) s
suffix p r s e = rw e (sym (drop_at p r (length (p ++ r) - length r) (omega (arith, length-append p r))))

-- ---- one step
module _ {A : Type 0} (m : Reader A) (s : Text) (i : ℕ) where
  -- what was read where there is no fault
  pub went_as : {B : Type 0} → Leaves m → (f : A → ℕ → B) (b : B) → Ok b ≡ read_as f m s i
      → (a : A) × ((n : ℕ) × ((b ≡ f a n) × (m (drop i s) ≡ got a (drop n s))))
  unfolding read_as
  went_as {B} leaves f b e = go (m (drop i s)) refl (leaves (drop i s))
    where
      go : (x : Got A) → m (drop i s) ≡ x → Accepts (λ a r. (u : Text) × (drop i s ≡ u ++ r)) x
          → (a : A) × ((n : ℕ) × ((b ≡ f a n) × (m (drop i s) ≡ got a (drop n s))))
      go (got a r) h (accepted u) =
          let whole : s ≡ (take i s ++ u.0) ++ r = sym (take-append-drop i s) ∙ ap (λ (z : Text). take i s ++ z) u.1 ∙ sym (append_assoc (take i s) u.0 r) in
          (a, (length s - length r, (same_value (e ∙ ap (placed_as f (length s)) h), h ∙ ap (got a) (suffix (take i s ++ u.0) r s whole))))
      go (fault d n) h refused = absurd (not_both (e ∙ ap (placed_as f (length s)) h))

  pub went : Leaves m → (n : ℕ) → Ok n ≡ read_at m s i → (a : A) × (m (drop i s) ≡ got a (drop n s))
  went leaves n e = let w = went_as leaves (λ a k. k) n e in (w.0, w.1.1.1 ∙ ap (λ (k : ℕ). got w.0 (drop k s)) (sym w.1.1.0))

  module _ {B : Type 0} (k : A → Reader B) where
    pub stops : {C D : Type 0} (f : A → ℕ → C) (h : B → ℕ → D) (e : Blame) → Err e ≡ read_as f m s i → Err e ≡ read_as h (m >>= k) s i
    unfolding read_as ◌>>=◌
    stops {C} {D} f h e p = go (m (drop i s)) refl
      where
        go : (x : Got A) → m (drop i s) ≡ x → Err e ≡ placed_as {A = B} {B = D} h (length s) (elim (m (drop i s)) as (λ y. Got B) [ got a r ↦ k a r | fault d n ↦ fault d n ])
        go (got a r) q = absurd (not_both (sym (p ∙ ap (placed_as f (length s)) q)))
        go (fault d n) q = rw q (carried (p ∙ ap (placed_as f (length s)) q))

    pub goes : {D : Type 0} (h : B → ℕ → D) → Leaves m → (n : ℕ) (r : Result D Blame) → Ok n ≡ read_at m s i
        → ((a : A) → m (drop i s) ≡ got a (drop n s) → r ≡ read_as h (k a) s n) → r ≡ read_as h (m >>= k) s i
    unfolding read_as
    goes h leaves n r e f = let w = went leaves n e in f w.0 w.1 ∙ ap (placed_as h (length s)) (sym (run_then m k (drop i s) w.1 refl))

  pub then_goes : {B D : Type 0} (h : B → ℕ → D) → Leaves m → (j : Reader B) (n : ℕ) (r : Result D Blame) → Ok n ≡ read_at m s i → r ≡ read_as h j s n → r ≡ read_as h (m >> j) s i
  then_goes h leaves j n r e f = goes (λ a. j) h leaves n r e (λ a y. f)

  -- what is left is less
  pub read_less : Leaves m → ((x : Text) → Less x (m x)) → (n : ℕ) → Ok n ≡ read_at m s i → length s - n < length s - i
  read_less leaves less n e =
      let w = went leaves n e in
      let shorter : length (drop n s) < length (drop i s) = ok_got (subst (Accepts (λ a r. length r < length (drop i s))) w.1 (less (drop i s))) in
      omega (arith, length-drop i s, length-drop n s)

  -- a function of the value
  pub mapped : {B D : Type 0} (f : A → B) (h : B → ℕ → D) → read_as h (m >>= λ a. return (f a)) s i ≡ read_as (λ a n. h (f a) n) m s i
  unfolding read_as ◌>>=◌
  mapped {B} {D} f h = go (m (drop i s))
    where
      go : (x : Got A) → placed_as {A = B} {B = D} h (length s) (elim x as (λ y. Got B) [ got a r ↦ got (f a) r | fault d n ↦ fault d n ]) ≡ placed_as (λ a n. h (f a) n) (length s) x
      go (got a r) = refl
      go (fault d n) = refl

  -- what is made of an answer's value, as its place alone
  pub as_well : {B D : Type 0} (f : A → ℕ → B) (q : B → D) (b : B) → Ok b ≡ read_as f m s i → Ok (q b) ≡ read_as (λ a k. q (f a k)) m s i
  unfolding read_as
  as_well {B} {D} f q b e = go (m (drop i s)) refl
    where
      go : (x : Got A) → m (drop i s) ≡ x → Ok (q b) ≡ placed_as (λ a k. q (f a k)) (length s) (m (drop i s))
      go (got a r) h = rw h (ap (λ (y : B). fine (q y)) (same_value (e ∙ ap (placed_as f (length s)) h)))
      go (fault d k) h = absurd (not_both (e ∙ ap (placed_as f (length s)) h))

pub return_at : {A : Type 0} (a : A) (s : Text) (i : ℕ) → i ≤ length s → Ok i ≡ read_at (return a) s i
unfolding read_as
return_at a s i h = ap good (sym (place s i h))

-- ---- white space
pub white_goes : {B D : Type 0} (h : B → ℕ → D) (k : Reader B) (s : Text) (i n : ℕ) (r : Result D Blame) → drop n s ≡ after is_white (drop i s) → r ≡ read_as h k s n → r ≡ read_as h (white >> k) s i
unfolding read_as white ◌>>=◌
white_goes h k s i n r e f = f ∙ rw e

-- ---- a choice by what the text starts with, where the word was tried
word_starts : (l : ℕ) (w x : Text) → is_ok (placed_as (λ a n. n) l (word w x)) ≡ starts_with w x
unfolding word starts_with whether
word_starts l [] x = refl
word_starts l (b ∷ w) [] = refl
word_starts l (b ∷ w) (y ∷ x) = go (eqb b y) (word_starts l w x)
  where
    go : (t : Bool) → is_ok (placed_as (λ a n. n) l (word w x)) ≡ starts_with w x
        → is_ok (placed_as {A = Unit {0}} (λ a n. n) l (elim t as (λ z. Got (Unit {0})) [ true ↦ word w x | false ↦ fault malformed (length (y ∷ x)) ])) ≡ (t && starts_with w x)
    go true h = h
    go false h = refl

pub started_is : (w s : Text) (i : ℕ) (g : Result ℕ Blame) → g ≡ read_at (word w) s i → (t : Bool) → t ≡ is_ok g → t ≡ starts_with w (drop i s)
unfolding read_as
started_is w s i g e t f = f ∙ ap is_ok e ∙ word_starts (length s) w (drop i s)

module _ {A D : Type 0} (h : A → ℕ → D) (w : Text) (m k : Reader A) (s : Text) (i : ℕ) (r : Result D Blame) where
  pub choose_hit : (n : ℕ) → Ok n ≡ read_at (word w) s i → r ≡ read_as h m s i → r ≡ read_as h (choose w m k) s i
  unfolding read_as
  choose_hit n e f = f ∙ ap (placed_as h (length s)) (sym (run_true _ m k _ (sym (started_is w s i (Ok n) e true refl)) refl))

  pub choose_miss : (d : Blame) → Err d ≡ read_at (word w) s i → r ≡ read_as h k s i → r ≡ read_as h (choose w m k) s i
  unfolding read_as
  choose_miss d e f = f ∙ ap (placed_as h (length s)) (sym (run_false _ m k _ (sym (started_is w s i (Err d) e false refl)) refl))

-- whether the content is over
pub ends_word : (s : Text) (i : ℕ) (g : Result ℕ Blame) → i < length s → g ≡ read_at (word (60 ∷ 47 ∷ [])) s i → (t : Bool) → t ≡ is_ok g → t ≡ ends (drop i s)
unfolding ends
ends_word s i g l e t f = started_is (60 ∷ 47 ∷ []) s i g e t f ∙ rw (here s i l)

-- ---- loops
module _ {A B : Type 0} (more : Text → Bool) (read : Reader A) (start : B) (add : A → B → B)
    (none : more [] ≡ false) (less : (x : Text) → more x ≡ true → Less x (read x)) where
  module _ (s : Text) (i n : ℕ) (inv : read_at (many more read start add) s i ≡ read_at (many more read start add) s n) where
    pub loop_over : n ≤ length s → more (drop n s) ≡ false → Ok n ≡ read_at (many more read start add) s i
    unfolding read_as
    loop_over h e = sym (inv ∙ ap (placed_as (λ a k. k) (length s)) (many_step more read start add none less (drop n s) ∙ run_false _ _ _ _ e refl) ∙ ap good (place s n h))

    pub loop_stops : {C : Type 0} (f : A → ℕ → C) (d : Blame) → more (drop n s) ≡ true → Err d ≡ read_as f read s n → Err d ≡ read_at (many more read start add) s i
    unfolding read_as
    loop_stops f d e h =
        stops read s n (again more read start add none less (many more read start add)) f (λ a k. k) d h
        ∙ sym (inv ∙ ap (placed_as (λ a k. k) (length s)) (many_step more read start add none less (drop n s) ∙ run_true _ _ _ _ e refl))

    pub loop_turns : Leaves read → (k : ℕ) → more (drop n s) ≡ true → Ok k ≡ read_at read s n → read_at (many more read start add) s i ≡ read_at (many more read start add) s k
    unfolding read_as
    loop_turns leaves k e f =
        inv ∙ ap (placed_as (λ a j. j) (length s)) (many_step more read start add none less (drop n s) ∙ run_true _ _ _ _ e refl)
        ∙ sym (goes read s n (again more read start add none less (many more read start add)) (λ a j. j) leaves k _ f (λ a y. sym (mapped (many more read start add) s k (add a) (λ b j. j))))

-- ---- a value handed on
module _ {A : Type 0} (more : Text → Bool) (step : A → Reader A) (none : more [] ≡ false) (less : (a : A) (x : Text) → more x ≡ true → Less x (step a x))
    (s : Text) (i n : ℕ) (a b : A) (inv : walk more step a (drop i s) ≡ walk more step b (drop n s)) where
  -- its end, with that value
  pub walk_over : more (drop n s) ≡ false → walk more step a (drop i s) ≡ got b (drop n s)
  walk_over e = inv ∙ walk_ends more step none less b (drop n s) e

  -- a fault of a step is the walk's
  pub walk_stops : {C D : Type 0} (f : A → ℕ → C) (h : A → ℕ → D) (d : Blame) → more (drop n s) ≡ true → Err d ≡ read_as f (step b) s n → Err d ≡ read_as h (walk more step a) s i
  unfolding read_as
  walk_stops f h d e p =
      stops (step b) s n (walk more step) f h d p ∙ sym (ap (placed_as h (length s)) (inv ∙ walk_step more step none less b (drop n s) ∙ run_true _ _ _ _ e refl))

  -- a step more
  pub walk_turns : (c : A) (k : ℕ) → more (drop n s) ≡ true → step b (drop n s) ≡ got c (drop k s) → walk more step a (drop i s) ≡ walk more step c (drop k s)
  walk_turns c k e f = inv ∙ walk_goes more step none less b (drop n s) e f
