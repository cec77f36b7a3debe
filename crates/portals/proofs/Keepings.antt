-- Two ways to keep the records that are tied throughout: reading answers the same by both, the same fault at the same place, or what is kept is still tied.
use mathlib.Core.Path.{◌≡◌, refl, subst}
use mathlib.Core.Bool.{Bool, true, false, ◌||◌}
use mathlib.Core.List.{List, []}
use mathlib.Core.Option.{Option, none, some}
use Prim.Native.Nat.{ℕ, zero, suc}
use lib.ListN.{length}
use Rattle.text.specs.Texts.{Text, bytes, same}
use Rattle.documents.specs.Parts.{Fault, Got, got, fault, Reader, ◌>>=◌, whether, rounds, walk, Opened, start_tag, second_tag, order_mark, prolog, asides, ending}
use Rattle.listings.specs.Records.{Record}
use Rattle.portals.specs.Elements as Does
use Rattle.portals.specs.Elements.{Phase, Opening, misplaced, refused, holds, says, Effect, sort_of, opening, is_complete}
use Rattle.portals.specs.Records.{record_of}
use Rattle.portals.specs.Readings.{Keeping, listed, Reached, reached, adding, doing, complete, closing, filling, telling, entering, sinking, straying, node_in, content_in, element_in, root_of, kept_of, file_of}

-- ---- readers side by side
-- the same fault at the same place; or the same text is left, and what was read is tied by T
pub data Tied {A B : Type 0} (T : A → B → Type 0) : Got A → Got B → Type 0 where
  gets : {a : A} {b : B} {r : Text} → T a b → Tied T (got a r) (got b r)
  fails : {e : Fault} {n : ℕ} → Tied T (fault e n) (fault e n)

pub tied_then : {A B C D : Type 0} {T : A → B → Type 0} {S : C → D → Type 0} (m : Reader A) (m' : Reader B) (k : A → Reader C) (k' : B → Reader D) (s : Text)
    → Tied T (m s) (m' s) → ((a : A) (b : B) (r : Text) → T a b → Tied S (k a r) (k' b r)) → Tied S ((m >>= k) s) ((m' >>= k') s)
unfolding ◌>>=◌
tied_then {A} {B} {C} {D} {T = T} {S = S} m m' k k' s h f = go (m s) (m' s) h
  where
    go : (g : Got A) (g' : Got B) → Tied T g g' →
        Tied S (elim g as (λ x. Got C) [ got a r ↦ k a r | fault e n ↦ fault e n ]) (elim g' as (λ x. Got D) [ got a r ↦ k' a r | fault e n ↦ fault e n ])
    go g g' (gets {a = a} {b = b} {r = r} t) = f a b r t
    go g g' fails = fails

-- behind one and the same reader
pub tied_behind : {A C D : Type 0} {S : C → D → Type 0} (m : Reader A) (k : A → Reader C) (k' : A → Reader D) (s : Text)
    → ((a : A) (r : Text) → Tied S (k a r) (k' a r)) → Tied S ((m >>= k) s) ((m >>= k') s)
unfolding ◌>>=◌
tied_behind {A} {C} {D} {S = S} m k k' s f = go (m s)
  where
    go : (g : Got A) → Tied S (elim g as (λ x. Got C) [ got a r ↦ k a r | fault e n ↦ fault e n ]) (elim g as (λ x. Got D) [ got a r ↦ k' a r | fault e n ↦ fault e n ])
    go (got a r) = f a r
    go (fault e n) = fails

pub tied_whether : {A B : Type 0} {T : A → B → Type 0} (t : Bool) (m k : Reader A) (m' k' : Reader B) (s : Text)
    → Tied T (m s) (m' s) → Tied T (k s) (k' s) → Tied T (whether t m k s) (whether t m' k' s)
unfolding whether
tied_whether true m k m' k' s h i = h
tied_whether false m k m' k' s h i = i

module _ {A B : Type 0} (T : A → B → Type 0) (more : Text → Bool) (step : A → Reader A) (step' : B → Reader B)
    (one : (a : A) (b : B) (s : Text) → T a b → Tied T (step a s) (step' b s)) where
  tied_rounds : (f : ℕ) (a : A) (b : B) (s : Text) → T a b → Tied T (rounds more step f a s) (rounds more step' f b s)
  unfolding rounds
  tied_rounds zero a b s t = gets t
  tied_rounds (suc f) a b s t = tied_whether (more s) _ _ _ _ s (tied_then _ _ _ _ s (one a b s t) (λ c d r u. tied_rounds f c d r u)) (gets t)

  pub tied_walk : (a : A) (b : B) (s : Text) → T a b → Tied T (walk more step a s) (walk more step' b s)
  unfolding walk
  tied_walk a b s t = tied_rounds (length s) a b s t

-- ---- keepings side by side
-- what is kept in two ways is tied: they break the same rules, and adding and guarding keep the tie
pub record Alike {R R' : Type 0} (K : Keeping R) (K' : Keeping R') (T : R → R' → Type 0) : Type 0 where
  pub breaks : (x : R) (x' : R') (r : Record) → T x x' → K.breaks x r ≡ K'.breaks x' r
  pub adds : (x : R) (x' : R') (r : Record) → T x x' → K.breaks x r ≡ none → T (K.adds x r) (K'.adds x' r)
  pub guards : (x : R) (x' : R') → T x x' → T (K.guards x) (K'.guards x')

-- at the same phase, with what is kept tied
pub data Beside {R R' : Type 0} (T : R → R' → Type 0) : Reached R → Reached R' → Type 0 where
  beside : {p : Phase} {x : R} {x' : R'} → T x x' → Beside T (reached p x) (reached p x')

module _ {R R' : Type 0} (K : Keeping R) (K' : Keeping R') (T : R → R' → Type 0) (alike : Alike K K' T) where
  -- readers of an element, and of a content, side by side
  abbrev pub Elements : (Reached R → Reader (Reached R)) → (Reached R' → Reader (Reached R')) → Type 0
  Elements E E' = (x : Reached R) (x' : Reached R') (s : Text) → Beside T x x' → Tied (Beside T) (E x s) (E' x' s)

  abbrev pub Contents : (ℕ → Reached R → Reader (Reached R)) → (ℕ → Reached R' → Reader (Reached R')) → Type 0
  Contents C C' = (n : ℕ) (x : Reached R) (x' : Reached R') (s : Text) → Beside T x x' → Tied (Beside T) (C n x s) (C' n x' s)

  pub adding_tied : (n : ℕ) (r : Record) (x : R) (x' : R') (s : Text) → T x x' → Tied T (adding K n r x s) (adding K' n r x' s)
  unfolding adding
  adding_tied n r x x' s t = go (K.breaks x r) (K'.breaks x' r) (alike.breaks x x' r t) (alike.adds x x' r t)
    where
      go : (o o' : Option Fault) → o ≡ o' → (o ≡ none → T (K.adds x r) (K'.adds x' r)) →
          Tied T (elim o as (λ z. Got R) [ none ↦ got (K.adds x r) s | some f ↦ fault f n ]) (elim o' as (λ z. Got R') [ none ↦ got (K'.adds x' r) s | some f ↦ fault f n ])
      go none o' e h = subst (λ z. Tied T (got (K.adds x r) s) (elim z as (λ z. Got R') [ none ↦ got (K'.adds x' r) s | some f ↦ fault f n ])) e (gets (h refl))
      go (some f) o' e h = subst (λ z. Tied T (fault f n) (elim z as (λ z. Got R') [ none ↦ got (K'.adds x' r) s | some f ↦ fault f n ])) e fails

  pub doing_tied : (n : ℕ) (e : Effect) (x : R) (x' : R') (s : Text) → T x x' → Tied T (doing K n e x s) (doing K' n e x' s)
  unfolding doing
  doing_tied n Does.nothing x x' s t = gets t
  doing_tied n Does.guards x x' s t = gets (alike.guards x x' t)
  doing_tied n (Does.adds k v) x x' s t = adding_tied n (record_of k v) x x' s t

  complete_tied : (n : ℕ) (y : Reached R) (y' : Reached R') (s : Text) → Beside T y y' → Tied (Beside T) (complete n y s) (complete n y' s)
  unfolding complete
  complete_tied n y y' s (beside {p = p} t) = tied_whether (is_complete p) _ _ _ _ s (gets (beside t)) fails

  closing_tied : (n : Text) (y : Reached R) (y' : Reached R') (s : Text) → Beside T y y' → Tied (Beside T) (closing n y s) (closing n y' s)
  unfolding closing
  closing_tied n y y' s b = tied_behind (second_tag n) _ _ s (λ a r. complete_tied (length s) y y' r b)

  pub filling_tied : (C : ℕ → Reached R → Reader (Reached R)) (C' : ℕ → Reached R' → Reader (Reached R')) → Contents C C'
      → (n : ℕ) (t : Opened) (y : Reached R) (y' : Reached R') (s : Text) → Beside T y y' → Tied (Beside T) (filling C n t y s) (filling C' n t y' s)
  unfolding filling
  filling_tied C C' same n t y y' s b =
      tied_whether t.full _ _ _ _ s (tied_then _ _ _ _ s (same n y y' s b) (λ z z' r c. closing_tied t.name z z' r c)) (complete_tied n y y' s b)

  pub entering_tied : (C : ℕ → Reached R → Reader (Reached R)) (C' : ℕ → Reached R' → Reader (Reached R')) → Contents C C'
      → (n : ℕ) (t : Opened) (x : Reached R) (x' : Reached R') (o : Opening) (s : Text) → Beside T x x' → Tied (Beside T) (entering K C n t x o s) (entering K' C' n t x' o s)
  unfolding entering
  entering_tied C C' same n t x x' misplaced s b = fails
  entering_tied C C' same n t x x' refused s b = fails
  entering_tied C C' same n t x x' (holds p f e) s (beside {x = y} {x' = y'} u) =
      tied_whether (t.full || is_complete f) _ _ _ _ s
      (tied_then _ _ _ _ s (doing_tied n e y y' s u) λ z z' r v.
      tied_then _ _ _ _ r (filling_tied C C' same n t (reached f z) (reached f z') r (beside v)) λ w w' q c. back p w w' q c)
      fails
    where
      back : (p : Phase) (w : Reached R) (w' : Reached R') (q : Text) → Beside T w w' → Tied (Beside T) (got (reached p w.kept) q) (got (reached p w'.kept) q)
      back p w w' q (beside h) = gets (beside h)
  entering_tied C C' same n t x x' (says p k) s (beside {x = y} {x' = y'} u) =
      tied_behind (telling n t) _ _ s λ v r. tied_then _ _ _ _ r (adding_tied n (record_of k v) y y' r u) λ z z' q h. gets (beside h)

  sinking_tied : (n : ℕ) (o : Opening) (s : Text) → Tied (Beside T) (sinking n o s) (sinking n o s)
  sinking_tied n misplaced s = fails
  sinking_tied n refused s = fails
  sinking_tied n (holds p f e) s = fails
  sinking_tied n (says p k) s = fails

  straying_tied : (n : ℕ) (x : Reached R) (x' : Reached R') (s : Text) → Beside T x x' → Tied (Beside T) (straying n x s) (straying n x' s)
  unfolding straying
  straying_tied n x x' s (beside u) = tied_behind _ _ _ s (λ b r. tied_whether _ _ _ _ _ r (gets (beside u)) fails)

  pub node_tied : (E : Reached R → Reader (Reached R)) (E' : Reached R' → Reader (Reached R')) → Elements E E'
      → (n : ℕ) (x : Reached R) (x' : Reached R') (s : Text) → Beside T x x' → Tied (Beside T) (node_in E n x s) (node_in E' n x' s)
  unfolding node_in
  node_tied E E' same n x x' s b =
      tied_whether _ _ _ _ _ s (tied_whether _ _ _ _ _ s (tied_behind _ _ _ s (λ a r. gets b)) (same x x' s b)) (straying_tied n x x' s b)

  pub content_tied : (E : Reached R → Reader (Reached R)) (E' : Reached R' → Reader (Reached R')) → Elements E E' → Contents (content_in E) (content_in E')
  unfolding content_in
  content_tied E E' same n x x' s b = tied_walk (Beside T) _ (node_in E n) (node_in E' n) (λ y y' r c. node_tied E E' same n y y' r c) x x' s b

  pub element_tied : (d : ℕ) → Elements (element_in K d) (element_in K' d)
  unfolding element_in
  element_tied zero x x' s (beside {p = p} u) = tied_behind start_tag _ _ s (λ t r. sinking_tied (length s) (opening p (sort_of t.name)) r)
  element_tied (suc d) x x' s (beside {p = p} u) =
      tied_behind start_tag _ _ s
      (λ t r. entering_tied _ _ (content_tied (element_in K d) (element_in K' d) (element_tied d)) (length s) t _ _ (opening p (sort_of t.name)) r (beside {p = p} u))

  pub root_tied : (x : R) (x' : R') (s : Text) → T x x' → Tied (Beside T) (root_of K x s) (root_of K' x' s)
  unfolding root_of
  root_tied x x' s u =
      tied_behind start_tag _ _ s
      (λ t r. tied_whether (same t.name (bytes "web-app")) _ _ _ _ r
      (filling_tied _ _ (content_tied (element_in K 7) (element_in K' 7) (element_tied 7)) (length s) t _ _ r (beside u)) fails)

  -- of a whole file: the same fault at the same place, or what is kept is tied
  pub kept_tied : (x : R) (x' : R') (s : Text) → T x x' → Tied T (kept_of K x s) (kept_of K' x' s)
  unfolding kept_of
  kept_tied x x' s u =
      tied_behind order_mark _ _ s λ a₁ r₁. tied_behind prolog _ _ r₁ λ a₂ r₂. tied_behind asides _ _ r₂ λ a₃ r₃.
      tied_then _ _ _ _ r₃ (root_tied x x' r₃ u) λ y y' r₄ b. tied_behind asides _ _ r₄ λ a₅ r₅. tied_behind ending _ _ r₅ λ a₆ r₆. kept y y' r₆ b
    where
      kept : (y : Reached R) (y' : Reached R') (r : Text) → Beside T y y' → Tied T (got y.kept r) (got y'.kept r)
      kept y y' r (beside h) = gets h

-- beside the records themselves
pub file_tied : {R : Type 0} (K : Keeping R) (T : R → List Record → Type 0) → Alike K listed T → (x : R) (s : Text) → T x [] → Tied T (kept_of K x s) (file_of s)
unfolding file_of
file_tied K T alike x s u = kept_tied K listed T alike x [] s u
