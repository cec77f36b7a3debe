-- What the readers of elements leave is an end of the text, and a node leaves less, however the records are kept.
use mathlib.Core.Path.{◌≡◌, refl, ap}
use mathlib.Core.Bool.{Bool}
use mathlib.Core.List.{[], ◌++◌}
use mathlib.Core.Option.{Option, none, some}
use Prim.Native.Nat.{ℕ, zero, suc, ◌≤◌}
use native.Mathlib.Omega.{arith}
use lib.ListN.{length, length-append}
use Rattle.text.specs.Texts.{Text}
use Rattle.documents.specs.Parts.{Fault, malformed, deep, unwanted, Got, got, fault, Reader, ◌>>=◌, return, fault_at, whether, blamed, walk, letter_of, comment, Opened, start_tag, second_tag, letters, trimmed}
use Rattle.documents.proofs.Steps.{Ok, accepted, refused, ok_map, ok_then, ok_whether, ok_blamed, walk_sound}
use Rattle.documents.proofs.Sound.{end_of, Opens, opens, start_tag_ok}
use Rattle.documents.proofs.Complete.{tag_some}
use Rattle.documents.proofs.Loops.{Less}
use Rattle.documents.proofs.Leaves.{Leaves, sound_leaves, leaves_then, shorter, letter_leaves, letter_less, comment_leaves, comment_less, start_tag_leaves, second_tag_leaves, letters_leaves}
use Rattle.listings.specs.Records.{Record}
use Rattle.portals.specs.Elements as Does
use Rattle.portals.specs.Elements.{Opening, Effect, sort_of, opening}
use Rattle.portals.specs.Records.{record_of}
use Rattle.portals.specs.Means.{may_stand}
use Rattle.portals.specs.Readings.{Keeping, Reached, reached, adding, doing, complete, closing, filling, telling, entering, sinking, straying, node_in, content_in, element_in}

-- ---- readers put together
leaves_return : {A : Type 0} (a : A) → Leaves (return a)
leaves_return a x = accepted ([], refl)

pub leaves_fault : {A : Type 0} (e : Fault) (n : ℕ) → Leaves (fault_at {A = A} e n)
leaves_fault e n x = refused

pub leaves_whether : {A : Type 0} (t : Bool) (m k : Reader A) → Leaves m → Leaves k → Leaves (whether t m k)
leaves_whether t m k h i x = ok_whether t m k x (λ e. h x) (λ e. i x)

pub leaves_blamed : {A : Type 0} (n : ℕ) (m : Reader A) → Leaves m → Leaves (blamed n m)
leaves_blamed n m h x = ok_blamed n m x (h x)

leaves_walk : {A : Type 0} (more : Text → Bool) (step : A → Reader A) → ((a : A) → Leaves (step a)) → (a : A) → Leaves (walk more step a)
leaves_walk more step h a =
    sound_leaves (walk_sound more step (λ a b u. Unit {0}) (λ a b u. Unit {0})
    (λ a s e. ok_map (h a s) (λ b r i. record { used = i.0; split = i.1; spelt = tt })) (λ a. tt) (λ a b c s t i j. tt) a)

less_then : {A B : Type 0} (m : Reader A) (k : A → Reader B) (x : Text) → Less x (m x) → ((a : A) → Leaves (k a)) → Less x ((m >>= k) x)
less_then m k x h f = ok_then m k x h (λ a r l. ok_map (f a r) (λ b t i. omega (arith, ap length i.1, length-append i.0 t)))

start_tag_less : (x : Text) → Less x (start_tag x)
start_tag_less x = shorter long x (start_tag_ok x)
  where
    long : (o : Opened) (u : Text) → Opens o u → 1 ≤ length u
    long o u (opens t h) = omega (arith, tag_some h, length-append t (end_of o.full))

-- ---- elements and contents
pub telling_leaves : (n : ℕ) (t : Opened) → Leaves (telling n t)
unfolding telling
telling_leaves n t =
    leaves_whether _ _ _ (leaves_then (letters n) _ (letters_leaves n) λ v. leaves_then (second_tag t.name) _ (second_tag_leaves t.name) λ u. leaves_return (trimmed v)) (leaves_return [])

module _ {R : Type 0} (K : Keeping R) where
  abbrev Contents : (ℕ → Reached R → Reader (Reached R)) → Type 0
  Contents C = (n : ℕ) (x : Reached R) → Leaves (C n x)

  pub adding_leaves : (n : ℕ) (r : Record) (x : R) → Leaves (adding K n r x)
  unfolding adding
  adding_leaves n r x s = go (K.breaks x r)
    where
      go : (o : Option Fault) → Ok {A = R} (λ a t. (u : Text) × (s ≡ u ++ t)) (elim o as (λ z. Got R) [ none ↦ got (K.adds x r) s | some f ↦ fault f n ])
      go none = accepted ([], refl)
      go (some f) = refused

  pub doing_leaves : (n : ℕ) (e : Effect) (x : R) → Leaves (doing K n e x)
  unfolding doing
  doing_leaves n Does.nothing x = leaves_return x
  doing_leaves n Does.guards x = leaves_return (K.guards x)
  doing_leaves n (Does.adds k v) x = adding_leaves n (record_of k v) x

  complete_leaves : (n : ℕ) (y : Reached R) → Leaves (complete n y)
  unfolding complete
  complete_leaves n y = leaves_whether _ _ _ (leaves_return y) (leaves_fault malformed n)

  closing_leaves : (n : Text) (y : Reached R) → Leaves (closing n y)
  unfolding closing
  closing_leaves n y s = leaves_then (second_tag n) _ (second_tag_leaves n) (λ u. complete_leaves (length s) y) s

  pub filling_leaves : (C : ℕ → Reached R → Reader (Reached R)) → Contents C → (n : ℕ) (t : Opened) (y : Reached R) → Leaves (filling C n t y)
  unfolding filling
  filling_leaves C h n t y = leaves_whether _ _ _ (leaves_then (C n y) _ (h n y) (λ z. closing_leaves t.name z)) (complete_leaves n y)

  entering_leaves : (C : ℕ → Reached R → Reader (Reached R)) → Contents C → (n : ℕ) (t : Opened) (x : Reached R) (o : Opening) → Leaves (entering K C n t x o)
  unfolding entering
  entering_leaves C h n t x Does.misplaced = leaves_fault malformed n
  entering_leaves C h n t x Does.refused = leaves_fault unwanted n
  entering_leaves C h n t x (Does.holds p f e) =
      leaves_whether _ _ _
      (leaves_then _ _ (doing_leaves n e x.kept) λ y. leaves_then _ _ (filling_leaves C h n t (reached f y)) λ z. leaves_return (reached p z.kept))
      (leaves_fault malformed n)
  entering_leaves C h n t x (Does.says p k) =
      leaves_then _ _ (telling_leaves n t) λ v. leaves_then _ _ (adding_leaves n (record_of k v) x.kept) λ y. leaves_return (reached p y)

  sinking_leaves : (n : ℕ) (o : Opening) → Leaves (sinking {R = R} n o)
  sinking_leaves n Does.misplaced = leaves_fault malformed n
  sinking_leaves n Does.refused = leaves_fault deep n
  sinking_leaves n (Does.holds p f e) = leaves_fault deep n
  sinking_leaves n (Does.says p k) = leaves_fault deep n

  stood_leaves : (n : ℕ) (x : Reached R) (b : ℕ) → Leaves (whether (may_stand x.phase b) (return x) (fault_at malformed n))
  stood_leaves n x b = leaves_whether _ _ _ (leaves_return x) (leaves_fault malformed n)

  node_leaves : (E : Reached R → Reader (Reached R)) → ((x : Reached R) → Leaves (E x)) → (n : ℕ) (x : Reached R) → Leaves (node_in E n x)
  unfolding node_in straying
  node_leaves E h n x s =
      ok_whether _ _ _ s (λ e. ok_whether _ _ _ s (λ i. leaves_then comment _ comment_leaves (λ u. leaves_return x) s) (λ i. h x s))
      (λ e. leaves_then (blamed n letter_of) _ (leaves_blamed n letter_of letter_leaves) (stood_leaves n x) s)

  content_leaves : (E : Reached R → Reader (Reached R)) → ((x : Reached R) → Leaves (E x)) → Contents (content_in E)
  unfolding content_in
  content_leaves E h n x = leaves_walk _ (node_in E n) (node_leaves E h n) x

  element_leaves : (d : ℕ) (x : Reached R) → Leaves (element_in K d x)
  unfolding element_in
  element_leaves zero x s = leaves_then start_tag _ start_tag_leaves (λ t. sinking_leaves (length s) (opening x.phase (sort_of t.name))) s
  element_leaves (suc d) x s =
      leaves_then start_tag _ start_tag_leaves (λ t. entering_leaves (content_in (element_in K d)) (content_leaves (element_in K d) (element_leaves d)) (length s) t x (opening x.phase (sort_of t.name))) s

  pub contents_leave : (d : ℕ) → Contents (content_in (element_in K d))
  contents_leave d = content_leaves (element_in K d) (element_leaves d)

  pub nodes_leave : (d n : ℕ) (x : Reached R) → Leaves (node_in (element_in K d) n x)
  nodes_leave d = node_leaves (element_in K d) (element_leaves d)

  element_less : (d : ℕ) (x : Reached R) (s : Text) → Less s (element_in K d x s)
  unfolding element_in
  element_less zero x s = less_then start_tag _ s (start_tag_less s) (λ t. sinking_leaves (length s) (opening x.phase (sort_of t.name)))
  element_less (suc d) x s =
      less_then start_tag _ s (start_tag_less s) (λ t. entering_leaves (content_in (element_in K d)) (contents_leave d) (length s) t x (opening x.phase (sort_of t.name)))

  pub node_less : (d n : ℕ) (x : Reached R) (s : Text) → Less s (node_in (element_in K d) n x s)
  unfolding node_in straying
  node_less d n x s =
      ok_whether _ _ _ s (λ e. ok_whether _ _ _ s (λ i. less_then comment _ s (comment_less s) (λ u. leaves_return x)) (λ i. element_less d x s))
      (λ e. less_then (blamed n letter_of) _ s (ok_blamed n letter_of s (letter_less s)) (stood_leaves n x))
