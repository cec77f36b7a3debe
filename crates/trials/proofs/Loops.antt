-- The loops find the verdict: for each trial path, for each trial method, the first caller by whom each listing admits there.
use mathlib.Core.Path.{◌≡◌, refl, ap, ap₂, fun_ext, ◌∙◌}
use mathlib.Core.Bool.{Bool, true, false, not, cond}
use mathlib.Core.List.{List, [], ◌∷◌, ◌++◌, map, flat_map, map-append, Memᴰ}
use mathlib.Core.Option
use mathlib.Core.Option.{Option, none, some}
use borrow.Author.Tests.{not-true}
use Rattle.text.specs.Texts.{Text, first}
use Rattle.listings.specs.Listings.{Listing, patterns_of}
use Rattle.listings.specs.Propers.{Proper}
use Rattle.text.proofs.Truths.{never, not_so, and_left, and_right, and_both}
use Rattle.names.proofs.Plainly.{member_plain}
use Rattle.decisions.specs.Matching.{best}
use Rattle.decisions.specs.Paths.{dropped}
use Rattle.decisions.specs.Requests.{Caller, request}
use Rattle.decisions.specs.Combining.{Access, has_role}
use Rattle.decisions.specs.Decisions.{combined_for, decide, may}
use Rattle.decisions.proofs.Takings.{role_named}
use Rattle.trials.specs.Trials.{joined, further, callers_with, one, trial_names, trial_callers, trial_methods, trial_paths, at_method, at_path, trials}
use Rattle.trials.specs.Verdicts.{widens, verdict}
use Rattle.trials.specs.Loops.{or_else, first_some, is_fresh, shown_at, shown}
use Rattle.trials.proofs.Choices.{first_none, none_first}
use Rattle.trials.proofs.Bounds.{trial_path_kept}
use Rattle.trials.proofs.Widenings.{StandsFor, caller_for, denied_too}

-- ---- the first that passes, of lists made of others
first_append : {A : Type 0} (test : A → Bool) (xs ys : List A) → first test (xs ++ ys) ≡ or_else (first test xs) (first test ys)
unfolding first
first_append test [] ys = refl
first_append {A} test (x ∷ xs) ys = go (test x) (first_append test xs ys)
  where
    go : (b : Bool) → first test (xs ++ ys) ≡ or_else (first test xs) (first test ys)
        → cond b (some x) (first test (xs ++ ys)) ≡ or_else (cond b (some x) (first test xs)) (first test ys)
    go true ih = refl
    go false ih = ih

first_flat : {A B : Type 0} (test : B → Bool) (g : A → List B) (xs : List A) → first test (flat_map g xs) ≡ first_some (λ (x : A). first test (g x)) xs
unfolding flat_map first_some first
first_flat test g [] = refl
first_flat {A} {B} test g (x ∷ xs) = first_append test (g x) (flat_map g xs) ∙ go (first test (g x)) (first_flat test g xs)
  where
    go : (o : Option B) → first test (flat_map g xs) ≡ first_some (λ (y : A). first test (g y)) xs
        → or_else o (first test (flat_map g xs)) ≡ elim o [ none ↦ first_some (λ (y : A). first test (g y)) xs | some b ↦ some b ]
    go none ih = ih
    go (some b) ih = refl

first_map : {A B : Type 0} (test : B → Bool) (g : A → B) (xs : List A) → first test (map g xs) ≡ Option.map g (first (λ (x : A). test (g x)) xs)
unfolding first
first_map test g [] = refl
first_map {A} {B} test g (x ∷ xs) = go (test (g x)) (first_map test g xs)
  where
    go : (b : Bool) → first test (map g xs) ≡ Option.map g (first (λ (y : A). test (g y)) xs)
        → cond b (some (g x)) (first test (map g xs)) ≡ Option.map g (cond b (some x) (first (λ (y : A). test (g y)) xs))
    go true ih = refl
    go false ih = ih

-- answers that are the same for each of a list
some_alike_in : {A B : Type 0} (f g : A → Option B) (xs : List A) → ((x : A) → Memᴰ x xs → f x ≡ g x) → first_some f xs ≡ first_some g xs
unfolding first_some
some_alike_in f g [] h = refl
some_alike_in {A} {B} f g (x ∷ xs) h =
    ap₂ (λ (o : Option B) (r : Option B). elim o [ none ↦ r | some b ↦ some b ]) (h x (Memᴰ.head refl)) (some_alike_in f g xs (λ y i. h y (Memᴰ.tail i)))

-- and for each of all
some_alike : {A B : Type 0} (f g : A → Option B) → ((x : A) → f x ≡ g x) → (xs : List A) → first_some f xs ≡ first_some g xs
some_alike f g h xs = ap (λ (k : _ → Option _). first_some k xs) (fun_ext h)

-- what stands behind a list, where none of it passes that none before it does, is no matter
first_front : {A : Type 0} (test : A → Bool) (xs ys : List A) → (first test xs ≡ none → first test ys ≡ none) → first test (xs ++ ys) ≡ first test xs
first_front {A} test xs ys h = first_append test xs ys ∙ go (first test xs) refl
  where
    go : (o : Option A) → first test xs ≡ o → or_else o (first test ys) ≡ o
    go none e = h e
    go (some x) e = refl

-- ---- names that only old has are never shown: who has one and is granted anew has one before him who stands in
fresh_too : (a b : Access) (c x : Caller) (ns : List Text) → StandsFor a ns c x → is_fresh b a c ≡ true → is_fresh b a x ≡ true
unfolding is_fresh
fresh_too a b c x ns S h =
    and_both (may a x) (not (may b x)) S.may_too
    (ap not (denied_too b c x S.below (not-true (may b c) (and_right (may a c) (not (may b c)) h))))

names_of_new : (a b : Access) (ns os : List Text) → ((n : Text) → has_role a n ≡ true → Memᴰ n ns) → first (is_fresh b a) (callers_with (ns ++ os)) ≡ first (is_fresh b a) (callers_with ns)
unfolding is_fresh
names_of_new a b ns os known =
    ap (λ (cs : List Caller). first (is_fresh b a) (callers_with [] ++ cs)) (map-append one ns os)
    ∙ first_front (is_fresh b a) (callers_with ns) (map one os) (λ e. none_first (is_fresh b a) (map one os) (λ c i. not_so (is_fresh b a c) (λ h. found e c h)))
  where
    found : first (is_fresh b a) (callers_with ns) ≡ none → (c : Caller) → is_fresh b a c ≡ true → ⊥
    found e c h =
        let S = caller_for a ns known c (and_left (may a c) _ h) in
        never (is_fresh b a S.0) (fresh_too a b c S.0 ns S.1 h) (first_none (is_fresh b a) (callers_with ns) e S.0 S.1.listed)

-- ---- the verdict
module _ (old new : Listing) (O : Proper old) (N : Proper new) where
  -- of a path that is decided on as it is
  at_shown : (p m : Text) → dropped p ≡ p → first (widens old new) (at_method (trial_callers old new) p m) ≡ shown_at old new p m
  unfolding widens decide is_fresh shown_at trial_callers trial_names joined combined_for
  at_shown p m e =
      first_map (widens old new) (request p m) (trial_callers old new)
      ∙ ap (Option.map (request p m)) (names_of_new (combined_for new (dropped p) m) (combined_for old (dropped p) m) new.roles (further new.roles old.roles) named)
      ∙ ap (λ (q : Text). Option.map (request p m) (first (is_fresh (combined_for old q m) (combined_for new q m)) (callers_with new.roles))) e
    where
      named : (n : Text) → has_role (combined_for new (dropped p) m) n ≡ true → Memᴰ n new.roles
      named n h = (member_plain n new.roles).0 (role_named new N m n (best (patterns_of new) (dropped p)) h)

  path_shown : (p : Text) → dropped p ≡ p
      → first (widens old new) (at_path (trial_callers old new) (trial_methods old new) p) ≡ first_some (λ (m : Text). shown_at old new p m) (trial_methods old new)
  path_shown p e = first_flat (widens old new) (at_method (trial_callers old new) p) (trial_methods old new) ∙ some_alike _ _ (λ m. at_shown p m e) (trial_methods old new)

  -- as every trial path is
  pub verdict_shown : verdict old new ≡ shown old new
  unfolding verdict trials shown
  verdict_shown =
      first_flat (widens old new) (at_path (trial_callers old new) (trial_methods old new)) (trial_paths old new)
      ∙ some_alike_in _ _ (trial_paths old new) (λ p i. path_shown p (trial_path_kept old new O N p i).1)
