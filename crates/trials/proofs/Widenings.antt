-- A request that widens has a trial that widens.
use mathlib.Core.Path.{◌≡◌, refl, sym, ap, subst, ◌∙◌}
use mathlib.Core.Bool.{Bool, true, false, not, or-false}
use mathlib.Core.List.Memᴰ
use mathlib.Core.List.{List, [], ◌∷◌, ◌++◌, Memᴰ}
use mathlib.Core.Logic.{◌↔◌}
use mathlib.Core.Option.{Option}
use borrow.Author.Tests.{not-true}
use Rattle.text.specs.Texts.{Text, member}
use Rattle.listings.specs.Listings.{Listing, patterns_of}
use Rattle.listings.specs.Propers.{Proper}
use Rattle.text.proofs.Truths.{never, not_so, and_left, and_right, and_both}
use Rattle.names.proofs.Plainly.{member_plain}
use Rattle.listings.proofs.Lines.{flat_in, flat_of}
use Rattle.decisions.specs.Matching.{best}
use Rattle.decisions.specs.Paths.{dropped}
use Rattle.decisions.specs.Requests.{Caller, nobody, logged_in, Extends, Request, request}
use Rattle.decisions.specs.Combining.{Access, closed, free, roles, any_of, has_role}
use Rattle.decisions.specs.Decisions.{combined_at, combined_for, answer_to, decide, is_grant, may}
use Rattle.decisions.proofs.Anys.{any_plain}
use Rattle.decisions.proofs.Takings.{role_named}
use Rattle.decisions.proofs.Unnamed.{unnamed_alike}
use Rattle.decisions.proofs.Droppings.{dropped_rooted}
use Rattle.decisions.proofs.Promises.{roles_grant, access_keeps}
use Rattle.trials.specs.Fillers.{filler_method, filler_of}
use Rattle.trials.specs.Trials.{joined, trial_paths, methods_tried, trial_methods, one, callers_with, trial_names, trial_callers, at_method, at_path, trials}
use Rattle.trials.specs.Verdicts.{Widening, widens}
use Rattle.trials.proofs.StandIns.{rooted, trial_path}
use Rattle.trials.proofs.Alikes.{best_alike}
use Rattle.trials.proofs.Choices.{joined_first, joined_second}
use Rattle.trials.proofs.Bounds.{filler_of_fills, unnamed_in_both, trial_path_kept}

-- ---- what is found to widen is what widens
pub widens_plain : (old new : Listing) (r : Request) → (widens old new r ≡ true) ↔ Widening old new r
unfolding widens
widens_plain old new r = (
  λ w. record {
    granted = and_left (is_grant (decide new r)) (not (is_grant (decide old r))) w;
    denied = not-true (is_grant (decide old r)) (and_right (is_grant (decide new r)) (not (is_grant (decide old r))) w);
  },
  λ W. and_both (is_grant (decide new r)) (not (is_grant (decide old r))) W.granted (ap not W.denied),
)

-- ---- callers: for one who is granted anew stands in one who is not logged in, or has one role alone
-- one role is admitted where the roles have it
one_may : (f : Text → Bool) (n : Text) → may (roles f) (one n) ≡ f n
unfolding any_of
one_may f n = roles_grant f (n ∷ []) ∙ or-false (f n)

-- x stands in for c by an access: one of those that are tried with the names, who may, and c has all the roles that x has
pub record StandsFor (a : Access) (ns : List Text) (c x : Caller) : Type 0 where
  pub listed : Memᴰ x (callers_with ns)
  pub may_too : may a x ≡ true
  pub below : Extends x c

-- whoever may has one who stands in
pub caller_for : (a : Access) (ns : List Text) → ((n : Text) → has_role a n ≡ true → Memᴰ n ns) → (c : Caller) → may a c ≡ true → (x : Caller) × StandsFor a ns c x
unfolding answer_to
caller_for closed ns known c h = absurd (never false h refl)
caller_for free ns known c h = (nobody, record { listed = Memᴰ.head refl; may_too = refl; below = tt })
caller_for (roles f) ns known nobody h = absurd (never false h refl)
caller_for (roles f) ns known (logged_in ms) h =
    let r = (any_plain f ms).0 (sym (roles_grant f ms) ∙ h) in (
      one r.0,
      record {
        listed = Memᴰ.tail (Memᴰ.map one (known r.0 r.2));
        may_too = one_may f r.0 ∙ r.2;
        below = λ n i. subst (λ (x : Text). Memᴰ x ms) (sym (Memᴰ.eq_of_singleton i)) r.1;
      },
    )

-- what is denied to c is denied to x: a grant is never lost
pub denied_too : (a : Access) (c x : Caller) → Extends x c → may a c ≡ false → may a x ≡ false
denied_too a c x s h = not_so (may a x) (λ g. never (may a c) (access_keeps a x c s g) h)

-- ---- the trials are the requests whose parts are
-- the parts of a trial
pub record Trial (old new : Listing) (r : Request) : Type 0 where
  pub path_in : Memᴰ r.path (trial_paths old new)
  pub method_in : Memᴰ r.method (trial_methods old new)
  pub caller_in_lem : Memᴰ r.caller (trial_callers old new)

module _ (old new : Listing) (r : Request) where
  abbrev Cs : List Caller
  Cs = trial_callers old new

  abbrev Ms : List Text
  Ms = trial_methods old new

  pub trial_parts : Memᴰ r (trials old new) → Trial old new r
  unfolding trials
  trial_parts i =
      let p = flat_of (at_path Cs Ms) (trial_paths old new) r i in
      let m = flat_of (at_method Cs p.0) Ms r p.2 in
      let c = Memᴰ.of_map (request p.0 m.0) Cs m.2 in
      rw (← c.2) (record { path_in = p.1; method_in = m.1; caller_in_lem = c.1 })

  pub parts_trial : Trial old new r → Memᴰ r (trials old new)
  unfolding trials
  parts_trial T =
      flat_in (at_path Cs Ms) r T.path_in
      (flat_in (at_method Cs r.path) r T.method_in (Memᴰ.map (request r.path r.method) T.caller_in_lem))

-- ---- every request that widens has a trial that does
module _ (old new : Listing) (O : Proper old) (N : Proper new) where
  -- a trial path with the same best match in both listings
  path_for : (path : Text) → rooted path
      → (x : Text) × Memᴰ x (trial_paths old new) × (best (patterns_of new) x ≡ best (patterns_of new) path) × (best (patterns_of old) x ≡ best (patterns_of old) path)
  unfolding trial_paths
  path_for path s =
      let r = trial_path (filler_of old new) (patterns_of new ++ patterns_of old) (filler_of_fills old new O N) path s in (
        r.0,
        r.1,
        best_alike (patterns_of new) r.0 path (λ t m. r.2 t (Memᴰ.append_left (patterns_of old) m)),
        best_alike (patterns_of old) r.0 path (λ t m. r.2 t (Memᴰ.append_right (patterns_of new) m)),
      )

  -- x and q come to the same
  abbrev Like : Listing → Text → Text → Type 0
  Like l x q = (b : Option Text) → combined_at l b x ≡ combined_at l b q

  -- the method itself, or the filler method
  method_for : (q : Text) → (x : Text) × Memᴰ x (trial_methods old new) × Like new x q × Like old x q
  unfolding trial_methods methods_tried
  method_for q = go (member q new.methods) (member q old.methods) refl refl
    where
      f : Text
      f = filler_method (new.methods ++ old.methods)

      unnamed : (member f new.methods ≡ false) × (member f old.methods ≡ false)
      unnamed = unnamed_in_both old.methods new.methods O.few_methods N.few_methods

      itself : Memᴰ q (joined new.methods old.methods) → (x : Text) × Memᴰ x (joined new.methods old.methods ++ f ∷ []) × Like new x q × Like old x q
      itself i = (q, Memᴰ.append_left (f ∷ []) i, λ b. refl, λ b. refl)

      go : (a b : Bool) → member q new.methods ≡ a → member q old.methods ≡ b
          → (x : Text) × Memᴰ x (joined new.methods old.methods ++ f ∷ []) × Like new x q × Like old x q
      go true b d e = itself (joined_first q new.methods old.methods ((member_plain q new.methods).0 d))
      go false true d e = itself (joined_second q new.methods old.methods ((member_plain q old.methods).0 e))
      go false false d e = (
        f,
        Memᴰ.append_right (joined new.methods old.methods) (Memᴰ.head refl),
        unnamed_alike f q new N unnamed.0 d,
        unnamed_alike f q old O unnamed.1 e,
      )

  -- a trial path, which is decided on as it is, and a trial method to which both listings come as to the path and the method
  abbrev BothLike : Text → Text → Text → Text → Type 0
  BothLike x y path m = (combined_for new (dropped x) y ≡ combined_for new path m) × (combined_for old (dropped x) y ≡ combined_for old path m)

  stand_in_for : (path m : Text) → rooted path → (x : Text) × (y : Text) × Memᴰ x (trial_paths old new) × Memᴰ y (trial_methods old new) × BothLike x y path m
  unfolding combined_for
  stand_in_for path m s =
      let P = path_for path s in
      let M = method_for m in
      let k = (trial_path_kept old new O N P.0 P.1).1 in
      let at : (l : Listing) → best (patterns_of l) P.0 ≡ best (patterns_of l) path → Like l M.0 m → combined_at l (best (patterns_of l) (dropped P.0)) M.0 ≡ combined_at l (best (patterns_of l) path) m
      = λ l e h. ap (λ (x : Text). combined_at l (best (patterns_of l) x) M.0) k ∙ ap (λ (b : Option Text). combined_at l b M.0) e ∙ h (best (patterns_of l) path) in
      (P.0, M.0, P.1, M.1, (at new P.2 M.2, at old P.3 M.3))

  -- for the path as received the stand-in is sought of the one without parameters
  pub trial_for : (r : Request) → rooted r.path → Widening old new r → (x : Request) × Memᴰ x (trials old new) × Widening old new x
  unfolding decide combined_for trial_callers trial_names
  trial_for r s W =
      let P = stand_in_for (dropped r.path) r.method (dropped_rooted r.path s) in
      let a : Access = combined_for new (dropped P.0) P.1 in
      let b : Access = combined_for old (dropped P.0) P.1 in
      let granted : may a r.caller ≡ true = rw P.4.0 W.granted in
      let denied : may b r.caller ≡ false = rw P.4.1 W.denied in
      let C =
      caller_for a (trial_names old new)
      (λ n h. joined_first n new.roles old.roles ((member_plain n new.roles).0 (role_named new N P.1 n (best (patterns_of new) (dropped P.0)) h)))
      r.caller granted in
      let x : Request = request P.0 P.1 C.0 in (
        x,
        parts_trial old new x (record { path_in = P.2; method_in = P.3; caller_in_lem = C.1.listed }),
        record { granted = C.1.may_too; denied = denied_too b r.caller C.0 C.1.below denied },
      )
