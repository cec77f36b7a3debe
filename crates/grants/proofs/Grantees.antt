-- At the best line of a path the table of a side grants whom the listing grants there.
use mathlib.Core.Path.{◌≡◌, refl, sym, ap, ◌∙◌}
use mathlib.Core.Bool.{Bool, true, false, not, cond, ◌&&◌, or-false}
use mathlib.Core.List.{List, [], ◌∷◌}
use mathlib.Core.Option.{none, some}
use Prim.Native.Nat.{ℕ, zero, suc, ◌+◌, ◌-◌, ◌*◌, ◌%◌, ◌^◌, ◌≤◌, ◌<◌}
use native.Mathlib.Nat.{zero-add, suc-add, pow-suc, mod-eq_of_lt}
use native.Mathlib.Numerals.{add-one}
use native.Mathlib.Omega.{arith}
use native.Mathlib.Decide.{dec_lt}
use lib.ListN.{length, get_or, get_or-eq_default}
use lib.Dec.{eqb, ltb}
use borrow.Author.Tests.{lt-ltb, le-ltb, eqb-false}
use Rattle.text.specs.Texts.{Text, member, index_of}
use Rattle.names.specs.Names.{is_role_name}
use Rattle.listings.specs.Listings.{Listing, patterns_of}
use Rattle.listings.specs.Propers.{Proper}
use Rattle.entries.specs.Sets.{set_of, digit}
use Rattle.reading.specs.Views.{view_of}
use Rattle.text.proofs.Truths.{never, not_so}
use Rattle.text.proofs.Indices.{index_member, index_here}
use Rattle.entries.proofs.Digits.{set_same, set_none, digit_set}
use Rattle.reading.proofs.Viewings.{texts_of_lem}
use Rattle.decisions.specs.Matching.{best}
use Rattle.decisions.specs.Combining.{Access, closed, free, roles, any_of}
use Rattle.decisions.specs.Decisions.{nothing_taken, combined_at, combined_for, answer_to, may}
use Rattle.decisions.specs.Gatherings.{gathered}
use Rattle.decisions.proofs.Gatherings.{gathered_combined}
use Rattle.decisions.proofs.Promises.{roles_grant}
use Rattle.deciding.specs.Joinings.{joined_up_to}
use Rattle.matching.specs.Strengths.{leading, best_line}
use Rattle.deciding.specs.declared.joining.Joined.{Joined}
use Rattle.matching.specs.declared.Leading.{Leading}
use Rattle.matching.proofs.Strengths.{leads, best_line_some, best_line_none}
use Rattle.deciding.proofs.Joins.{Shows, Listed, agree_all, roles_that}
use Rattle.trials.specs.Trials.{one}
use Rattle.grants.specs.Sides.{best_in, caller_at, everyone, renumbered, grantees_of, seen_joined, SideOf, grants_in}
use Rattle.grants.proofs.Chains.{along_first, leader_first}

-- ---- whom an access grants, by the callers' numbers
abbrev pub grants_to : List Text → Access → ℕ → Bool
grants_to ns a i = may a (caller_at ns i)

-- as a set
abbrev pub seen_by : List Text → Access → ℕ
seen_by ns a = set_of 64 (grants_to ns a)

-- ---- sets
-- a set of numbers below k is below 2 ^ k
set_below : (k : ℕ) (f : ℕ → Bool) → set_of k f < 2 ^ k
unfolding set_of
set_below zero f = omega arith
set_below (suc k) f = go (f 0) (set_below k (λ i. f (suc i)))
  where
    go : (b : Bool) → set_of k (λ i. f (suc i)) < 2 ^ k → cond b 1 0 + 2 * set_of k (λ i. f (suc i)) < 2 ^ suc k
    go true h = omega (arith, pow-suc 2 k)
    go false h = omega (arith, pow-suc 2 k)

-- no member from k on
set_more : (k j : ℕ) (f : ℕ → Bool) → ((i : ℕ) → k ≤ i → f i ≡ false) → set_of (k + j) f ≡ set_of k f
unfolding set_of
set_more zero j f h = ap (λ (n : ℕ). set_of n f) (zero-add j) ∙ set_none j f (λ i. h i (omega arith))
set_more (suc k) j f h = ap (λ (n : ℕ). set_of n f) (suc-add k j) ∙ ap (λ (x : ℕ). cond (f 0) 1 0 + 2 * x) (set_more k j (λ i. f (suc i)) (λ i q. h (suc i) (omega arith)))

-- a set in the numbers of ns is below 2 ^ their number
pub renumbered_below : (ns os : List Text) → length ns ≤ 32 → (x : ℕ) → renumbered ns os x < 2 ^ length ns
unfolding renumbered
renumbered_below ns os h x =
    let e : length ns + (32 - length ns) ≡ 32 = omega arith in
    let z : set_of 32 test ≡ set_of (length ns) test =
    ap (λ (k : ℕ). set_of k test) (sym e) ∙ set_more (length ns) (32 - length ns) test (λ i l. rw (le-ltb i (length ns) l)) in
    omega (arith, set_below (length ns) test)
  where
    test : ℕ → Bool
    test i = ltb i (length ns) && (ltb (index_of (get_or ns i []) os) (length os) && eqb (digit (index_of (get_or ns i []) os) x) 1)

-- each member one higher
set_shift : (k : ℕ) (f : ℕ → Bool) → f 0 ≡ false → set_of (suc k) f ≡ 2 * set_of k (λ i. f (suc i))
unfolding set_of
set_shift k f e = rw (e, zero-add)

-- ---- so are the callers whom roles admit two higher than the roles
-- one role is admitted where the roles have it
pub one_may : (f : Text → Bool) (n : Text) → may (roles f) (one n) ≡ f n
unfolding any_of
one_may f n = roles_grant f (n ∷ []) ∙ or-false (f n)

-- one who is not logged in, or has no role, is not admitted
two_lower : (f : Text → Bool) → (may (roles f) (caller_at [] 0) ≡ false) × (may (roles f) (caller_at [] 1) ≡ false)
unfolding answer_to any_of
two_lower f = (refl, refl)

seen_roles : (ns : List Text) (f : Text → Bool) → length ns ≤ 32 → f [] ≡ false → 4 * set_of 32 (λ i. ltb i (length ns) && f (get_or ns i [])) ≡ seen_by ns (roles f)
seen_roles ns f h e =
    sym (set_shift 63 (grants_to ns (roles f)) (two_lower f).0
    ∙ ap (λ (x : ℕ). 2 * x) (set_shift 62 (λ i. grants_to ns (roles f) (suc i)) (two_lower f).1
    ∙ ap (λ (x : ℕ). 2 * x) (set_same 62 (λ i. grants_to ns (roles f) (suc (suc i))) test (λ i k. at i (dec_lt i (length ns)))
    ∙ set_more 32 30 test (λ i j. rw (le-ltb i (length ns) (omega arith)))))
    ∙ four (set_of 32 test))
  where
    test : ℕ → Bool
    test i = ltb i (length ns) && f (get_or ns i [])

    four : (x : ℕ) → 2 * (2 * x) ≡ 4 * x
    four x = omega arith

    at : (i : ℕ) → Dec (i < length ns) → may (roles f) (one (get_or ns i [])) ≡ test i
    at i (yes l) = one_may f (get_or ns i []) ∙ sym (ap (λ (b : Bool). b && f (get_or ns i [])) (lt-ltb i (length ns) l))
    at i (no l) =
        one_may f (get_or ns i []) ∙ ap f (get_or-eq_default ns [] {n = i} (omega arith)) ∙ e
        ∙ sym (ap (λ (b : Bool). b && f (get_or ns i [])) (le-ltb i (length ns) (omega arith)))

-- all callers, and none
seen_free : (ns : List Text) → everyone ≡ seen_by ns free
unfolding set_of answer_to
seen_free ns = refl

seen_closed : (ns : List Text) → 0 ≡ seen_by ns closed
unfolding set_of answer_to
seen_closed ns = refl

-- ---- what is joined
module _ (ns : List Text) (few : length ns ≤ 32) (l : Listing) (P : Proper l) where
  -- a set of the listing's roles in the numbers of ns
  abbrev has : ℕ → Text → Bool
  has x n = ltb (index_of n l.roles) (length l.roles) && eqb (digit (index_of n l.roles) x) 1

  renumbered_is : (x : ℕ) → renumbered ns l.roles x ≡ set_of 32 (λ i. ltb i (length ns) && has x (get_or ns i []))
  unfolding renumbered
  renumbered_is x = refl

  -- a role is one of those that pass where it passes
  has_role_lem : (f : Text → Bool) → Listed l f → (n : Text) → has (roles_that l f) n ≡ f n
  has_role_lem f listed n = go (dec_lt (index_of n l.roles) (length l.roles))
    where
      one : (b : Bool) → eqb (cond b 1 0) 1 ≡ b
      one true = refl
      one false = refl

      go : Dec (index_of n l.roles < length l.roles) → has (roles_that l f) n ≡ f n
      go (yes h) =
          rw (
            lt-ltb (index_of n l.roles) (length l.roles) h,
            digit_set 32 (λ i. ltb i (length l.roles) && f (get_or l.roles i [])) (index_of n l.roles) (omega (arith, P.few_roles)),
            lt-ltb (index_of n l.roles) (length l.roles) h,
            index_here n l.roles h,
          ) (one (f n))
      go (no h) =
          let e : ltb (index_of n l.roles) (length l.roles) ≡ false = le-ltb (index_of n l.roles) (length l.roles) (omega arith) in
          rw e (sym (not_so (f n) (λ q. never (member n l.roles) (listed n q) (sym (index_member n l.roles) ∙ e))))

  -- no role has no byte
  nameless : (f : Text → Bool) → Listed l f → f [] ≡ false
  unfolding is_role_name
  nameless f listed = not_so (f []) (λ q. never (is_role_name []) (P.good_roles [] (listed [] q)) refl)

  -- the roles joined are those that pass
  roles_joined : (f : Text → Bool) → Listed l f → 4 * (renumbered ns l.roles (roles_that l f) % 4294967296) ≡ seen_by ns (roles f)
  roles_joined f listed =
      ap (λ (x : ℕ). 4 * (x % 4294967296)) (renumbered_is (roles_that l f) ∙ set_same 32 _ test (λ i h. ap (λ (b : Bool). ltb i (length ns) && b) (has_role_lem f listed (get_or ns i []))))
      ∙ ap (λ (x : ℕ). 4 * x) (mod-eq_of_lt (set_below 32 test))
      ∙ seen_roles ns f few (nameless f listed)
    where
      test : ℕ → Bool
      test i = ltb i (length ns) && f (get_or ns i [])

  -- what is joined grants whom that which it shows does
  shows_grants : (j : Joined) (a : Access) → Shows l j a
      → cond j.closed 0 (cond j.free everyone (4 * (renumbered ns l.roles j.roles % 4294967296))) ≡ seen_by ns a
  shows_grants j closed s = rw s (seen_closed ns)
  shows_grants j free s = rw (s.0, s.1) (seen_free ns)
  shows_grants j (roles f) s = rw (s.0, s.1, s.2) (roles_joined f s.3)

  -- so it grants whom the constraints taken grant
  grantees_at_lem : (t m : Text) → grantees_of (seen_joined ns (view_of l) (joined_up_to (view_of l) t (index_of m l.methods) (length (patterns_of l)))) ≡ seen_by ns (combined_at l (some t) m)
  unfolding grantees_of view_of
  grantees_at_lem t m = let A = agree_all l P t m in rw (A.0, gathered_combined l t m) (go (gathered l t m).any A.1)
    where
      j : Joined
      j = joined_up_to (view_of l) t (index_of m l.methods) (length (patterns_of l))

      go : (b : Bool) → Shows l j (gathered l t m).sum
          → cond (not b) everyone (cond j.closed 0 (cond j.free everyone (4 * (renumbered ns l.roles j.roles % 4294967296))))
          ≡ seen_by ns (cond b (gathered l t m).sum nothing_taken)
      go true s = shows_grants j (gathered l t m).sum s
      go false s = seen_free ns

  -- ---- at the best line of a path the table grants whom the listing grants
  module _ (side : List ℕ) (S : SideOf ns (view_of l) side) (p m : Text) where
    abbrev x : Leading
    x = leading (patterns_of l) p

    by_best : (b : Bool) → eqb x.most 0 ≡ b
        → grants_in side (length (patterns_of l)) (cond b 0 (x.at + 1)) (index_of m l.methods) ≡ seen_by ns (combined_at l (best (patterns_of l) p) m)
    unfolding grants_in combined_at best_line
    by_best true e =
        let b : best (patterns_of l) p ≡ none = (best_line_none (patterns_of l) p P.short_patterns).0 (rw e) in
        rw b (seen_free ns)
    by_best false e =
        let b : best (patterns_of l) p ≡ some (get_or (patterns_of l) x.at []) = best_line_some (patterns_of l) p P.short_patterns x.at (rw e) in
        let n = eqb-false x.most 0 e in
        let along = rw (texts_of_lem l) at (along_first ns (view_of l) side S (get_or (patterns_of l) x.at []) (index_of m l.methods) x.at) in
        rw (add-one x.at, b)
        (ap grantees_of (along ((leads (patterns_of l) p).leader (omega arith)).0 refl (leader_first (patterns_of l) p (omega arith)))
        ∙ grantees_at_lem (get_or (patterns_of l) x.at []) m)

    pub grants_at_best : (a : ℕ) → a ≡ best_in l p → grants_in side (length (patterns_of l)) a (index_of m l.methods) ≡ seen_by ns (combined_for l p m)
    unfolding best_in combined_for
    grants_at_best a e = rw e (by_best (eqb x.most 0) refl)
