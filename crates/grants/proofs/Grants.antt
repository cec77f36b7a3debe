-- What two best lines come to: the first trial method and the first caller that the tables of numbers give are those that the listings do.
use mathlib.Core.Path.{◌≡◌, refl, sym, ap, ap₂, subst, ◌∙◌}
use mathlib.Core.Bool.{Bool, true, false, cond}
use mathlib.Core.List.{List, []}
use mathlib.Core.Option.{none, some, map}
use Prim.Native.Nat.{ℕ, zero, suc, ◌+◌, ◌-◌, ◌≤◌, ◌<◌}
use native.Mathlib.Omega.{arith}
use lib.ListN.{length, get_or, drop}
use lib.Dec.{eqb}
use lib.Bits.{bit_and}
use lib.Count.{count_trailing_zeros}
use Rattle.text.specs.Texts.{Text, first, index_of}
use Rattle.listings.specs.Listings.{Listing, patterns_of}
use Rattle.names.specs.Names.{is_role_name}
use Rattle.listings.specs.Propers.{Proper}
use Rattle.reading.specs.Views.{view_of}
use Rattle.reading.proofs.Viewings.{roles_of_lem, methods_of}
use Rattle.decisions.specs.Matching.{best}
use Rattle.decisions.specs.Requests.{Caller, Request, request}
use Rattle.decisions.specs.Combining.{has_role}
use Rattle.decisions.specs.Decisions.{combined_for}
use Rattle.text.proofs.Truths.{never, not_so}
use Rattle.trials.specs.Trials.{callers_with, trial_methods}
use Rattle.trials.specs.Loops.{first_some, is_fresh, shown_at}
use Rattle.grants.specs.Sides.{everyone, caller_at, best_in, grants_in, roster_in, SideOf, PairsOf, Ready}
use Rattle.grants.specs.Catches.{shown_on, fresh_in, some_catch, caught_from, caught_in, caught_on}
use Rattle.grants.proofs.Stores.{listed_at}
use Rattle.decisions.proofs.Takings.{role_named}
use Rattle.grants.proofs.Grantees.{seen_by, grants_at_best}
use Rattle.grants.proofs.FreshRoles.{caller_by_sets}
use Rattle.trials.proofs.Turns.{turn_found, turn_on, turn_ends}
use Rattle.text.proofs.Indices.{index_bound}

-- the roster of a path's best line says whom the listing grants
roster_at : (ns : List Text) → length ns ≤ 32 → (l : Listing) → Proper l → (side : List ℕ) → SideOf ns (view_of l) side → (p m : Text) (a : ℕ) → a ≡ best_in l p
    → get_or (roster_in side (length (patterns_of l)) a) (index_of m l.methods) 0 ≡ seen_by ns (combined_for l p m)
unfolding roster_in
roster_at ns few l P side S p m a e =
    listed_at 32 (grants_in side (length (patterns_of l)) a) (index_of m l.methods) (omega (arith, index_bound m l.methods, P.few_methods))
    ∙ grants_at_best ns few l P side S p m a e

module _ (old new : Listing) (O : Proper old) (N : Proper new) (so sn pairs : List ℕ) (count : ℕ) (R : Ready (view_of old) (view_of new) so sn pairs count)
    (p : Text) (u v : ℕ) (in_old_lem : u ≡ best_in old p) (in_new_lem : v ≡ best_in new p) where
  abbrev ro : List ℕ
  ro = roster_in so (length (patterns_of old)) u

  abbrev rn : List ℕ
  rn = roster_in sn (length (patterns_of new)) v

  -- what is made ready of the listings' views, by the listings
  side_old : SideOf new.roles (view_of old) so
  side_old = subst (λ (ns : List Text). SideOf ns (view_of old) so) (roles_of_lem new) R.old_side_lem

  side_new : SideOf new.roles (view_of new) sn
  side_new = subst (λ (ns : List Text). SideOf ns (view_of new) sn) (roles_of_lem new) R.new_side_lem

  paired : PairsOf old.methods new.methods pairs count
  paired = rw (methods_of old, methods_of new) at R.methods

  counted : count ≡ length (trial_methods old new)
  unfolding trial_methods
  counted = paired.all

  -- trial method i, and a request for it
  abbrev method : ℕ → Text
  method i = get_or (trial_methods old new) i []

  abbrev asking : ℕ → Caller → Request
  asking i c = request p (method i) c

  -- the callers whom new grants and old does not
  fresh_at : (i : ℕ) → i < count
      → fresh_in ro rn pairs i ≡ bit_and (seen_by new.roles (combined_for new p (method i))) (everyone - seen_by new.roles (combined_for old p (method i)))
  unfolding trial_methods
  fresh_at i h =
      ap₂ (λ (x y : ℕ). bit_and (get_or rn x 0) (everyone - get_or ro y 0)) (paired.news i h) (paired.olds i h)
      ∙ ap₂ (λ (x y : ℕ). bit_and x (everyone - y))
      (roster_at new.roles N.few_roles new N sn side_new p (method i) v in_new_lem)
      (roster_at new.roles N.few_roles old O so side_old p (method i) u in_old_lem)

  -- the first of them
  abbrev caller : ℕ → Caller
  caller i = caller_at new.roles (count_trailing_zeros 64 (fresh_in ro rn pairs i))

  -- no role has no byte
  nameless : (m : Text) → has_role (combined_for new p m) [] ≡ false
  unfolding combined_for is_role_name
  nameless m = not_so (has_role (combined_for new p m) []) (λ h. never (is_role_name []) (N.good_roles [] (role_named new N m [] (best (patterns_of new) p) h)) refl)

  -- is the caller to show
  caller_at_lem : (i : ℕ) → i < count
      → cond (eqb (fresh_in ro rn pairs i) 0) none (some (caller i)) ≡ first (is_fresh (combined_for old p (method i)) (combined_for new p (method i))) (callers_with new.roles)
  caller_at_lem i h =
      caller_by_sets new.roles N.few_roles (combined_for new p (method i)) (combined_for old p (method i)) (nameless (method i)) (fresh_in ro rn pairs i) (fresh_at i h)

  -- so it gives the request to show
  request_at : (i : ℕ) → i < count → shown_at old new p (method i) ≡ cond (eqb (fresh_in ro rn pairs i) 0) none (some (asking i (caller i)))
  unfolding shown_at
  request_at i h = ap (map (asking i)) (sym (caller_at_lem i h)) ∙ go (eqb (fresh_in ro rn pairs i) 0)
    where
      go : (x : Bool) → map (asking i) (cond x none (some (caller i))) ≡ cond x none (some (asking i (caller i)))
      go true = refl
      go false = refl

  -- method after method
  caught_from_lem : (k i : ℕ) → k + i ≡ count → caught_on old new p (caught_from ro rn pairs k i) ≡ first_some (shown_at old new p) (drop i (trial_methods old new))
  unfolding caught_from
  caught_from_lem zero i e = sym (turn_ends (shown_at old new p) (trial_methods old new) i (omega (arith, counted)))
  caught_from_lem (suc k) i e = go (eqb (fresh_in ro rn pairs i) 0) refl (caught_from_lem k (i + 1) (omega arith))
    where
      go : (x : Bool) → eqb (fresh_in ro rn pairs i) 0 ≡ x → caught_on old new p (caught_from ro rn pairs k (i + 1)) ≡ first_some (shown_at old new p) (drop (i + 1) (trial_methods old new))
          → caught_on old new p (cond x (caught_from ro rn pairs k (i + 1)) (some_catch i (count_trailing_zeros 64 (fresh_in ro rn pairs i)))) ≡ first_some (shown_at old new p) (drop i (trial_methods old new))
      go true q ih = ih ∙ sym (turn_on (shown_at old new p) (trial_methods old new) i [] (omega (arith, counted)) (request_at i (omega arith) ∙ rw q))
      go false q ih = sym (turn_found (shown_at old new p) (trial_methods old new) i [] _ (omega (arith, counted)) (request_at i (omega arith) ∙ rw q))

  -- the request that the best lines of a path come to is the one to show for the path
  pub caught_at_lem : caught_on old new p (caught_in so (length (patterns_of old)) sn (length (patterns_of new)) pairs count u v) ≡ shown_on old new p
  unfolding caught_in shown_on
  caught_at_lem = caught_from_lem count 0 (omega arith)
