-- The first caller whom new grants and old does not, by sets: it is where the trailing zeros of new minus old end.
use mathlib.Core.Path.{◌≡◌, refl, sym, ap, ◌∙◌}
use mathlib.Core.Bool.{Bool, true, false, not, cond}
use mathlib.Core.List.{List, [], ◌∷◌, map}
use mathlib.Core.Option.{Option, none, some}
use Prim.Native.Nat.{ℕ, zero, suc, ◌+◌, ◌-◌, ◌*◌, ◌/◌, ◌%◌, ◌≤◌}
use native.Mathlib.Omega.{arith}
use lib.ListN.{length, get_or, get_or-eq_default}
use lib.Dec.{eqb}
use borrow.Author.Tests.{ne_eqb, not-true}
use lib.Bits.{bit_and}
use lib.Count.{under, count_trailing_zeros}
use Rattle.text.specs.Texts.{Text, first}
use Rattle.entries.specs.Sets.{set_of}
use Rattle.text.proofs.Truths.{never, not_so, and_left, and_right, and_both}
use Rattle.entries.proofs.Digits.{set_none, set_and, set_not}
use Rattle.decisions.specs.Requests.{Caller, nobody, logged_in}
use Rattle.decisions.specs.Combining.{Access, closed, free, roles, any_of, has_role}
use Rattle.decisions.specs.Decisions.{answer_to, may}
use Rattle.trials.specs.Trials.{one, callers_with}
use Rattle.trials.specs.Loops.{is_fresh}
use Rattle.trials.proofs.Widenings.{denied_too}
use Rattle.grants.specs.Sides.{caller_at, everyone}
use Rattle.grants.proofs.Grantees.{grants_to, seen_by, one_may}

-- the first of the numbers below k that passes, or k
first_index : ℕ → (ℕ → Bool) → ℕ
first_index zero f = 0
first_index (suc k) f = cond (f 0) 0 (suc (first_index k (λ i. f (suc i))))

-- the trailing zeros of a set end at its first member
trailing_set : (k : ℕ) (f : ℕ → Bool) → count_trailing_zeros k (set_of k f) ≡ first_index k f
unfolding count_trailing_zeros set_of first_index
trailing_set zero f = refl
trailing_set (suc k) f = go (f 0) (set_of k (λ i. f (suc i))) (trailing_set k (λ i. f (suc i)))
  where
    go : (b : Bool) (x : ℕ) → count_trailing_zeros k x ≡ first_index k (λ i. f (suc i))
        → under ((cond b 1 0 + 2 * x) % 2) (count_trailing_zeros k ((cond b 1 0 + 2 * x) / 2)) ≡ cond b 0 (suc (first_index k (λ i. f (suc i))))
    go true x ih = let o : (1 + 2 * x) % 2 ≡ 1 = omega arith in rw o
    go false x ih =
        let e : (0 + 2 * x) % 2 ≡ 0 = omega arith in
        let h : (0 + 2 * x) / 2 ≡ x = omega arith in
        rw (e, h, ih)

-- a set whose members are each one higher is empty where it was
doubled : (x : ℕ) → eqb (0 + 2 * x) 0 ≡ eqb x 0
doubled zero = refl
doubled (suc x) = ne_eqb (0 + 2 * suc x) 0 (λ q. omega arith) ∙ sym (ne_eqb (suc x) 0 (λ q. omega arith))

-- ---- callers
-- of callers with one role each: the first index that passes is the first caller's who does, where no name does not
index_caller : (f : Caller → Bool) (ns : List Text) (k : ℕ) → length ns ≤ k → f (one []) ≡ false
    → cond (eqb (set_of k (λ i. f (one (get_or ns i [])))) 0) none (some (one (get_or ns (first_index k (λ i. f (one (get_or ns i [])))) []))) ≡ first f (map one ns)
unfolding set_of first_index first
index_caller f [] k h e = rw (set_none k (λ i. f (one (get_or [] i []))) (λ i. ap (λ (n : Text). f (one n)) (get_or-eq_default [] [] {n = i} (omega arith)) ∙ e))
index_caller f (n ∷ ns) zero h e = absurd (omega arith)
index_caller f (n ∷ ns) (suc k) h e = go (f (one n)) (index_caller f ns k (omega arith) e)
  where
    later : ℕ → Bool
    later i = f (one (get_or ns i []))

    go : (b : Bool) → cond (eqb (set_of k later) 0) none (some (one (get_or ns (first_index k later) []))) ≡ first f (map one ns)
        → cond (eqb (cond b 1 0 + 2 * set_of k later) 0) none (some (one (get_or (n ∷ ns) (cond b 0 (suc (first_index k later))) []))) ≡ cond b (some (one n)) (first f (map one ns))
    go true ih = rw (ne_eqb (1 + 2 * set_of k later) 0 (λ q. omega arith))
    go false ih = rw (doubled (set_of k later)) ih

module _ (ns : List Text) (few : length ns ≤ 32) where
  -- the first caller of the k first that passes
  abbrev caller_where : ℕ → (ℕ → Bool) → Option Caller
  caller_where k f = cond (eqb (set_of k f) 0) none (some (caller_at ns (first_index k f)))

  -- one who is not logged in does
  nobody_where : (k : ℕ) (f : ℕ → Bool) → f 0 ≡ true → caller_where (suc k) f ≡ some nobody
  unfolding set_of first_index
  nobody_where k f e = rw (e, ne_eqb (1 + 2 * set_of k (λ i. f (suc i))) 0 (λ q. omega arith))

  -- he does not, nor one without a role: the first with a role that does
  one_where : (k : ℕ) (f : ℕ → Bool) → f 0 ≡ false → f 1 ≡ false
      → caller_where (suc (suc k)) f ≡ cond (eqb (set_of k (λ i. f (suc (suc i)))) 0) none (some (one (get_or ns (first_index k (λ i. f (suc (suc i)))) [])))
  unfolding set_of first_index
  one_where k f e d = rw (e, doubled (cond (f 1) 1 0 + 2 * set_of k (λ i. f (suc (suc i)))), d, doubled (set_of k (λ i. f (suc (suc i)))))

  -- so it is the first of the callers, where those without a role and with no name pass only beside one who is not logged in
  caller_first : (f : Caller → Bool) → (f (logged_in []) ≡ true → f nobody ≡ true) → (f (one []) ≡ true → f nobody ≡ true)
      → caller_where 64 (λ i. f (caller_at ns i)) ≡ first f (callers_with ns)
  unfolding first
  caller_first f h k = go (f nobody) refl
    where
      go : (b : Bool) → f nobody ≡ b → caller_where 64 (λ i. f (caller_at ns i)) ≡ cond b (some nobody) (first f (map one ns))
      go true e = nobody_where 63 (λ i. f (caller_at ns i)) e
      go false e =
          one_where 62 (λ i. f (caller_at ns i)) e (not_so (f (logged_in [])) (λ q. never (f nobody) (h q) e))
          ∙ index_caller f ns 62 (omega arith) (not_so (f (one [])) (λ q. never (f nobody) (k q) e))

  -- ---- whom the one grants and the other does not
  module _ (a b : Access) where
    callers_fresh : bit_and (seen_by ns a) (everyone - seen_by ns b) ≡ set_of 64 (λ i. is_fresh b a (caller_at ns i))
    unfolding is_fresh
    callers_fresh = ap (bit_and (seen_by ns a)) (set_not 64 (grants_to ns b)) ∙ set_and 64 (grants_to ns a) (λ i. not (grants_to ns b i))

    -- one who is not logged in is so, where another is and the one grants him too: old denies him, since a grant is never lost
    nobody_fresh : (c : Caller) → (may a c ≡ true → may a nobody ≡ true) → is_fresh b a c ≡ true → is_fresh b a nobody ≡ true
    unfolding is_fresh
    nobody_fresh c h e =
        and_both (may a nobody) (not (may b nobody)) (h (and_left (may a c) (not (may b c)) e))
        (ap not (denied_too b c nobody tt (not-true (may b c) (and_right (may a c) (not (may b c)) e))))

  -- who grants one without a role, or with no name, grants one who is not logged in
  without_role : (a : Access) → may a (logged_in []) ≡ true → may a nobody ≡ true
  unfolding answer_to any_of
  without_role closed h = h
  without_role free h = refl
  without_role (roles f) h = absurd (never false h refl)

  without_name : (a : Access) → has_role a [] ≡ false → may a (one []) ≡ true → may a nobody ≡ true
  unfolding answer_to
  without_name closed e h = h
  without_name free e h = refl
  without_name (roles f) e h = absurd (never (f []) (sym (one_may f []) ∙ h) e)

  -- the first of them is where the trailing zeros end
  pub caller_by_sets : (a b : Access) → has_role a [] ≡ false → (x : ℕ) → x ≡ bit_and (seen_by ns a) (everyone - seen_by ns b)
      → cond (eqb x 0) none (some (caller_at ns (count_trailing_zeros 64 x))) ≡ first (is_fresh b a) (callers_with ns)
  caller_by_sets a b unnamed x e =
      ap (λ (y : ℕ). cond (eqb y 0) none (some (caller_at ns (count_trailing_zeros 64 y)))) (e ∙ callers_fresh a b)
      ∙ ap (λ (i : ℕ). cond (eqb (set_of 64 f) 0) none (some (caller_at ns i))) (trailing_set 64 f)
      ∙ caller_first (is_fresh b a) (nobody_fresh a b (logged_in []) (without_role a)) (nobody_fresh a b (one []) (without_name a unnamed))
    where
      f : ℕ → Bool
      f i = is_fresh b a (caller_at ns i)
