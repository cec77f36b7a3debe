-- The order of the rules, and the first rule that is broken: laws that say nothing of how a listing is read.
use mathlib.Core.Path.{◌≡◌, refl, sym, ap, ◌∙◌}
use mathlib.Core.Bool.{Bool, true, false, cond, ◌&&◌, ◌||◌}
use mathlib.Core.List.{List, [], ◌∷◌}
use mathlib.Core.Option.{Option, none, some}
use mathlib.Core.Logic.{◌⊎◌, inl, inr}
use Prim.Native.Nat.{ℕ, suc, ◌≤◌, ◌<◌}
use native.Mathlib.Omega.{arith}
use lib.Dec.{eqb, ltb}
use borrow.Author.Tests.{ltb-true, ltb-false, eqb-true, eqb-false}
use Rattle.text.specs.Texts.{first}
use Rattle.listings.specs.Refusals.{Reading, accepted, refusal}
use Rattle.listings.specs.Rules.{order_of, is_earlier}
use Rattle.listings.specs.declared.answers.Fault.{Fault}
use Rattle.listings.specs.declared.answers.Fault.TheVariants.{LongListing, BadFirstLine, BadForm, WrongPlace, BadName, BadPattern, RoleTwice, PastMost, NoEnd}
use Rattle.text.proofs.Truths.{never, not_so, or_left, or_right}

-- ---- the order of the rules
-- the rule at an index of the order
abbrev rule_at : ℕ → Fault
rule_at n =
    cond (eqb n 0) LongListing
    (cond (eqb n 1) BadFirstLine
    (cond (eqb n 2) BadForm
    (cond (eqb n 3) WrongPlace
    (cond (eqb n 4) BadName
    (cond (eqb n 5) BadPattern
    (cond (eqb n 6) RoleTwice
    (cond (eqb n 7) PastMost NoEnd)))))))

rule_at_lem : (f : Fault) → rule_at (order_of f) ≡ f
rule_at_lem LongListing = refl
rule_at_lem BadFirstLine = refl
rule_at_lem BadForm = refl
rule_at_lem WrongPlace = refl
rule_at_lem BadName = refl
rule_at_lem BadPattern = refl
rule_at_lem RoleTwice = refl
rule_at_lem PastMost = refl
rule_at_lem NoEnd = refl

-- no two rules have the same index
pub one_rule : (f g : Fault) → order_of f ≡ order_of g → f ≡ g
one_rule f g e = sym (rule_at_lem f) ∙ ap rule_at e ∙ rule_at_lem g

-- what comes earlier is on a line above, or on the same line and before it in the rules' order
earlier_how : (a b c d : ℕ) → ltb a c || (eqb a c && ltb b d) ≡ true → (a < c) ⊎ ((a ≡ c) × (b < d))
earlier_how a b c d h = go (ltb a c) (eqb a c) (ltb b d) refl refl refl h
  where
    go : (x y z : Bool) → ltb a c ≡ x → eqb a c ≡ y → ltb b d ≡ z → x || (y && z) ≡ true → (a < c) ⊎ ((a ≡ c) × (b < d))
    go true y z p q r e = inl (ltb-true a c p)
    go false true true p q r e = inr (eqb-true a c q, ltb-true b d r)
    go false true false p q r e = absurd (never false e refl)
    go false false z p q r e = absurd (never false e refl)

-- nothing else is earlier
not_earlier : (a b c d : ℕ) → ltb a c || (eqb a c && ltb b d) ≡ false → (c < a) ⊎ ((a ≡ c) × (d ≤ b))
not_earlier a b c d h = go (eqb a c) refl (ltb-false a c (or_left (ltb a c) (eqb a c && ltb b d) h)) (or_right (ltb a c) (eqb a c && ltb b d) h)
  where
    go : (y : Bool) → eqb a c ≡ y → c ≤ a → y && ltb b d ≡ false → (c < a) ⊎ ((a ≡ c) × (d ≤ b))
    go true q l e = inr (eqb-true a c q, ltb-false b d e)
    go false q l e = let n = eqb-false a c q in inl (omega arith)

-- of two rules at two lines one is earlier, unless they are one rule at one line
either_earlier : (f g : Fault) (m n : ℕ) → is_earlier f m g n ≡ false → is_earlier g n f m ≡ false → refusal f m ≡ refusal g n
either_earlier f g m n h i = go (not_earlier m (order_of f) n (order_of g) h) (not_earlier n (order_of g) m (order_of f) i)
  where
    go : (n < m) ⊎ ((m ≡ n) × (order_of g ≤ order_of f)) → (m < n) ⊎ ((n ≡ m) × (order_of f ≤ order_of g)) → refusal f m ≡ refusal g n
    go (inl x) (inl y) = absurd (omega arith)
    go (inl x) (inr y) = absurd (omega arith)
    go (inr x) (inl y) = absurd (omega arith)
    go (inr x) (inr y) = let e : m ≡ n = x.0 in rw (one_rule f g (omega arith), e)

-- ---- the first rule that is broken
-- the answer is the first broken rule and its line, or accepted where no rule is broken
abbrev pub IsFirst : (Fault → ℕ → Bool) → Reading → Type 0
IsFirst broken accepted = (f : Fault) (n : ℕ) → broken f n ≡ false
IsFirst broken (refusal f n) = (broken f n ≡ true) × ((g : Fault) (m : ℕ) → is_earlier g m f n ≡ true → broken g m ≡ false)

module _ (broken : Fault → ℕ → Bool) where
  -- one answer alone is the first
  pub first_one : (r q : Reading) → IsFirst broken r → IsFirst broken q → r ≡ q
  first_one accepted accepted a b = refl
  first_one accepted (refusal g n) a b = absurd (never (broken g n) b.0 (a g n))
  first_one (refusal f m) accepted a b = absurd (never (broken f m) a.0 (b f m))
  first_one (refusal f m) (refusal g n) a b =
      either_earlier f g m n (not_so _ (λ e. never (broken f m) a.0 (b.1 f m e))) (not_so _ (λ e. never (broken g n) b.0 (a.1 g n e)))

  -- a rule is the first where it is broken, none on the lines above, and none before it on its line
  pub first_at : (f : Fault) (n : ℕ) → broken f n ≡ true → ((g : Fault) (m : ℕ) → m < n → broken g m ≡ false)
      → ((g : Fault) → order_of g < order_of f → broken g n ≡ false) → IsFirst broken (refusal f n)
  first_at f n here above before = (here, λ g m e. go g m (earlier_how m (order_of g) n (order_of f) e))
    where
      go : (g : Fault) (m : ℕ) → (m < n) ⊎ ((m ≡ n) × (order_of g < order_of f)) → broken g m ≡ false
      go g m (inl l) = above g m l
      go g m (inr l) = rw l.0 (before g l.1)

  -- the same rules broken, the same answer is the first
  pub first_same : (others : Fault → ℕ → Bool) (r : Reading) → ((f : Fault) (n : ℕ) → broken f n ≡ others f n) → IsFirst others r → IsFirst broken r
  first_same others accepted e a = λ f n. e f n ∙ a f n
  first_same others (refusal f n) e a = (e f n ∙ a.0, λ g m h. e g m ∙ a.1 g m h)

-- ---- the first that passes, of rules that stand in order
-- the indices of the rules are k, k + 1, .., up to but not e
abbrev Counted : ℕ → ℕ → List Fault → Type 0
Counted k e [] = k ≡ e
Counted k e (f ∷ fs) = (order_of f ≡ k) × Counted (suc k) e fs

module _ (test : Fault → Bool) where
  -- no rule before index k passes
  abbrev pub Clear : ℕ → Type 0
  Clear k = (g : Fault) → order_of g < k → test g ≡ false

  -- one index more
  clear_more : (f : Fault) → test f ≡ false → Clear (order_of f) → Clear (suc (order_of f))
  clear_more f e c g l = go (eqb (order_of g) (order_of f)) refl
    where
      go : (b : Bool) → eqb (order_of g) (order_of f) ≡ b → test g ≡ false
      go true q = rw (one_rule g f (eqb-true (order_of g) (order_of f) q)) e
      go false q = let n = eqb-false (order_of g) (order_of f) q in c g (omega arith)

  -- the first that passes, with none before it that does; or none before index e
  abbrev pub FoundFirst : ℕ → Option Fault → Type 0
  FoundFirst e none = Clear e
  FoundFirst e (some f) = (test f ≡ true) × Clear (order_of f)

  pub found_first : (k e : ℕ) (fs : List Fault) → Counted k e fs → Clear k → FoundFirst e (first test fs)
  unfolding first
  found_first k e [] d c = rw (← d) c
  found_first k e (f ∷ fs) d c = go (test f) refl (found_first (suc k) e fs d.1)
    where
      clear : Clear (order_of f)
      clear = rw d.0 c

      go : (b : Bool) → test f ≡ b → (Clear (suc k) → FoundFirst e (first test fs)) → FoundFirst e (cond b (some f) (first test fs))
      go true q rest = (q, clear)
      go false q rest = rest (rw (← d.0) (clear_more f q clear))
