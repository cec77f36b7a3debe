-- Reading line by line: its answer is the first of the rules that the lines break, each by the records before it.
use mathlib.Core.Path.{◌≡◌, refl, sym, ◌∙◌}
use mathlib.Core.Bool.{Bool, true, false, cond, not, ◌&&◌, ◌||◌, and-false, or-false, or_assoc}
use mathlib.Core.List.{List, [], ◌∷◌, ◌++◌}
use mathlib.Core.Option.{Option, none, some}
use Prim.Native.Nat.{ℕ, suc, ◌≤◌, ◌<◌}
use native.Mathlib.Omega.{arith}
use lib.Dec.{eqb}
use borrow.Author.Tests.{eq-eqb, ne_eqb, eqb-true}
use Rattle.text.specs.Lines.{Line}
use Rattle.listings.specs.Records.{Record, formed, is_kind}
use Rattle.listings.specs.Refusals.{Reading, refusal, breaks, in_order, first_broken, after_end, read_from}
use Rattle.listings.specs.Listings.{records_in}
use Rattle.listings.specs.Rules.{is_ended, order_of}
use Rattle.listings.specs.declared.records.Kind.TheVariants.{End}
use Rattle.listings.specs.declared.answers.Fault.{Fault}
use Rattle.listings.specs.declared.answers.Fault.TheVariants.{LongListing, BadFirstLine, BadForm, WrongPlace, BadName, BadPattern, RoleTwice, PastMost, NoEnd}
use Rattle.text.proofs.Truths.{never, not_so}
use Rattle.listings.proofs.Lineups.{IsFirst, first_at, first_same, Clear, FoundFirst, found_first}

-- ---- the rules that a line breaks
-- f is rule g
abbrev pub is_rule : Fault → Fault → Bool
is_rule g f = eqb (order_of f) (order_of g)

-- what the line of that record breaks, by the records before it: where it has no record, 4 alone
abbrev pub says_wrong : List Record → Option Record → Fault → Bool
says_wrong before none f = is_rule BadForm f
says_wrong before (some r) f = breaks before r f

-- what a line breaks, by the records before it: behind `end`, 10 alone
abbrev pub line_breaks : List Record → Line → Fault → Bool
line_breaks before l f = cond (is_ended before) (is_rule NoEnd f) (says_wrong before (formed l) f)

-- what is broken where no line stands: 10 where no `end` was before, and at the line after the last alone
abbrev pub lack_breaks : List Record → Bool → Fault → Bool
lack_breaks before isNext f = isNext && (is_rule NoEnd f && not (is_ended before))

-- what is broken at line m, where the lines ls begin at line n, behind those records
unfoldable pub broken_from : List Record → ℕ → List Line → Fault → ℕ → Bool
unfolding is_ended breaks formed records_in
broken_from before n [] f m = lack_breaks before (eqb m n) f
broken_from before n (l ∷ ls) f m = cond (eqb m n) (line_breaks before l f) (broken_from (before ++ records_in (l ∷ [])) (suc n) ls f m)

-- nothing is broken above the lines
pub from_above : (before : List Record) (n : ℕ) (ls : List Line) (f : Fault) (m : ℕ) → m < n → broken_from before n ls f m ≡ false
unfolding broken_from
from_above before n [] f m h = rw (ne_eqb m n (λ e. omega arith))
from_above before n (l ∷ ls) f m h = rw (ne_eqb m n (λ e. omega arith)) (from_above (before ++ records_in (l ∷ [])) (suc n) ls f m (omega arith))

-- what the first of the lines breaks
from_here : (before : List Record) (n : ℕ) (l : Line) (ls : List Line) (f : Fault) → broken_from before n (l ∷ ls) f n ≡ line_breaks before l f
unfolding broken_from
from_here before n l ls f = rw (eq-eqb n n refl)

-- what the lines break, where their first breaks nothing
from_next : (before : List Record) (n : ℕ) (l : Line) (ls : List Line) → ((f : Fault) → line_breaks before l f ≡ false)
    → (f : Fault) (m : ℕ) → broken_from before n (l ∷ ls) f m ≡ broken_from (before ++ records_in (l ∷ [])) (suc n) ls f m
unfolding broken_from
from_next before n l ls h f m = go (eqb m n) refl
  where
    rest : Bool
    rest = broken_from (before ++ records_in (l ∷ [])) (suc n) ls f m

    go : (b : Bool) → eqb m n ≡ b → cond b (line_breaks before l f) rest ≡ rest
    go true e = let i = eqb-true m n e in h f ∙ sym (from_above (before ++ records_in (l ∷ [])) (suc n) ls f m (omega arith))
    go false e = refl

-- ---- reading finds the first
-- rule f is the first, where the first of the lines breaks it and none before it in the order
first_here : (before : List Record) (n : ℕ) (l : Line) (ls : List Line) (f : Fault) → line_breaks before l f ≡ true → Clear (line_breaks before l) (order_of f)
    → IsFirst (broken_from before n (l ∷ ls)) (refusal f n)
first_here before n l ls f h c =
    first_at (broken_from before n (l ∷ ls)) f n (from_here before n l ls f ∙ h) (from_above before n (l ∷ ls)) (λ g e. from_here before n l ls g ∙ c g e)

-- where one rule alone is broken, none is before it in the order
one_broken : (f : Fault) → (is_rule f f ≡ true) × Clear (is_rule f) (order_of f)
one_broken f = (eq-eqb (order_of f) (order_of f) refl, λ g l. ne_eqb (order_of g) (order_of f) (λ e. omega arith))

-- behind `end` the first is 10 at the next line, where there is one
first_ended : (before : List Record) (n : ℕ) (ls : List Line) → is_ended before ≡ true → IsFirst (broken_from before n ls) (after_end n ls)
unfolding broken_from
first_ended before n [] e = λ f m. rw (e, and-false, and-false)
first_ended before n (l ∷ ls) e = first_here before n l ls NoEnd (rw e) (λ g h. rw e ((one_broken NoEnd).1 g h))

-- a record breaks only the rules of `in_order`
pub record_rules : (before : List Record) (r : Record) (f : Fault) → breaks before r f ≡ true → (3 ≤ order_of f) × (order_of f < 8)
unfolding breaks
record_rules before r LongListing e = absurd (never false e refl)
record_rules before r BadFirstLine e = absurd (never false e refl)
record_rules before r BadForm e = absurd (never false e refl)
record_rules before r WrongPlace e = omega arith
record_rules before r BadName e = omega arith
record_rules before r BadPattern e = omega arith
record_rules before r RoleTwice e = omega arith
record_rules before r PastMost e = omega arith
record_rules before r NoEnd e = absurd (never false e refl)

-- the first rule that a record breaks, or none
first_broken_lem : (before : List Record) (r : Record) → FoundFirst (breaks before r) 8 (first_broken before r)
unfolding first_broken
first_broken_lem before r =
    found_first (breaks before r) 3 8 in_order (refl, (refl, (refl, (refl, (refl, refl))))) (λ g l. not_so _ (λ e. let h = record_rules before r g e in omega arith))

-- `end` is among the records with one more
ended_more : (before : List Record) (r : Record) → is_ended (before ++ r ∷ []) ≡ is_ended before || is_kind End r
unfolding is_ended
ended_more [] r = or-false (is_kind End r)
ended_more (q ∷ qs) r = rw (ended_more qs r) (sym (or_assoc (is_kind End q) (is_ended qs) (is_kind End r)))

module _ (before : List Record) (n : ℕ) (l : Line) (ls : List Line) (yet : is_ended before ≡ false) where
  -- a line that is not behind `end` breaks what its record breaks
  says : (o : Option Record) → formed l ≡ o → (f : Fault) → line_breaks before l f ≡ says_wrong before o f
  says o e f = rw (yet, e)

  -- so the first rule that its record breaks is the first
  says_first : (o : Option Record) → formed l ≡ o → (f : Fault) → says_wrong before o f ≡ true → Clear (says_wrong before o) (order_of f)
      → IsFirst (broken_from before n (l ∷ ls)) (refusal f n)
  says_first o e f h c = first_here before n l ls f (says o e f ∙ h) (λ g i. says o e g ∙ c g i)

  -- where its record breaks nothing, the first is the first of the lines behind it
  passed_first : (r : Record) → formed l ≡ some r → Clear (breaks before r) 8 → (a : Reading) → IsFirst (broken_from (before ++ r ∷ []) (suc n) ls) a
      → IsFirst (broken_from before n (l ∷ ls)) a
  unfolding records_in
  passed_first r e c a h = first_same (broken_from before n (l ∷ ls)) (broken_from (before ++ records_in (l ∷ [])) (suc n) ls) a (from_next before n l ls none_broken) (rw (e, records_in) h)
    where
      none_broken : (f : Fault) → line_breaks before l f ≡ false
      none_broken f = says (some r) e f ∙ not_so _ (λ t. never _ t (c f (record_rules before r f t).1))

-- the answer of reading from line n on is the first of what is broken from there on
pub read_first : (before : List Record) (n : ℕ) (ls : List Line) → is_ended before ≡ false → IsFirst (broken_from before n ls) (read_from before n ls)
unfolding read_from broken_from
read_first before n [] e =
    first_at (broken_from before n []) NoEnd n (rw (eq-eqb n n refl, e)) (from_above before n []) (λ g h. rw ((one_broken NoEnd).1 g h, and-false))
read_first before n (l ∷ ls) e = go (formed l) refl (λ r. read_first (before ++ r ∷ []) (suc n) ls)
  where
    Goes : Record → Type 0
    Goes r = is_ended (before ++ r ∷ []) ≡ false → IsFirst (broken_from (before ++ r ∷ []) (suc n) ls) (read_from (before ++ r ∷ []) (suc n) ls)

    onward : Record → Bool → Reading
    onward r b = cond b (after_end (suc n) ls) (read_from (before ++ r ∷ []) (suc n) ls)

    behind : (r : Record) (b : Bool) → is_kind End r ≡ b → Goes r → IsFirst (broken_from (before ++ r ∷ []) (suc n) ls) (onward r b)
    behind r true q rest = first_ended (before ++ r ∷ []) (suc n) ls (ended_more before r ∙ rw (e, q))
    behind r false q rest = rest (ended_more before r ∙ rw (e, q))

    checked : (r : Record) → formed l ≡ some r → (o : Option Fault) → FoundFirst (breaks before r) 8 o → Goes r
        → IsFirst (broken_from before n (l ∷ ls)) (elim o [ some f ↦ refusal f n | none ↦ onward r (is_kind End r) ])
    checked r p none c rest = passed_first before n l ls e r p c (onward r (is_kind End r)) (behind r (is_kind End r) refl rest)
    checked r p (some f) c rest = says_first before n l ls e (some r) p f c.0 c.1

    go : (o : Option Record) → formed l ≡ o → ((r : Record) → Goes r)
        → IsFirst (broken_from before n (l ∷ ls)) (elim o [
          | none ↦ refusal BadForm n
          | some r ↦ elim (first_broken before r) [ some f ↦ refusal f n | none ↦ onward r (is_kind End r) ]
        ])
    go none p rest = says_first before n l ls e none p BadForm refl (one_broken BadForm).1
    go (some r) p rest = checked r p (first_broken before r) (first_broken_lem before r) (rest r)
