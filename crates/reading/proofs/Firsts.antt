-- The first row that is given, and that a call of reading hands back exactly that.
use mathlib.Core.Path.{◌≡◌, refl, sym, ap, ◌∙◌}
use mathlib.Core.Bool.{Bool, true, false, cond}
use mathlib.Core.List.Memᴰ
use mathlib.Core.List.{List, [], ◌∷◌, ◌++◌, Memᴰ}
use mathlib.Core.Logic.{◌↔◌, ⊎_elim}
use mathlib.Core.Option.{Option, none, some, some-injective, none-ne-some}
use Prim.Native.Nat.{ℕ, ◌≤◌}
use native.Mathlib.Omega.{arith}
use Rattle.text.specs.Texts.{Text}
use Rattle.listings.specs.Refusals.{Reading, accepted, refusal, number_of, reading_of, report}
use Rattle.listings.specs.Rules.{row_number}
use Rattle.worktable.specs.Work.{is_short}
use Rattle.reading.specs.Outcomes.{report_of, short_report, read_report}
use Rattle.reading.specs.Rows.{row, listing_row, last_row, FirstGiven, FirstBroken, Unbroken, read_rows}
use Rattle.listings.specs.declared.answers.Report.{Report}
use Rattle.listings.specs.declared.answers.Fault.{Fault}
use Rattle.listings.specs.declared.answers.Fault.TheVariants.{LongListing, BadFirstLine, BadForm, WrongPlace, BadName, BadPattern, RoleTwice, PastMost, NoEnd}
use Rattle.listings.proofs.Exactly.{refused_exactly, accepted_exactly, number_right, one_number}

-- the same, found
abbrev pub first_of : List (Option Report) → Option Report
first_of [] = none
first_of (none ∷ xs) = first_of xs
first_of (some r ∷ xs) = some r

-- one row more that is not given
one_more_lem : (xs : List (Option Report)) (r : Report) → FirstGiven xs r → FirstGiven (none ∷ xs) r
one_more_lem xs r f = record {
  before = none ∷ f.before;
  after = f.after;
  split = ap (λ (ys : List (Option Report)). none ∷ ys) f.split;
  passed = λ x m. ⊎_elim (λ (e : x ≡ none). e) (f.passed x) (Memᴰ.cases_cons m);
}

found_given : (xs : List (Option Report)) (r : Report) → first_of xs ≡ some r → FirstGiven xs r
found_given [] r e = absurd (none-ne-some r e)
found_given (none ∷ xs) r e = one_more_lem xs r (found_given xs r e)
found_given (some q ∷ xs) r e = record {
  before = [];
  after = xs;
  split = ap (λ (o : Option Report). o ∷ xs) e;
  passed = λ x m. absurd (Memᴰ.not-nil m);
}

-- rows that are not given do not matter
passed_found : (before after : List (Option Report)) → ((x : Option Report) → Memᴰ x before → x ≡ none) → first_of (before ++ after) ≡ first_of after
passed_found [] after h = refl
passed_found (x ∷ xs) after h =
    ap (λ (o : Option Report). first_of (o ∷ (xs ++ after))) (h x (Memᴰ.head refl)) ∙ passed_found xs after (λ y m. h y (Memᴰ.tail m))

given_found : (xs : List (Option Report)) (r : Report) → FirstGiven xs r → first_of xs ≡ some r
given_found xs r f = ap first_of f.split ∙ passed_found f.before (some r ∷ f.after) f.passed

-- what is found is r exactly where r is the first that is given
pub first_exactly : (xs : List (Option Report)) (q r : Report) → first_of xs ≡ some q → (q ≡ r) ↔ FirstGiven xs r
first_exactly xs q r e = (
  λ h. found_given xs r (e ∙ ap some h),
  λ f. some-injective q r (sym e ∙ given_found xs r f),
)

-- ---- `budquarry_read` hands back number, side and line exactly where they are the first that is given
pub read_refused_exactly : (s : Text) (w : List ℕ) (r : Report) → (read_report s w ≡ r) ↔ FirstGiven (read_rows s w) r
unfolding read_report read_rows
read_refused_exactly s w r = first_exactly (read_rows s w) (read_report s w) r (go (is_short w) (reading_of s))
  where
    go : (b : Bool) (x : Reading) → first_of (row 1 b ∷ listing_row 1 x ∷ last_row ∷ []) ≡ some (cond b short_report (report_of 1 x))
    go true x = refl
    go false accepted = refl
    go false (refusal f n) = ap (λ (k : ℕ). some (report k 1 n)) (sym (number_right f))

-- ---- the listing's rows one by one
-- number and line tell the refusal
pub one_refusal : (side : ℕ) (f g : Fault) (m n : ℕ) → report (number_of g) side m ≡ report (row_number f) side n → refusal g m ≡ refusal f n
one_refusal side f g m n e =
    let h = one_number g f (sym (number_right g) ∙ ap (λ (r : Report). r.number) e) in
    let i : m ≡ n = ap (λ (r : Report). r.line) e in
    rw (h, i)

-- and the side tells whose row it is
pub side_tells : (r q : Report) → r ≡ q → r.side ≡ q.side
side_tells r q e = ap (λ (t : Report). t.side) e

-- `budquarry_read` hands back a rule's number and a line exactly where the table is long enough and the listing breaks that rule there first
pub read_listing_refused_exactly : (s : Text) (w : List ℕ) (f : Fault) (n : ℕ)
    → (read_report s w ≡ report (row_number f) 1 n) ↔ ((is_short w ≡ false) × FirstBroken s f n)
unfolding read_report
read_listing_refused_exactly s w f n = (
  λ e. let r = go (is_short w) (reading_of s) refl refl e in (r.0, (refused_exactly s f n).0 r.1),
  λ h. rw (h.0, (refused_exactly s f n).1 h.1, number_right f),
)
  where
    go : (b : Bool) (x : Reading) → is_short w ≡ b → reading_of s ≡ x → cond b short_report (report_of 1 x) ≡ report (row_number f) 1 n
        → (is_short w ≡ false) × (reading_of s ≡ refusal f n)
    go true x p q e = absurd (omega (arith, side_tells _ _ e))
    go false accepted p q e = absurd (omega (arith, side_tells _ _ e))
    go false (refusal g m) p q e = (p, q ∙ one_refusal 1 f g m n e)

-- no rule's number is 0
pub rule_numbered : (f : Fault) → 1 ≤ number_of f
rule_numbered LongListing = omega arith
rule_numbered BadFirstLine = omega arith
rule_numbered BadForm = omega arith
rule_numbered WrongPlace = omega arith
rule_numbered BadName = omega arith
rule_numbered BadPattern = omega arith
rule_numbered RoleTwice = omega arith
rule_numbered PastMost = omega arith
rule_numbered NoEnd = omega arith

-- `budquarry_read` hands back 0, 0 and 0 exactly where the table is long enough and the listing breaks no rule at any line
pub read_accepted_exactly : (s : Text) (w : List ℕ) → (read_report s w ≡ report 0 0 0) ↔ ((is_short w ≡ false) × Unbroken s)
unfolding read_report
read_accepted_exactly s w = (
  λ e. let r = go (is_short w) (reading_of s) refl refl e in (r.0, (accepted_exactly s).0 r.1),
  λ h. rw (h.0, (accepted_exactly s).1 h.1),
)
  where
    go : (b : Bool) (x : Reading) → is_short w ≡ b → reading_of s ≡ x → cond b short_report (report_of 1 x) ≡ report 0 0 0 → (is_short w ≡ false) × (reading_of s ≡ accepted)
    go true x p q e = absurd (let z : ◌≡◌ {A = ℕ} 1 0 = ap (λ (r : Report). r.number) e in omega arith)
    go false accepted p q e = (p, q)
    go false (refusal f n) p q e = let z = rule_numbered f in let y : number_of f ≡ 0 = ap (λ (r : Report). r.number) e in absurd (omega arith)
