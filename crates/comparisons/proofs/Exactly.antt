-- A call of comparing gives a refusal exactly when its row is given and none before it is.
use mathlib.Core.Path.{◌≡◌, refl, sym, ap, ◌∙◌}
use mathlib.Core.Bool.{Bool, true, false, cond}
use mathlib.Core.List.{List, [], ◌∷◌}
use mathlib.Core.Logic.{◌↔◌}
use mathlib.Core.Option.{some}
use Prim.Native.Nat.{ℕ}
use native.Mathlib.Omega.{arith}
use Rattle.text.specs.Texts.{Text}
use Rattle.listings.specs.Refusals.{Reading, accepted, refusal, reading_of, report}
use Rattle.listings.specs.Rules.{row_number}
use Rattle.worktable.specs.Work.{is_short}
use Rattle.reading.specs.Rows.{row, listing_row, last_row, FirstGiven, FirstBroken}
use Rattle.listings.specs.declared.answers.Report.{Report}
use Rattle.listings.specs.declared.answers.Fault.{Fault}
use Rattle.listings.proofs.Exactly.{refused_exactly, number_right}
use Rattle.reading.proofs.Firsts.{first_of, first_exactly, one_refusal, side_tells}
use Rattle.comparisons.specs.Outcomes.{refused_for, is_small, compared_new, compared_old, compared, comparison_for, comparison_of}
use Rattle.comparisons.specs.Rows.{compare_rows, Roomy}

module _ (old new answer : Text) (work : List ℕ) where
  -- the rows of the new listing, the old one accepted
  new_first : (y : Reading) → first_of (listing_row 2 y ∷ last_row ∷ []) ≡ some (comparison_for (compared_new old new y)).report
  new_first accepted = refl
  new_first (refusal f n) = ap (λ (k : ℕ). some (report k 2 n)) (sym (number_right f))

  call_first : first_of (compare_rows old new answer work) ≡ some (comparison_of old new answer work).report
  unfolding compare_rows comparison_of compared
  call_first = go (is_short work) (is_small answer) (reading_of old)
    where
      go : (b s : Bool) (x : Reading) → first_of (row 1 b ∷ row 14 s ∷ listing_row 1 x ∷ listing_row 2 (reading_of new) ∷ last_row ∷ [])
          ≡ some (comparison_for (cond b (refused_for 1 0 0) (cond s (refused_for 14 0 0) (compared_old old new x)))).report
      go true s x = refl
      go false true x = refl
      go false false accepted = new_first (reading_of new)
      go false false (refusal f n) = ap (λ (k : ℕ). some (report k 1 n)) (sym (number_right f))

  -- number, side and line are handed back exactly where they are the first that is given
  pub compare_refused_exactly : (r : Report) → ((comparison_of old new answer work).report ≡ r) ↔ FirstGiven (compare_rows old new answer work) r
  compare_refused_exactly r = first_exactly (compare_rows old new answer work) (comparison_of old new answer work).report r call_first

  -- ---- the listings' rows one by one
  -- what is handed back, by the results of the tests
  abbrev handed : Bool → Bool → Reading → Report
  handed b s x = (comparison_for (cond b (refused_for 1 0 0) (cond s (refused_for 14 0 0) (compared_old old new x)))).report

  module _ (f : Fault) (n : ℕ) where
    new_is : (y : Reading) → (comparison_for (compared_new old new y)).report ≡ report (row_number f) 2 n → y ≡ refusal f n
    new_is accepted e = absurd (omega (arith, side_tells _ _ e))
    new_is (refusal g m) e = one_refusal 2 f g m n e

    not_old : (y : Reading) → (comparison_for (compared_new old new y)).report ≡ report (row_number f) 1 n → ⊥
    not_old accepted e = omega (arith, side_tells _ _ e)
    not_old (refusal g m) e = omega (arith, side_tells _ _ e)

    old_refused : (b s : Bool) (x : Reading) → is_short work ≡ b → is_small answer ≡ s → reading_of old ≡ x → handed b s x ≡ report (row_number f) 1 n
        → Roomy answer work × (reading_of old ≡ refusal f n)
    old_refused true s x p q r e = absurd (omega (arith, side_tells _ _ e))
    old_refused false true x p q r e = absurd (omega (arith, side_tells _ _ e))
    old_refused false false accepted p q r e = absurd (not_old (reading_of new) e)
    old_refused false false (refusal g m) p q r e = ((p, q), r ∙ one_refusal 1 f g m n e)

    new_refused : (b s : Bool) (x : Reading) → is_short work ≡ b → is_small answer ≡ s → reading_of old ≡ x → handed b s x ≡ report (row_number f) 2 n
        → Roomy answer work × (reading_of old ≡ accepted) × (reading_of new ≡ refusal f n)
    new_refused true s x p q r e = absurd (omega (arith, side_tells _ _ e))
    new_refused false true x p q r e = absurd (omega (arith, side_tells _ _ e))
    new_refused false false accepted p q r e = ((p, q), r, new_is (reading_of new) e)
    new_refused false false (refusal g m) p q r e = absurd (omega (arith, side_tells _ _ e))

    -- side 1, a rule's number and a line: exactly where there is room and the old listing breaks that rule there first
    pub compare_old_refused_exactly : ((comparison_of old new answer work).report ≡ report (row_number f) 1 n) ↔ (Roomy answer work × FirstBroken old f n)
    unfolding comparison_of compared
    compare_old_refused_exactly = (
      λ e. let r = old_refused (is_short work) (is_small answer) (reading_of old) refl refl refl e in (r.0, (refused_exactly old f n).0 r.1),
      λ h. rw (h.0.0, h.0.1, (refused_exactly old f n).1 h.1, number_right f),
    )

    -- side 2: exactly where the old listing is accepted and the new one breaks that rule there first
    pub compare_new_refused_exactly :
        ((comparison_of old new answer work).report ≡ report (row_number f) 2 n) ↔ (Roomy answer work × (reading_of old ≡ accepted) × FirstBroken new f n)
    unfolding comparison_of compared
    compare_new_refused_exactly = (
      λ e. let r = new_refused (is_short work) (is_small answer) (reading_of old) refl refl refl e in (r.0, r.1, (refused_exactly new f n).0 r.2),
      λ h. rw (h.0.0, h.0.1, h.1, (refused_exactly new f n).1 h.2, number_right f),
    )
