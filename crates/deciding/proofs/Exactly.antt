-- A call of deciding gives a refusal exactly when its row is given and none before it is.
use mathlib.Core.Path.{◌≡◌, refl, sym, ap, ◌∙◌}
use mathlib.Core.Bool.{Bool, true, false, not, cond}
use mathlib.Core.List.{List, [], ◌∷◌}
use mathlib.Core.Logic.{◌↔◌}
use mathlib.Core.Option.{Option, none, some}
use Prim.Native.Nat.{ℕ}
use native.Mathlib.Omega.{arith}
use Rattle.listings.specs.Refusals.{Reading, accepted, refusal, reading_of, report}
use Rattle.listings.specs.Rules.{row_number}
use Rattle.worktable.specs.Work.{is_short}
use Rattle.reading.specs.Rows.{row, listing_row, last_row, FirstGiven, FirstBroken}
use Rattle.listings.specs.declared.answers.Report.{Report}
use Rattle.listings.specs.declared.answers.Fault.{Fault}
use Rattle.listings.proofs.Exactly.{refused_exactly, number_right}
use Rattle.reading.proofs.Firsts.{first_of, first_exactly, one_refusal, side_tells}
use Rattle.decisions.specs.Requests.{Caller, is_path, is_method, caller_of}
use Rattle.deciding.specs.Outcomes.{refused, Asked, decide_caller, decide_listing, decision_of}
use Rattle.deciding.specs.Rows.{is_bad, decide_rows}

module _ (a : Asked) where
  -- the rows behind the listing's
  request_first : (p m : Bool) (c : Option Caller) → first_of (row 11 (not p) ∷ row 12 (not m) ∷ row 13 (is_bad c) ∷ last_row ∷ [])
      ≡ some (cond p (cond m (decide_caller a c) (refused 12 0 0)) (refused 11 0 0)).report
  request_first true true none = refl
  request_first true true (some c) = refl
  request_first true false c = refl
  request_first false m c = refl

  call_first : (w : List ℕ) → first_of (decide_rows a w) ≡ some (decision_of a w).report
  unfolding decide_rows decision_of
  call_first w = go (is_short w) (reading_of a.listing)
    where
      go : (b : Bool) (x : Reading)
          → first_of (row 1 b ∷ listing_row 1 x ∷ row 11 (not (is_path a.path)) ∷ row 12 (not (is_method a.method)) ∷ row 13 (is_bad (caller_of a.login a.names)) ∷ last_row ∷ [])
          ≡ some (cond b (refused 1 0 0) (decide_listing a x)).report
      go true x = refl
      go false accepted = request_first (is_path a.path) (is_method a.method) (caller_of a.login a.names)
      go false (refusal f n) = ap (λ (k : ℕ). some (report k 1 n)) (sym (number_right f))

  -- number, side and line are handed back exactly where they are the first that is given
  pub decide_refused_exactly : (w : List ℕ) (r : Report) → ((decision_of a w).report ≡ r) ↔ FirstGiven (decide_rows a w) r
  decide_refused_exactly w r = first_exactly (decide_rows a w) (decision_of a w).report r (call_first w)

  -- ---- the listing's rows one by one
  -- the rows behind them are about no listing
  request_side : (p m : Bool) (c : Option Caller) → (cond p (cond m (decide_caller a c) (refused 12 0 0)) (refused 11 0 0)).report.side ≡ 0
  request_side true true none = refl
  request_side true true (some c) = refl
  request_side true false c = refl
  request_side false m c = refl

  -- a rule's number and a line are handed back exactly where the table is long enough and the listing breaks that rule there first
  pub decide_listing_refused_exactly : (w : List ℕ) (f : Fault) (n : ℕ)
      → ((decision_of a w).report ≡ report (row_number f) 1 n) ↔ ((is_short w ≡ false) × FirstBroken a.listing f n)
  unfolding decision_of
  decide_listing_refused_exactly w f n = (
    λ e. let r = go (is_short w) (reading_of a.listing) refl refl e in (r.0, (refused_exactly a.listing f n).0 r.1),
    λ h. rw (h.0, (refused_exactly a.listing f n).1 h.1, number_right f),
  )
    where
      go : (b : Bool) (x : Reading) → is_short w ≡ b → reading_of a.listing ≡ x → (cond b (refused 1 0 0) (decide_listing a x)).report ≡ report (row_number f) 1 n
          → (is_short w ≡ false) × (reading_of a.listing ≡ refusal f n)
      go true x p q e = absurd (omega (arith, side_tells _ _ e))
      go false accepted p q e = absurd (omega (arith, request_side (is_path a.path) (is_method a.method) (caller_of a.login a.names), side_tells _ _ e))
      go false (refusal g m) p q e = (p, q ∙ one_refusal 1 f g m n e)
