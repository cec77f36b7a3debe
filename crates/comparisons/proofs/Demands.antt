-- What the customer asks of `budquarry_compare` holds: specs/Demands.
use mathlib.Core.Path.{◌≡◌, refl, sym, ap, ◌∙◌}
use mathlib.Core.Bool.{Bool, true, false, cond}
use mathlib.Core.List.Memᴰ
use mathlib.Core.List.{List, ◌∷◌, Memᴰ}
use mathlib.Core.Logic.{◌⊎◌, inl, inr, ◌↔◌}
use mathlib.Core.Option.{some, some-injective}
use Prim.Native.Nat.{ℕ}
use native.Mathlib.Omega.{arith}
use lib.ListN.{take}
use Rattle.text.specs.Texts.{Text, bytes}
use Rattle.listings.specs.Refusals.{Reading, accepted, refusal, reading_of, report}
use Rattle.listings.specs.Listings.{listing_of}
use Rattle.worktable.specs.Work.{is_short, work_after}
use Rattle.reading.proofs.Accepted.{accepted_proper}
use Rattle.reading.proofs.Firsts.{rule_numbered}
use Rattle.reading.proofs.Demands.{table_left}
use Rattle.decisions.specs.Requests.{Caller, Request, request, caller_of}
use Rattle.decisions.specs.Decisions.{decide, is_grant}
use Rattle.trials.specs.Trials.{trials}
use Rattle.trials.specs.Verdicts.{Widening}
use Rattle.trials.specs.Answers.{answer_of}
use Rattle.trials.specs.Demands.{NobodyOrOne, Shown}
use Rattle.trials.proofs.Bounds.{nobody_called, one_called, caller_good}
use Rattle.trials.proofs.Widenings.{trial_parts}
use Rattle.comparisons.specs.Outcomes.{refused_for, is_small, compared_new, compared_old, compared, comparison_for, comparison_of, answer_after, CompareOutcome}
use Rattle.comparisons.specs.Rows.{Roomy}
use Rattle.comparisons.specs.Demands.{DefiniteComparison, EveryComparisonIsDefinite, NotGained, login_of, ended, names_of, asked_for, ShowsGain, EveryComparisonIsRight}
use Rattle.comparisons.specs.declared.answers.Comparison.{Comparison}
use Rattle.comparisons.proofs.ByCalls.{gained_widens, widening_denied, widening_granted}
use Rattle.comparisons.proofs.Exactly.{compare_refused_exactly, compare_old_refused_exactly, compare_new_refused_exactly}
use Rattle.comparisons.proofs.OneOutcome.{compare_unique, table_never_matters}
use Rattle.comparisons.proofs.Promises.{refusal_writes_nothing, nothing_refused, rest_kept, no_wider_exactly, no_wider_by_length, else_wider}

-- ---- demand 1
-- nothing is refused exactly where there is room and both listings are accepted
heard_exactly : (old new answer : Text) (work : List ℕ)
    → ((comparison_of old new answer work).report.number ≡ 0) ↔ (Roomy answer work × (reading_of old ≡ accepted) × (reading_of new ≡ accepted))
unfolding comparison_of compared
heard_exactly old new answer work = (go (is_short work) (is_small answer) (reading_of old) refl refl refl, λ h. rw (h.0.0, h.0.1, h.1, h.2))
  where
    of_new : (y : Reading) → reading_of new ≡ y → (comparison_for (compared_new old new y)).report.number ≡ 0 → reading_of new ≡ accepted
    of_new accepted r e = r
    of_new (refusal f m) r e = let z = rule_numbered f in absurd (omega arith)

    go : (b s : Bool) (x : Reading) → is_short work ≡ b → is_small answer ≡ s → reading_of old ≡ x
        → (comparison_for (cond b (refused_for 1 0 0) (cond s (refused_for 14 0 0) (compared_old old new x)))).report.number ≡ 0
        → Roomy answer work × (reading_of old ≡ accepted) × (reading_of new ≡ accepted)
    go true s x p q r e = absurd (omega arith)
    go false true x p q r e = absurd (omega arith)
    go false false accepted p q r e = ((p, q), r, of_new (reading_of new) refl e)
    go false false (refusal f m) p q r e = let z = rule_numbered f in absurd (omega arith)

pub comparison_definite : EveryComparisonIsDefinite
comparison_definite = record {
  outcome = λ old new answer work.
      (comparison_of old new answer work, answer_after old new answer work, work_after work, record { handed = refl; buffer = refl; worked = refl });
  definite = definite;
}
  where
    definite : (old new answer : Text) (work : List ℕ) (c : Comparison) (left : Text) (workLeft : List ℕ)
        → CompareOutcome old new answer work c left workLeft → DefiniteComparison old new answer work c left workLeft
    definite old new answer work c left workLeft O =
        let reported = ap (λ (x : Comparison). x.report) O.handed in
        let numbered = ap (λ (x : Comparison). x.report.number) O.handed in
        let refuses = compare_refused_exactly old new answer work in
        let ofOld = compare_old_refused_exactly old new answer work in
        let ofNew = compare_new_refused_exactly old new answer work in
        let unrefused = heard_exactly old new answer work in
        record {
          settled = λ c' left' workLeft' P. compare_unique old new answer work c c' left left' workLeft workLeft' O P;
          alike = λ work' c' left' workLeft' h h' P.
              let same = table_never_matters old new answer work work' h h' in
              (O.handed ∙ same.0 ∙ sym P.handed, O.buffer ∙ same.1 ∙ sym P.buffer);
          row = λ q. (λ e. (refuses q).0 (sym reported ∙ e), λ f. reported ∙ (refuses q).1 f);
          rule_of_old = λ f n. (λ e. (ofOld f n).0 (sym reported ∙ e), λ b. reported ∙ (ofOld f n).1 b);
          rule_of_new = λ f n. (λ e. (ofNew f n).0 (sym reported ∙ e), λ b. reported ∙ (ofNew f n).1 b);
          heard = (λ e. unrefused.0 (sym numbered ∙ e), λ h. numbered ∙ unrefused.1 h);
          silent = refusal_writes_nothing old new answer work c left workLeft O;
          table = table_left work workLeft O.worked;
        }

-- ---- demand 3
-- a trial's caller is what his login number and his names give
caller_asked : (c : Caller) → NobodyOrOne c → caller_of (login_of c) (names_of c) ≡ some c
unfolding ended
caller_asked c (inl e) = rw e nobody_called
caller_asked c (inr r) = rw r.1 (one_called r.0 r.2)

module _ (old new : Text) (o : reading_of old ≡ accepted) (n : reading_of new ≡ accepted) where
  -- a trial that does not widen is not gained
  trial_not_gained : (q : Request) → Memᴰ q (trials (listing_of old) (listing_of new)) → (Widening (listing_of old) (listing_of new) q → ⊥)
      → NotGained (asked_for old q) (asked_for new q)
  unfolding asked_for
  trial_not_gained q m h w w' left left' d d' O O' k g =
      let T = trial_parts (listing_of old) (listing_of new) q m in
      let N = caller_good (listing_of old) (listing_of new) (accepted_proper old o) (accepted_proper new n) q.caller T.caller_in_lem in
      let x = gained_widens old new q.path q.method (login_of q.caller) (names_of q.caller) w w' left left' d d' O O' k g in
      let e : x.0 ≡ q.caller = some-injective x.0 q.caller (sym x.1 ∙ caller_asked q.caller N) in
      h record {
        granted = ap (λ (c : Caller). is_grant (decide (listing_of new) (request q.path q.method c))) (sym e) ∙ x.3.granted;
        denied = ap (λ (c : Caller). is_grant (decide (listing_of old) (request q.path q.method c))) (sym e) ∙ x.3.denied;
      }

  -- what the verdict shows is gained
  shows_gain : (written : Text) (r : Request) → written ≡ answer_of (some r) → Shown (listing_of old) (listing_of new) r → ShowsGain old new written
  unfolding asked_for
  shows_gain written r e S =
      let called = caller_asked r.caller S.caller in
      record {
        shown = r;
        lines = e;
        caller = S.caller;
        denied = λ w left d h O. widening_denied old new o n r S.formed S.widening (login_of r.caller) (names_of r.caller) called w left d h O;
        granted = λ w left d h O. widening_granted old new o n r S.formed S.widening (login_of r.caller) (names_of r.caller) called w left d h O;
        before = S.before;
        after = S.after;
        split = S.split;
        earlier = λ q m. trial_not_gained q (rw S.split (Memᴰ.append_left (r ∷ S.after) m)) (S.earlier q m);
      }

pub comparison_right : EveryComparisonIsRight
comparison_right old new answer work c left workLeft O long room o n =
    let zeros = nothing_refused old new answer work c left workLeft O long room o n in
    record {
      unrefused = λ i. report (zeros.0 i) (zeros.1 i) (zeros.2 i);
      no_wider = no_wider_exactly old new answer work c left workLeft O long room o n;
      by_length = no_wider_by_length old new answer work c left workLeft O long room o n;
      wider = go (else_wider old new answer work c left workLeft O long room o n);
      rest = rest_kept old new answer work c left workLeft O long room o n;
    }
  where
    go : (take c.length left ≡ bytes "verdict\tno wider\n") ⊎ ((r : Request) × (take c.length left ≡ answer_of (some r)) × Shown (listing_of old) (listing_of new) r)
        → (take c.length left ≡ bytes "verdict\tno wider\n") ⊎ ShowsGain old new (take c.length left)
    go (inl e) = inl e
    go (inr x) = inr (shows_gain old new o n (take c.length left) x.0 x.1 x.2)
