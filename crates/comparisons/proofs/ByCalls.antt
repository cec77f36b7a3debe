-- The verdict is right by the calls of deciding: it is none exactly where deciding grants with the new listing nothing that it denies with the old one.
use mathlib.Core.Path.{◌≡◌, refl, sym, ap, ◌∙◌}
use mathlib.Core.Bool.{true, false}
use mathlib.Core.List.{List}
use mathlib.Core.Logic.{◌↔◌}
use mathlib.Core.Option.{none, some, some-injective}
use Prim.Native.Nat.{ℕ, ◌≤◌}
use native.Mathlib.Omega.{arith}
use lib.ListN.{length, replicate, length-replicate}
use borrow.Author.Tests.{le-ltb}
use Rattle.text.specs.Texts.{Text}
use Rattle.listings.specs.Refusals.{accepted, reading_of}
use Rattle.listings.specs.Listings.{listing_of}
use Rattle.worktable.specs.Work.{work_size, work_after}
use Rattle.reading.proofs.Accepted.{accepted_proper}
use Rattle.decisions.specs.Requests.{Caller, Request, request, caller_of}
use Rattle.decisions.specs.Decisions.{decide, is_grant}
use Rattle.deciding.specs.Outcomes.{asked, is_granted, decision_of, DecideOutcome}
use Rattle.deciding.specs.Demands.{Asks, Denied}
use Rattle.deciding.specs.declared.answers.Decision.{Decision}
use Rattle.deciding.proofs.Demands.{decision_right}
use Rattle.trials.specs.Verdicts.{WellFormed, Widening, verdict}
use Rattle.trials.specs.Demands.{NoWider}
use Rattle.trials.proofs.NoWider.{no_wider}
use Rattle.comparisons.specs.Demands.{NothingGained}

-- a work table that is long enough
roomy : (k : ℕ) → k ≤ length (replicate {A = ℕ} k 0)
roomy k = rw (length-replicate {A = ℕ} k 0) (omega arith)

-- of two accepted texts
of_texts : (old new : Text) → reading_of old ≡ accepted → reading_of new ≡ accepted → NoWider (listing_of old) (listing_of new)
of_texts old new o n = no_wider (listing_of old) (listing_of new) (accepted_proper old o) (accepted_proper new n)

-- ---- from the calls to the listings
-- what is denied with the old listing and granted with the new one is asked by a caller to whom the new listing grants it and the old one denies it
pub gained_widens : (old new path method : Text) (login : ℕ) (names : Text) (w w' left left' : List ℕ) (d d' : Decision)
    → DecideOutcome (asked old path method login names) w d left → DecideOutcome (asked new path method login names) w' d' left'
    → Denied d → is_granted d' ≡ true
    → (c : Caller) × (caller_of login names ≡ some c) × WellFormed (request path method c) × Widening (listing_of old) (listing_of new) (request path method c)
gained_widens old new path method login names w w' left left' d d' O O' k g =
    let x = (decision_right (asked old path method login names) w d left O).denial.0 k in
    let y = (decision_right (asked new path method login names) w' d' left' O').grant.0 g in
    let A = y.1 in
    let c : x.0 ≡ y.0 = some-injective x.0 y.0 (sym x.1.called ∙ A.called) in
    let denied : is_grant (decide (listing_of old) (request path method y.0)) ≡ false =
    ap (λ (z : Caller). is_grant (decide (listing_of old) (request path method z))) (sym c) ∙ x.2 in (
      y.0,
      A.called,
      record { path = A.path; method = A.method; login = login; names = names; called = A.called },
      record { granted = y.2; denied = denied },
    )

-- ---- from the listings to the calls
-- a request that is asked well, with a table that is long enough, is heard
asks_well : (listing : Text) (r : Request) (F : WellFormed r) (login : ℕ) (names : Text) → caller_of login names ≡ some r.caller → reading_of listing ≡ accepted
    → (w : List ℕ) → work_size ≤ length w → Asks (asked listing r.path r.method login names) w r.caller
asks_well listing r F login names e h w long =
    record { long = le-ltb (length w) work_size long; reads = h; path = F.path; method = F.method; called = e }

module _ (old new : Text) (o : reading_of old ≡ accepted) (n : reading_of new ≡ accepted) (r : Request) (F : WellFormed r) (W : Widening (listing_of old) (listing_of new) r) where
  module _ (login : ℕ) (names : Text) (e : caller_of login names ≡ some r.caller) (w left : List ℕ) (d : Decision) (long : work_size ≤ length w) where
    pub widening_denied : DecideOutcome (asked old r.path r.method login names) w d left → Denied d
    widening_denied O =
        (decision_right (asked old r.path r.method login names) w d left O).denial.1 (r.caller, asks_well old r F login names e o w long, W.denied)

    pub widening_granted : DecideOutcome (asked new r.path r.method login names) w d left → is_granted d ≡ true
    widening_granted O =
        (decision_right (asked new r.path r.method login names) w d left O).grant.1 (r.caller, asks_well new r F login names e n w long, W.granted)

-- ---- both ways
module _ (old new : Text) (o : reading_of old ≡ accepted) (n : reading_of new ≡ accepted) where
  none_gained : verdict (listing_of old) (listing_of new) ≡ none → NothingGained old new
  none_gained e path method login names w w' left left' d d' O O' k g =
      let x = gained_widens old new path method login names w w' left left' d d' O O' k g in
      (of_texts old new o n).0 e (request path method x.0) x.2 x.3

  gained_none : NothingGained old new → verdict (listing_of old) (listing_of new) ≡ none
  gained_none h = (of_texts old new o n).1 (λ r F W.
      let w : List ℕ = replicate work_size 0 in
      let l : work_size ≤ length w = roomy work_size in
      let ofOld = asked old r.path r.method F.login F.names in
      let ofNew = asked new r.path r.method F.login F.names in
      let O : DecideOutcome ofOld w (decision_of ofOld w) (work_after w) = record { decision = refl; work = refl } in
      let O' : DecideOutcome ofNew w (decision_of ofNew w) (work_after w) = record { decision = refl; work = refl } in
      h r.path r.method F.login F.names w w (work_after w) (work_after w) (decision_of ofOld w) (decision_of ofNew w) O O'
      (widening_denied old new o n r F W F.login F.names F.called w (work_after w) (decision_of ofOld w) l O)
      (widening_granted old new o n r F W F.login F.names F.called w (work_after w) (decision_of ofNew w) l O'))

  -- the verdict is none exactly where deciding, asked anything at all, grants with the new listing nothing that it denies with the old one
  pub no_wider_by_calls : (verdict (listing_of old) (listing_of new) ≡ none) ↔ NothingGained old new
  no_wider_by_calls = (none_gained, gained_none)
