-- What the customer asks of `budquarry_decide` holds: specs/Demands.
use mathlib.Core.Path.{◌≡◌, refl, sym, ap, ◌∙◌}
use mathlib.Core.Bool.{Bool, true, false, cond}
use mathlib.Core.List.{List}
use mathlib.Core.Option.{Option, none, some}
use Prim.Native.Nat.{ℕ, zero, suc}
use native.Mathlib.Omega.{arith}
use Rattle.listings.specs.Refusals.{Reading, accepted, refusal, reading_of}
use Rattle.worktable.specs.Work.{is_short, work_after}
use Rattle.text.proofs.Truths.{never}
use Rattle.listings.specs.Listings.{listing_of}
use Rattle.reading.proofs.Firsts.{rule_numbered}
use Rattle.reading.proofs.Demands.{table_left}
use Rattle.decisions.specs.Requests.{Caller, is_path, is_method, caller_of}
use Rattle.decisions.specs.Decisions.{is_grant, answer_number}
use Rattle.decisions.proofs.Promises.{never_loses, grant_number}
use Rattle.deciding.specs.Outcomes.{refused, answered, is_granted, Asked, asked, decide_caller, decide_listing, decision_of, DecideOutcome}
use Rattle.deciding.specs.Demands.{DefiniteDecision, EveryDecisionIsDefinite, Asks, answer_for, RightDecision, EveryDecisionIsRight, LoginNeverLoses}
use Rattle.deciding.specs.declared.answers.Decision.{Decision}
use Rattle.deciding.proofs.Promises.{callers_extend, refusal_grants_nothing, decide_unique, table_never_matters}
use Rattle.deciding.proofs.Exactly.{decide_refused_exactly, decide_listing_refused_exactly}

-- ---- demand 1
pub decision_definite : EveryDecisionIsDefinite
decision_definite = record { outcome = λ a w. (decision_of a w, work_after w, record { decision = refl; work = refl }); definite = definite }
  where
    definite : (a : Asked) (w : List ℕ) (d : Decision) (left : List ℕ) → DecideOutcome a w d left → DefiniteDecision a w d left
    definite a w d left O =
        let reported = ap (λ (x : Decision). x.report) O.decision in
        let refuses = decide_refused_exactly a w in
        let ruled = decide_listing_refused_exactly a w in
        record {
          settled = λ d' left' P. decide_unique a w d d' left left' O P;
          alike = λ w' d' left' h h' P. O.decision ∙ table_never_matters a w w' h h' ∙ sym P.decision;
          row = λ q. (λ e. (refuses q).0 (sym reported ∙ e), λ f. reported ∙ (refuses q).1 f);
          rule = λ f n. (λ e. (ruled f n).0 (sym reported ∙ e), λ b. reported ∙ (ruled f n).1 b);
          silent = refusal_grants_nothing a w d left O;
          table = table_left w left O.work;
        }

-- ---- demand 2
module _ (a : Asked) (w : List ℕ) where
  -- where nothing is refused, somebody asks
  asks_of : (decision_of a w).report.number ≡ 0 → (c : Caller) × Asks a w c
  unfolding decision_of
  asks_of h = short (is_short w) (reading_of a.listing) refl refl h
    where
      called : (o : Option Caller) → caller_of a.login a.names ≡ o → (decide_caller a o).report.number ≡ 0
          → is_short w ≡ false → reading_of a.listing ≡ accepted → is_path a.path ≡ true → is_method a.method ≡ true → (c : Caller) × Asks a w c
      called none e i s r p m = absurd (omega arith)
      called (some c) e i s r p m = (c, record { long = s; reads = r; path = p; method = m; called = e })

      requested : (p m : Bool) → is_path a.path ≡ p → is_method a.method ≡ m
          → (cond p (cond m (decide_caller a (caller_of a.login a.names)) (refused 12 0 0)) (refused 11 0 0)).report.number ≡ 0
          → is_short w ≡ false → reading_of a.listing ≡ accepted → (c : Caller) × Asks a w c
      requested true true p m i s r = called (caller_of a.login a.names) refl i s r p m
      requested true false p m i s r = absurd (omega arith)
      requested false m p q i s r = absurd (omega arith)

      short : (b : Bool) (x : Reading) → is_short w ≡ b → reading_of a.listing ≡ x → (cond b (refused 1 0 0) (decide_listing a x)).report.number ≡ 0
          → (c : Caller) × Asks a w c
      short true x s r i = absurd (omega arith)
      short false accepted s r i = requested (is_path a.path) (is_method a.method) refl refl i s r
      short false (refusal f n) s r i = let z = rule_numbered f in absurd (omega arith)

  -- who asks is answered as 01 answers
  answered_right : (c : Caller) → Asks a w c → decision_of a w ≡ answered (answer_number (answer_for a c))
  unfolding decision_of
  answered_right c A = rw (A.long, A.reads, A.path, A.method, A.called)

module _ (a : Asked) (w : List ℕ) (d : Decision) (left : List ℕ) (O : DecideOutcome a w d left) where
  is_answered : (c : Caller) → Asks a w c → d ≡ answered (answer_number (answer_for a c))
  is_answered c A = O.decision ∙ answered_right a w c A

  -- the answer is a grant where 01's is
  grant_same : (c : Caller) → Asks a w c → is_granted d ≡ is_grant (answer_for a c)
  grant_same c A = ap is_granted (is_answered c A) ∙ grant_number (answer_for a c)

  not_refused : (c : Caller) → Asks a w c → d.report.number ≡ 0
  not_refused c A = ap (λ (x : Decision). x.report.number) (is_answered c A)

  somebody : d.report.number ≡ 0 → (c : Caller) × Asks a w c
  somebody e = asks_of a w (ap (λ (x : Decision). x.report.number) (sym O.decision) ∙ e)

  -- a grant is not refused
  granted_heard : is_granted d ≡ true → d.report.number ≡ 0
  granted_heard g = go d.report.number refl
    where
      go : (n : ℕ) → d.report.number ≡ n → n ≡ 0
      go zero e = refl
      go (suc n) e = absurd (never (is_granted d) g (refusal_grants_nothing a w d left O (omega arith)).1)

  right : RightDecision a w d
  right = record {
    heard = (somebody, λ x. not_refused x.0 x.1);
    answer = is_answered;
    grant = (
      λ g. let x = somebody (granted_heard g) in (x.0, x.1, sym (grant_same x.0 x.1) ∙ g),
      λ x. grant_same x.0 x.1 ∙ x.2,
    );
    denial = (
      λ e. let x = somebody e.0 in (x.0, x.1, sym (grant_same x.0 x.1) ∙ e.1),
      λ x. (not_refused x.0 x.1, grant_same x.0 x.1 ∙ x.2),
    );
  }

pub decision_right : EveryDecisionIsRight
decision_right = right

-- ---- a grant is never lost
pub login_never_loses : LoginNeverLoses
login_never_loses listing path method login login' names names' w w' left left' d d' O O' h i e g =
    let R = decision_right (asked listing path method login names) w d left O in
    let R' = decision_right (asked listing path method login' names') w' d' left' O' in
    let x = R.grant.0 g in
    let y = R'.heard.0 e in
    let extends = callers_extend login login' names names' x.0 y.0 x.1.called y.1.called h i in
    R'.grant.1 (y.0, y.1, never_loses (listing_of listing) path method x.0 y.0 extends x.2)
