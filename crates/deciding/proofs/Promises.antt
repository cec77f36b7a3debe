-- What is promised of the call: who logs in extends the caller that he was, a refusal grants nothing, and the statement settles the outcome.
use mathlib.Core.Path.{◌≡◌, sym, ap, ◌∙◌}
use mathlib.Core.Bool.{Bool, true, false, cond, ◌&&◌}
use mathlib.Core.List.{List, [], ◌∷◌, Memᴰ}
use mathlib.Core.Option.{Option, none, some, some-injective, none-ne-some}
use Prim.Native.Nat.{ℕ, zero, suc, ◌≤◌}
use native.Mathlib.Omega.{arith}
use lib.ListN.{length, drop}
use lib.Dec.{leb}
use borrow.Author.Tests.{le-ltb}
use Rattle.text.specs.Texts.{Text}
use Rattle.text.specs.Lines.{Line, lines_of}
use Rattle.listings.specs.Refusals.{Reading, accepted, refusal, reading_of}
use Rattle.worktable.specs.Work.{work_size, is_short, work_after}
use Rattle.reading.proofs.Unique.{work_same}
use Rattle.decisions.specs.Requests.{Caller, nobody, logged_in, all_ended_names, most_names, names_in, logged_in_with, caller_of, is_path, is_method, Extends}
use Rattle.deciding.specs.Outcomes.{refused, answered, is_granted, Asked, decide_caller, decide_listing, decision_of, DecideOutcome}
use Rattle.deciding.specs.declared.answers.Decision.{Decision}

-- ---- who logs in, or names further roles, is a caller who extends the first
-- of a caller: the lines' names, or nobody
logged_in_names : (ls : List Line) (c : Caller) → logged_in_with ls ≡ some c → c ≡ logged_in (names_in ls)
logged_in_names ls c e = go (all_ended_names ls && leb (length ls) most_names) e
  where
    go : (b : Bool) → cond b (some (logged_in (names_in ls))) none ≡ some c → c ≡ logged_in (names_in ls)
    go true h = sym (some-injective (logged_in (names_in ls)) c h)
    go false h = absurd (none-ne-some c h)

pub callers_extend : (login login' : ℕ) (names names' : Text) (c d : Caller) → caller_of login names ≡ some c → caller_of login' names' ≡ some d
    → login ≤ login' → ((n : Text) → Memᴰ n (names_in (lines_of names)) → Memᴰ n (names_in (lines_of names'))) → Extends c d
unfolding caller_of
callers_extend zero login' [] names' c d e f h i = rw (← some-injective nobody c e) tt
callers_extend zero login' (x ∷ xs) names' c d e f h i = absurd (none-ne-some c e)
callers_extend (suc zero) zero names names' c d e f h i = absurd (omega arith)
callers_extend (suc zero) (suc zero) names names' c d e f h i = rw (logged_in_names (lines_of names) c e, logged_in_names (lines_of names') d f) i
callers_extend (suc zero) (suc (suc k)) names names' c d e f h i = absurd (none-ne-some d f)
callers_extend (suc (suc k)) login' names names' c d e f h i = absurd (none-ne-some c e)

-- ---- a refusal is no grant
-- of any outcome that satisfies the statement, with a work table of any length: beside a refusal the answer is 0, which is none of the answers' numbers
pub refusal_grants_nothing : (a : Asked) (w : List ℕ) (d : Decision) (left : List ℕ) → DecideOutcome a w d left → 1 ≤ d.report.number
    → (d.answer ≡ 0) × (is_granted d ≡ false)
unfolding decision_of
refusal_grants_nothing a w d left O h = short (is_short w) (reading_of a.listing) O.decision
  where
    refuses : (n s l : ℕ) → d ≡ refused n s l → (d.answer ≡ 0) × (is_granted d ≡ false)
    refuses n s l e = (ap (λ (x : Decision). x.answer) e, ap is_granted e)

    answers : (k : ℕ) → d ≡ answered k → (d.answer ≡ 0) × (is_granted d ≡ false)
    answers k e = let z : d.report.number ≡ 0 = ap (λ (x : Decision). x.report.number) e in absurd (omega arith)

    called : (c : Option Caller) → d ≡ decide_caller a c → (d.answer ≡ 0) × (is_granted d ≡ false)
    called none e = refuses 13 0 0 e
    called (some c) e = answers _ e

    requested : (p m : Bool) → d ≡ cond p (cond m (decide_caller a (caller_of a.login a.names)) (refused 12 0 0)) (refused 11 0 0)
        → (d.answer ≡ 0) × (is_granted d ≡ false)
    requested true true e = called (caller_of a.login a.names) e
    requested true false e = refuses 12 0 0 e
    requested false m e = refuses 11 0 0 e

    short : (b : Bool) (r : Reading) → d ≡ cond b (refused 1 0 0) (decide_listing a r) → (d.answer ≡ 0) × (is_granted d ≡ false)
    short true r e = refuses 1 0 0 e
    short false accepted e = requested (is_path a.path) (is_method a.method) e
    short false (refusal f n) e = refuses _ 1 n e

-- ---- the statement settles the outcome
-- two outcomes that both satisfy it are equal
pub decide_unique : (a : Asked) (w : List ℕ) (d d' : Decision) (l l' : List ℕ) → DecideOutcome a w d l → DecideOutcome a w d' l' → (d ≡ d') × (l ≡ l')
decide_unique a w d d' l l' o o' = (o.decision ∙ sym o'.decision, o.work ∙ sym o'.work)

-- what stood in the work table's first 4,096 numbers never matters
pub contents_never_matter : (a : Asked) (w w' : List ℕ) → work_size ≤ length w → length w ≡ length w' → drop work_size w ≡ drop work_size w'
    → (decision_of a w ≡ decision_of a w') × (work_after w ≡ work_after w')
unfolding decision_of
contents_never_matter a w w' long even e = (rw even, work_same w w' long even e)

-- and what is handed back is the same with any two work tables that are long enough, however long they are
pub table_never_matters : (a : Asked) (w w' : List ℕ) → work_size ≤ length w → work_size ≤ length w' → decision_of a w ≡ decision_of a w'
unfolding decision_of
table_never_matters a w w' long long' = rw (le-ltb (length w) work_size long, le-ltb (length w') work_size long')
