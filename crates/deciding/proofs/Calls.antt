-- The functions of the whole call: what each hands to the next is what the outcome speaks of.
use mathlib.Core.Path.{◌≡◌, refl, sym, ap, ◌∙◌}
use mathlib.Core.Bool.{Bool, true, false, not}
use mathlib.Core.List.{List, [], ◌++◌}
use mathlib.Core.Logic.{◌↔◌}
use Rattle.std.proofs.Common.{Option, Some, None, Result, Ok, Err}
use mathlib.Core.Option as M
use mathlib.Core.Option.{none, some}
use Prim.Native.Nat.{ℕ, ◌≤◌, ◌<◌}
use native.Mathlib.Omega.{arith}
use lib.ListN.{length, get_or, take, drop}
use lib.Dec.{leb}
use borrow.Author.Tests.{lt-ltb, le-ltb, leb-true, ne_eqb, not-true, not-false}
use Rattle.text.specs.Texts.{Text, semicolon, has, all, index_of}
use Rattle.text.specs.Bytes.{between, is_text}
use Rattle.text.proofs.Truths.{and_left, and_right}
use Rattle.names.specs.Names.{made_of, is_method_name}
use Rattle.listings.specs.Refusals.{number_of, reading_of, report}
use Rattle.listings.specs.declared.answers.Report.{Report}
use Rattle.listings.specs.Listings.{listing_of}
use Rattle.worktable.specs.Work.{zeroed, work_after, is_short}
use Rattle.worktable.proofs.Lengths.{too_short, long_enough}
use Rattle.worktable.proofs.Lent.{back_first}
use Rattle.reading.specs.Holds.{Holds, HoldsListing, ListingHeld, LoadOutcome}
use Rattle.reading.specs.Views.{View, texts, view_at, ProperView}
use Rattle.listings.specs.declared.answers.Fault.{Fault}
use Rattle.reading.specs.declared.reader.Refusal.{Refusal}
use Rattle.reading.proofs.Holdings.{listing_viewed}
use Rattle.entries.specs.declared.tables.Tally.{Tally}
use Rattle.reading.proofs.Accepted.{accepted_proper}
use Rattle.decisions.specs.Paths.{dropped}
use Rattle.decisions.proofs.Droppings.{dropped_none}
use Rattle.decisions.specs.Requests.{Caller, is_path, caller_of}
use Rattle.decisions.specs.Decisions.{answer_number}
use Rattle.deciding.specs.Outcomes.{refused, answered, asked, decide_caller, decide_request, decide_listing, decision_of, DecideOutcome}
use Rattle.matching.specs.Strengths.{leading}
use Rattle.callers.specs.RoleSets.{check_caller}
use Rattle.deciding.specs.Joinings.{joined_up_to, joined_answer}
use Rattle.deciding.specs.Deciders.{answer_for}
use Rattle.decisions.specs.declared.answers.Answer.{Answer}
use Rattle.decisions.specs.declared.answers.Answer.TheVariants.{Open}
use Rattle.deciding.specs.declared.answers.Decision.{Decision}
use Rattle.callers.specs.declared.Who.{Who}
use Rattle.deciding.specs.declared.joining.Joined.{Joined}
use Rattle.matching.specs.declared.Leading.{Leading}
use Rattle.matching.proofs.Strengths.{leads}
use Rattle.callers.proofs.Checks.{who_as, checked_bad, checked_good}
use Rattle.deciding.proofs.Joins.{answer_for_lem}
use Rattle.text.proofs.Indices.{index_bound}

-- ---- what is handed back: a report, and an answer beside it
pub refused_whole : (number side line : ℕ) (x : Report) → x ≡ report number side line → record { report = x; answer = 0 } ≡ refused number side line
refused_whole number side line x e = ap (λ (r : Report). record { report = r; answer = 0 }) e

pub answered_whole : (n : ℕ) (x : Report) → x ≡ report 0 0 0 → record { report = x; answer = n } ≡ answered n
answered_whole n x e = ap (λ (r : Report). record { report = r; answer = n }) e

-- ---- the answer for a path and a method
-- a method has its index or none: their number is small
pub method_near : (v : View) (m : Text) (i : ℕ) → ProperView v → i ≡ index_of m v.methods → i < 32
method_near v m i P e = omega (arith, index_bound m v.methods, P.few_methods)

module _ (v : View) (path : Text) (x : Leading) (led : x ≡ leading (texts v) path) where
  -- no line leads
  pub open_answer : (m : Text) (h : Who) → x.most ≡ 0 → Open ≡ answer_for v path m h
  unfolding answer_for
  open_answer m h e = rw (← led, e)

  module _ (some-lead : x.most ≡ 0 → ⊥) where
    -- the one that leads is a line of the view
    pub leader_near : x.at < length (texts v)
    leader_near =
        let p : 0 < (leading (texts v) path).most = rw (← led) (omega arith) in
        rw led ((leads (texts v) path).leader p).0

    -- what is joined for its text gives the answer
    pub joined_answer_lem : (m u : Text) (i : ℕ) (j : Joined) (h : Who) (a : Answer) → i ≡ index_of m v.methods → u ≡ get_or (texts v) x.at []
        → j ≡ joined_up_to v u i (length (texts v)) → a ≡ joined_answer j h → a ≡ answer_for v path m h
    unfolding answer_for
    joined_answer_lem m u i j h a p q e f = rw (← led, ne_eqb x.most 0 some-lead, ← q, ← p, ← e) f

-- ---- a path as received
-- one that is not refused is short
pub path_short : (path : Text) → is_path path ≡ true → length path ≤ 1024
unfolding is_path
path_short path h =
    leb-true (length path) 1024
    (and_right (leb 1 (length path)) _ (and_left (between 1 1024 (length path)) (all is_text path) (and_left (made_of is_text 1 1024 path) _ h)))

pub path_good : (path : Text) (p : Bool) → p ≡ is_path path → not p ≡ false → is_path path ≡ true
path_good path p e h = sym e ∙ not-false p h

module _ (v : View) (path m : Text) (h : Who) (a : Answer) where
  -- without a `;` it is its own dropped path
  pub answer_without : (b : Bool) → b ≡ has semicolon path → not b ≡ true → a ≡ answer_for v path m h → a ≡ answer_for v (dropped path) m h
  answer_without b e n f = f ∙ ap (λ (p : Text). answer_for v p m h) (sym (dropped_none path (sym e ∙ not-true b n)))

  -- else the buffer has that
  pub answer_with : (kept : Text) (n : ℕ) → take n kept ≡ dropped path → a ≡ answer_for v (take n kept) m h → a ≡ answer_for v (dropped path) m h
  answer_with kept n e f = f ∙ ap (λ (p : Text). answer_for v p m h) e

-- ---- a request
module _ (s path method names : Text) (login : ℕ) (p : Bool) (on-path : p ≡ is_path path) (d : Decision) where
  -- the path is bad
  pub path_refused : not p ≡ true → d ≡ refused 11 0 0 → d ≡ decide_request (asked s path method login names)
  path_refused n e = rw (← on-path, not-true p n) e

  module _ (q : Bool) (on-method : q ≡ is_method_name method) (right : not p ≡ false) where
    -- the method is
    pub method_refused : not q ≡ true → d ≡ refused 12 0 0 → d ≡ decide_request (asked s path method login names)
    method_refused n e = rw (← on-path, not-false p right, ← on-method, not-true q n) e

    module _ (h : Option Who) (named : not q ≡ false) (v : View) (on-caller : h ≡ check_caller v login names) where
      -- what is decided of the caller is decided of the request
      by_caller : d ≡ decide_caller (asked s path method login names) (caller_of login names) → d ≡ decide_request (asked s path method login names)
      by_caller e = rw (← on-path, not-false p right, ← on-method, not-false q named) e

      module _ (H : ListingHeld s v) where
        -- the caller is bad where there is none
        bad_none : (h ≡ None) ↔ (caller_of login names ≡ none)
        bad_none = rw on-caller (checked_bad v H.proper.few_roles H.proper.roles_once login names)

        -- the caller is bad
        pub caller_refused : h ≡ None → d ≡ refused 13 0 0 → d ≡ decide_request (asked s path method login names)
        caller_refused b e = by_caller (rw (bad_none.0 b) e)

        -- nothing is: the answer
        pub request_answered : (who : Who) (a : Answer) (n : ℕ) → h ≡ Some who → a ≡ answer_for v (dropped path) method who → n ≡ answer_number a → d ≡ answered n
            → d ≡ decide_request (asked s path method login names)
        request_answered who a n g e f r = by_caller (go (caller_of login names) refl)
          where
            go : (o : M.Option Caller) → caller_of login names ≡ o → d ≡ decide_caller (asked s path method login names) o
            go none c = let b : h ≡ None = bad_none.1 c in cc
            go (some k) c =
                let roles = H.proper in
                r ∙ ap answered (f ∙ ap answer_number (e
                ∙ ap (answer_for v (dropped path) method) (checked_good v roles.few_roles roles.roles_once login names k who c (sym on-caller ∙ g))
                ∙ ap (λ (v : View). answer_for v (dropped path) method (who_as v k)) H.view
                ∙ answer_for_lem (listing_of s) (accepted_proper s H.accepts) path method k))

-- ---- a listing that is read
module _ (s : Text) (l : Result Tally Refusal) (w : List ℕ) (L : LoadOutcome s l w) where
  -- one that is read whole is held
  pub loaded_holds : (t : Tally) → l ≡ Ok t → HoldsListing s t w
  loaded_holds t e = rw e at L.holds

  pub loaded_table : (t : Tally) → l ≡ Ok t → Holds s t w
  loaded_table t e = (loaded_holds t e).holds

  pub loaded_viewed : (t : Tally) (v : View) → l ≡ Ok t → v ≡ view_at s t w → ListingHeld s v
  loaded_viewed t v e q = listing_viewed s t w v (loaded_holds t e) q

  module _ (path method names : Text) (login : ℕ) (d : Decision) where
    -- then the request decides
    pub loaded_decided : (t : Tally) → l ≡ Ok t → d ≡ decide_request (asked s path method login names)
        → d ≡ decide_listing (asked s path method login names) (reading_of s)
    loaded_decided t e q = rw (← L.answer, e) q

    -- and one that is refused is refused
    pub loaded_refused : (r : Refusal) (k : ℕ) → l ≡ Err r → k ≡ number_of r.fault → d ≡ refused k 1 r.line
        → d ≡ decide_listing (asked s path method login names) (reading_of s)
    loaded_refused r k e p q = rw (← L.answer, e, ← p) q

-- ---- the first n numbers of w, lent: a is what they become
-- what is held in them is held still
pub back_outcome : (n : ℕ) (w a : List ℕ) → n ≤ length w → length a ≡ length (take n w) → (s : Text) (l : Result Tally Refusal) → LoadOutcome s l a → LoadOutcome s l (take n (a ++ drop n w))
back_outcome n w a within kept s l L = rw (back_first n w a within kept) L

-- ---- the whole call
module _ (s path method names : Text) (login : ℕ) (w : List ℕ) (d : Decision) where
  -- the work table is too short
  pub decide_short : (b : Bool) → b ≡ is_short w → b ≡ true → d ≡ refused 1 0 0 → DecideOutcome (asked s path method login names) w d w
  unfolding decision_of work_after
  decide_short b is y e =
      let h = too_short w b is y in
      record { decision = rw (lt-ltb _ _ h) e; work = rw (lt-ltb _ _ h) }

  -- it is long enough
  pub decide_long : (w' : List ℕ) (b : Bool) → b ≡ is_short w → b ≡ false → (d ≡ decide_listing (asked s path method login names) (reading_of s)) × (w' ≡ zeroed 4096 w)
      → DecideOutcome (asked s path method login names) w d w'
  unfolding decision_of work_after
  decide_long w' b is n e =
      let h = long_enough w b is n in
      record { decision = rw (le-ltb _ _ h) e.0; work = rw (le-ltb _ _ h) e.1 }
