-- The functions of the whole call: what each hands to the next is what the outcome speaks of.
use mathlib.Core.Path.{◌≡◌, ap, ◌∙◌}
use mathlib.Core.Bool.{Bool, true, false}
use mathlib.Core.List.{List, ◌++◌}
use Prim.Native.Nat.{ℕ, ◌+◌, ◌*◌, ◌≤◌, ◌<◌}
use native.Mathlib.Omega.{arith}
use lib.ListN.{length, take, drop, replicate}
use lib.Seq.{drop-drop, drop-append-add}
use borrow.Author.Tests.{lt-ltb, le-ltb}
use Rattle.std.specs.Prelude.{Result, Ok, Err}
use Rattle.std.proofs.lemmas.List.{take_all}
use Rattle.text.specs.Texts.{Text}
use Rattle.worktable.specs.Work.{zeroed, work_after, is_short}
use Rattle.worktable.proofs.Lengths.{too_short, long_enough}
use Rattle.listings.specs.Refusals.{number_of, reading_of, report}
use Rattle.reading.specs.Holds.{HoldsListing, ListingHeld, LoadOutcome}
use Rattle.reading.specs.Views.{View, view_at}
use Rattle.entries.specs.declared.tables.Tally.{Tally}
use Rattle.reading.specs.declared.reader.Refusal.{Refusal}
use Rattle.comparisons.specs.Outcomes.{Compared, compared_both, compared_old, compared, comparison_for, answer_for, comparison_of, answer_after, CompareOutcome}
use Rattle.grants.specs.Scratch.{Numbered}
use Rattle.grants.specs.declared.scratch.Counts.{Counts}
use Rattle.comparing.specs.Tellings.{BothRead, Prepared, compared_hit}
use Rattle.comparing.proofs.Tellings.{listings_told}
use Rattle.walks.specs.Walks.{walked}
use Rattle.comparisons.specs.declared.answers.Comparison.{Comparison}

-- ---- two listings that are held
module _ (s t : Text) (old new : View) (B : BothRead s t old new) where
  module _ (x : List ℕ) (c : Counts) (l : length x ≡ 2048) (Z : Numbered old new (take 2048 x) c) where
    numbers_in : Numbered old new x c
    numbers_in = let all : take 2048 x ≡ x = take_all 2048 x (omega arith) in rw all at Z

    pub both_prepared : Prepared old new x c
    both_prepared = record { olds = B.olds.proper; news = B.news.proper; numbers = numbers_in }

    -- what the walk finds is the verdict of the two listings
    pub held_handed : (r : Comparison) → r ≡ comparison_for (compared_hit old new (walked x c)) → r ≡ comparison_for (compared_both s t)
    held_handed r e = e ∙ ap comparison_for (listings_told s t old new B x c numbers_in)

    pub held_written : (out out' : Text) → out' ≡ answer_for (compared_hit old new (walked x c)) out → out' ≡ answer_for (compared_both s t) out
    held_written out out' e = e ∙ ap (λ (y : Compared). answer_for y out) (listings_told s t old new B x c numbers_in)

-- read, with its view
listing_held : (s : Text) (t : Tally) (w : List ℕ) (v : View) → HoldsListing s t w → v ≡ view_at s t w → ListingHeld s v
listing_held s t w v H e = record { accepts = H.accepts; proper = rw e H.holds.proper; view = e ∙ H.view }

module _ (old new : Text) (lo ln : Result Tally Refusal) (wo wn : List ℕ) (to tn : Tally) (O : LoadOutcome old lo wo) (N : LoadOutcome new ln wn) (p : lo ≡ Ok to) (q : ln ≡ Ok tn) where
  old_holds : HoldsListing old to wo
  old_holds = rw p at O.holds

  new_holds : HoldsListing new tn wn
  new_holds = rw q at N.holds

  pub both_read : (u v : View) → u ≡ view_at old to wo → v ≡ view_at new tn wn → BothRead old new u v
  both_read u v e f = record { olds = listing_held old to wo u old_holds e; news = listing_held new tn wn v new_holds f }

-- ---- what is compared once both are read
module _ (old new : Text) (lo ln : Result Tally Refusal) (wo wn : List ℕ) (O : LoadOutcome old lo wo) (N : LoadOutcome new ln wn) where
  -- the old listing is refused
  module _ (f : Refusal) (e : lo ≡ Err f) where
    pub old_refused : (k : ℕ) → k ≡ number_of f.fault → (x : Comparison) → x ≡ record { report = report k 1 f.line; length = 0 } → x ≡ comparison_for (compared_old old new (reading_of old))
    old_refused k p x q = rw (← O.answer, e, ← p) q

    pub old_keeps : (answer : Text) → answer ≡ answer_for (compared_old old new (reading_of old)) answer
    old_keeps answer = rw (← O.answer, e)

  module _ (to : Tally) (whole : lo ≡ Ok to) where
    -- the new one is
    module _ (f : Refusal) (e : ln ≡ Err f) where
      pub new_refused : (k : ℕ) → k ≡ number_of f.fault → (x : Comparison) → x ≡ record { report = report k 2 f.line; length = 0 } → x ≡ comparison_for (compared_old old new (reading_of old))
      new_refused k p x q = rw (← O.answer, whole, ← N.answer, e, ← p) q

      pub new_keeps : (answer : Text) → answer ≡ answer_for (compared_old old new (reading_of old)) answer
      new_keeps answer = rw (← O.answer, whole, ← N.answer, e)

    -- neither is
    module _ (tn : Tally) (e : ln ≡ Ok tn) where
      pub both_handed : (x : Comparison) → x ≡ comparison_for (compared_both old new) → x ≡ comparison_for (compared_old old new (reading_of old))
      both_handed x p = rw (← O.answer, whole, ← N.answer, e) p

      pub both_written : (answer answer' : Text) → answer' ≡ answer_for (compared_both old new) answer → answer' ≡ answer_for (compared_old old new (reading_of old)) answer
      both_written answer answer' p = rw (← O.answer, whole, ← N.answer, e) p

-- ---- the work table
-- the first 4n numbers are zero, whatever the listings' parts a and b and the scratch x became
pub table_zeroed : (n : ℕ) (w a b x r s w' : List ℕ) → w' ≡ zeroed (4 * n) (a ++ (b ++ (x ++ drop (2 * n) s))) → length a ≡ n → length b ≡ n → length x ≡ 2 * n → r ≡ drop n w → s ≡ drop n r
    → w' ≡ zeroed (4 * n) w
unfolding zeroed
table_zeroed n w a b x r s w' z p q l e f = z ∙ ap (λ (y : List ℕ). replicate (4 * n) 0 ++ y) (rest ∙ ap (drop (2 * n)) (f ∙ ap (drop n) e) ∙ behind)
  where
    rest : drop (4 * n) (a ++ (b ++ (x ++ drop (2 * n) s))) ≡ drop (2 * n) s
    rest =
        let k : 4 * n ≡ length a + (length b + (length x + 0)) = omega (arith, p, q, l) in
        ap (λ (k : ℕ). drop k (a ++ (b ++ (x ++ drop (2 * n) s)))) k
        ∙ drop-append-add a (b ++ (x ++ drop (2 * n) s)) (length b + (length x + 0))
        ∙ drop-append-add b (x ++ drop (2 * n) s) (length x + 0)
        ∙ drop-append-add x (drop (2 * n) s) 0

    behind : drop (2 * n) (drop n (drop n w)) ≡ drop (4 * n) w
    behind =
        let k : n + (n + 2 * n) ≡ 4 * n = omega arith in
        drop-drop (2 * n) n (drop n w) ∙ drop-drop (n + 2 * n) n w ∙ ap (λ (k : ℕ). drop k w) k

-- ---- the whole call
module _ (old new answer : Text) (w : List ℕ) (x : Comparison) where
  -- the work table is too short
  pub compare_short : (b : Bool) → b ≡ is_short w → b ≡ true → x ≡ record { report = report 1 0 0; length = 0 } → CompareOutcome old new answer w x answer w
  unfolding comparison_of answer_after compared work_after
  compare_short b is y e =
      let h = too_short w b is y in
      record { handed = rw (lt-ltb _ _ h) e; buffer = rw (lt-ltb _ _ h); worked = rw (lt-ltb _ _ h) }

  module _ (b : Bool) (is : b ≡ is_short w) (n : b ≡ false) (w' : List ℕ) where
    long : 4096 ≤ length w
    long = long_enough w b is n

    -- the answer buffer is
    pub compare_small : length answer < 1024 → x ≡ record { report = report 14 0 0; length = 0 } → w' ≡ zeroed 4096 w → CompareOutcome old new answer w x answer w'
    unfolding comparison_of answer_after compared work_after
    compare_small h e z = record { handed = rw (le-ltb _ _ long, lt-ltb _ _ h) e; buffer = rw (le-ltb _ _ long, lt-ltb _ _ h); worked = rw (le-ltb _ _ long) z }

    -- neither is
    pub compare_long : (answer' : Text) → 1024 ≤ length answer
        → (x ≡ comparison_for (compared_old old new (reading_of old))) × ((answer' ≡ answer_for (compared_old old new (reading_of old)) answer) × (w' ≡ zeroed 4096 w))
        → CompareOutcome old new answer w x answer' w'
    unfolding comparison_of answer_after compared work_after
    compare_long answer' h p =
        record { handed = rw (le-ltb _ _ long, le-ltb _ _ h) p.0; buffer = rw (le-ltb _ _ long, le-ltb _ _ h) p.1.0; worked = rw (le-ltb _ _ long) p.1.1 }
