-- What the customer is promised of comparing: of any outcome that satisfies the call's statement.
use mathlib.Core.Path.{◌≡◌, refl, sym, ap, ◌∙◌}
use mathlib.Core.List.{List, ◌++◌}
use mathlib.Core.Logic.{◌⊎◌, inl, inr, ◌↔◌}
use mathlib.Core.Option.{Option, none, some}
use Prim.Native.Nat.{ℕ, ◌≤◌}
use native.Mathlib.Omega.{arith}
use lib.ListN.{length, take, drop, length-append, length-drop, get_or}
use lib.Seq.{take-append_seam, drop-append_seam}
use borrow.Author.Tests.{le-ltb}
use Rattle.text.specs.Texts.{Text, bytes}
use Rattle.listings.specs.Refusals.{accepted, reading_of}
use Rattle.listings.specs.Listings.{listing_of}
use Rattle.worktable.specs.Work.{work_size}
use Rattle.decisions.specs.Requests.{Request}
use Rattle.trials.specs.Verdicts.{verdict}
use Rattle.trials.specs.Demands.{Shown}
use Rattle.trials.specs.Answers.{line_of, answer_of}
use Rattle.comparisons.specs.declared.answers.Comparison.{Comparison}
use Rattle.comparisons.specs.Outcomes.{Compared, refused_for, answered, answer_size, compared, comparison_for, answer_for, comparison_of, answer_after, CompareOutcome}
use Rattle.comparisons.specs.Demands.{NothingGained}
use Rattle.reading.proofs.Accepted.{accepted_proper}
use Rattle.trials.proofs.NoWider.{wider}
use Rattle.trials.proofs.AnswersTell.{no_wider_length, wider_length, answer_fits}
use Rattle.comparisons.proofs.ByCalls.{no_wider_by_calls}

-- ---- the two forms of the answer
no_wider_text : answer_of none ≡ bytes "verdict\tno wider\n"
unfolding answer_of line_of
no_wider_text = refl

-- they differ in their ninth byte
forms_differ : (r : Request) → answer_of (some r) ≡ bytes "verdict\tno wider\n" → ⊥
unfolding answer_of line_of
forms_differ r e = let z : ◌≡◌ {A = ℕ} 119 110 = ap (λ (t : Text). get_or t 8 0) e in omega arith

-- ---- a refusal
module _ (old new answer : Text) (work : List ℕ) (c : Comparison) (left : Text) (workLeft : List ℕ) (O : CompareOutcome old new answer work c left workLeft) where
  -- with a refusal the answer buffer doesn't change and the length is 0
  pub refusal_writes_nothing : (1 ≤ c.report.number) → (left ≡ answer) × (c.length ≡ 0)
  unfolding comparison_of answer_after
  refusal_writes_nothing h = go (compared old new answer work) O.handed O.buffer
    where
      go : (x : Compared) → c ≡ comparison_for x → left ≡ answer_for x answer → (left ≡ answer) × (c.length ≡ 0)
      go (refused_for number side line) e f = (f, ap (λ (d : Comparison). d.length) e)
      go (answered t) e f = let z : c.report.number ≡ 0 = ap (λ (d : Comparison). d.report.number) e in absurd (omega arith)

  -- ---- without one
  module _ (long : work_size ≤ length work) (room : answer_size ≤ length answer) (o : reading_of old ≡ accepted) (n : reading_of new ≡ accepted) where
    abbrev text : Text
    text = answer_of (verdict (listing_of old) (listing_of new))

    is_answered : compared old new answer work ≡ answered text
    unfolding compared
    is_answered = rw (le-ltb (length work) work_size long, le-ltb (length answer) answer_size room, o, n)

    left_is : left ≡ text ++ drop (length text) answer
    unfolding answer_after
    left_is = O.buffer ∙ ap (λ (x : Compared). answer_for x answer) is_answered

    handed_is : c ≡ comparison_for (answered text)
    unfolding comparison_of
    handed_is = O.handed ∙ ap comparison_for is_answered

    length_is : c.length ≡ length text
    length_is = ap (λ (d : Comparison). d.length) handed_is

    written_is : take c.length left ≡ text
    written_is = rw (length_is, left_is) (take-append_seam text (drop (length text) answer))

    -- number, side and line are 0
    pub nothing_refused : (c.report.number ≡ 0) × (c.report.side ≡ 0) × (c.report.line ≡ 0)
    nothing_refused = (ap (λ (d : Comparison). d.report.number) handed_is, ap (λ (d : Comparison). d.report.side) handed_is, ap (λ (d : Comparison). d.report.line) handed_is)

    -- the buffer keeps its length, and the bytes past the answer
    pub rest_kept : (length left ≡ length answer) × (drop c.length left ≡ drop c.length answer)
    rest_kept =
        let s = answer_fits (listing_of old) (listing_of new) (accepted_proper old o) (accepted_proper new n) in
        let a = ap length left_is ∙ length-append text (drop (length text) answer) in
        let d = length-drop (length text) answer in
        (omega arith, rw (length_is, left_is) (drop-append_seam text (drop (length text) answer)))

    -- the answer is `verdict⇥no wider` exactly where deciding, asked anything at all, grants with the new listing nothing that it denies with the old one
    pub no_wider_exactly : (take c.length left ≡ bytes "verdict\tno wider\n") ↔ NothingGained old new
    no_wider_exactly = (there, λ g. written_is ∙ ap answer_of ((no_wider_by_calls old new o n).1 g) ∙ no_wider_text)
      where
        none_of : (v : Option Request) → answer_of v ≡ bytes "verdict\tno wider\n" → v ≡ none
        none_of none e = refl
        none_of (some r) e = absurd (forms_differ r e)

        there : take c.length left ≡ bytes "verdict\tno wider\n" → NothingGained old new
        there e = (no_wider_by_calls old new o n).0 (none_of (verdict (listing_of old) (listing_of new)) (sym written_is ∙ e))

    -- so it is exactly where the length is 17
    pub no_wider_by_length : (c.length ≡ 17) ↔ NothingGained old new
    no_wider_by_length = (
      λ e. (no_wider_by_calls old new o n).0 (none_of (verdict (listing_of old) (listing_of new)) (sym length_is ∙ e)),
      λ g. length_is ∙ ap (λ (v : Option Request). length (answer_of v)) ((no_wider_by_calls old new o n).1 g) ∙ no_wider_length,
    )
      where
        none_of : (v : Option Request) → length (answer_of v) ≡ 17 → v ≡ none
        none_of none e = refl
        none_of (some r) e = let l = wider_length r in absurd (omega arith)

    -- and else the four lines of a request that is granted anew, the first of the trials
    pub else_wider : (take c.length left ≡ bytes "verdict\tno wider\n")
        ⊎ ((r : Request) × (take c.length left ≡ answer_of (some r)) × Shown (listing_of old) (listing_of new) r)
    else_wider = go (verdict (listing_of old) (listing_of new)) refl
      where
        go : (v : Option Request) → verdict (listing_of old) (listing_of new) ≡ v
            → (take c.length left ≡ bytes "verdict\tno wider\n") ⊎ ((r : Request) × (take c.length left ≡ answer_of (some r)) × Shown (listing_of old) (listing_of new) r)
        go none e = inl (written_is ∙ ap answer_of e ∙ no_wider_text)
        go (some r) e = inr (r, written_is ∙ ap answer_of e, wider (listing_of old) (listing_of new) (accepted_proper old o) (accepted_proper new n) r e)
