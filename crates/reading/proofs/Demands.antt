-- What the customer asks of `budquarry_read` holds: specs/Demands.
use mathlib.Core.Path.{◌≡◌, refl, sym, ◌∙◌}
use mathlib.Core.List.{List}
use Prim.Native.Nat.{ℕ}
use lib.ListN.{length}
use borrow.Author.Tests.{le-ltb, lt-ltb}
use Rattle.text.specs.Texts.{Text}
use Rattle.worktable.specs.Work.{work_size, zeroed, work_after}
use Rattle.listings.specs.declared.answers.Report.{Report}
use Rattle.reading.specs.Outcomes.{read_report, ReadOutcome}
use Rattle.reading.specs.Demands.{TableLeft, DefiniteReading, EveryReadingIsDefinite}
use Rattle.reading.proofs.Unique.{read_unique, table_never_matters}
use Rattle.reading.proofs.Firsts.{read_refused_exactly, read_listing_refused_exactly, read_accepted_exactly}

-- what a call leaves of the work table
pub table_left : (w left : List ℕ) → left ≡ work_after w → TableLeft w left
unfolding work_after zeroed
table_left w left e = record { short = λ h. e ∙ rw (lt-ltb (length w) work_size h); long = λ h. e ∙ rw (le-ltb (length w) work_size h) }

-- demand 1
pub reading_definite : EveryReadingIsDefinite
reading_definite = record { outcome = λ s w. (read_report s w, work_after w, record { handed = refl; work = refl }); definite = definite }
  where
    definite : (s : Text) (w : List ℕ) (r : Report) (left : List ℕ) → ReadOutcome s w r left → DefiniteReading s w r left
    definite s w r left O =
        let refused = read_refused_exactly s w in
        let ruled = read_listing_refused_exactly s w in
        let accepted = read_accepted_exactly s w in
        record {
          settled = λ r' left' P. read_unique s w r r' left left' O P;
          alike = λ w' r' left' h h' P. O.handed ∙ table_never_matters s w w' h h' ∙ sym P.handed;
          row = λ q. (λ e. (refused q).0 (sym O.handed ∙ e), λ f. O.handed ∙ (refused q).1 f);
          rule = λ f n. (λ e. (ruled f n).0 (sym O.handed ∙ e), λ b. O.handed ∙ (ruled f n).1 b);
          accepts = (λ e. accepted.0 (sym O.handed ∙ e), λ b. O.handed ∙ accepted.1 b);
          table = table_left w left O.work;
        }
