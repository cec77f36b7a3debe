-- What is asked of the call's outcomes holds: specs/Demands.
use mathlib.Core.Path.{◌≡◌, refl, sym, ap, ap₂, subst, ◌∙◌}
use mathlib.Core.List.{List, ◌++◌}
use Prim.Native.Nat.{ℕ, ◌≤◌, ◌<◌}
use native.Mathlib.Omega.{arith}
use lib.ListN.{length, take, drop, replicate, length-append, length-drop}
use lib.Seq.{take-append_seam}
use borrow.Author.Tests.{lt-ltb, le-ltb}
use Rattle.text.specs.Texts.{Text}
use Rattle.limits.specs.Limits.{most_bytes}
use Rattle.worktable.specs.Work.{work_size, zeroed, work_after}
use Rattle.documents.specs.Parts.{Fault}
use Rattle.listings.specs.Refusals.{reading_of}
use Rattle.portals.specs.Listings.{written}
use Rattle.portals.specs.Outcomes.{most_xml, fault_number, Handed, handed_of, buffer_after, FromOutcome}
use Rattle.portals.specs.Demands.{LookedAt, StopsAt, ListedAs, Answered, table_too_short, file_too_long, faulty, listing_too_long, buffer_too_small, listing, DefiniteListing, EveryListingIsDefinite, WrittenIsAccepted, EveryListingIsAccepted}
use Rattle.portals.proofs.Exactly.{one_meaning}
use Rattle.portals.proofs.Rows.{fault_apart, fault_numbers_differ, answered_is, answer_given}

-- ---- the row that a number tells
module _ (s out : Text) (w : List ℕ) where
  told_1 : {q : Handed} {b : Text} → Answered s out w q b → q.number ≡ 1 → length w < work_size
  told_1 (table_too_short h) e = h
  told_1 (file_too_long h i) e = absurd (omega arith)
  told_1 (faulty {e = f} h i) e = absurd (omega (arith, (fault_apart f).above, e))
  told_1 (listing_too_long h l i) e = absurd (omega arith)
  told_1 (buffer_too_small h l i j) e = absurd (omega arith)
  told_1 (listing h l i j) e = absurd (omega arith)

  told_16 : {q : Handed} {b : Text} → Answered s out w q b → q.number ≡ 16 → (work_size ≤ length w) × (most_xml < length s)
  told_16 (table_too_short h) e = absurd (omega arith)
  told_16 (file_too_long h i) e = (h, i)
  told_16 (faulty {e = f} h i) e = absurd ((fault_apart f).no_16 e)
  told_16 (listing_too_long h l i) e = absurd (omega arith)
  told_16 (buffer_too_small h l i j) e = absurd (omega arith)
  told_16 (listing h l i j) e = absurd (omega arith)

  told_2 : {q : Handed} {b : Text} → Answered s out w q b → q.number ≡ 2 → LookedAt s w × ((t : Text) × ListedAs s t × (most_bytes < length t))
  told_2 (table_too_short h) e = absurd (omega arith)
  told_2 (file_too_long h i) e = absurd (omega arith)
  told_2 (faulty {e = f} h i) e = absurd (omega (arith, (fault_apart f).above, e))
  told_2 (listing_too_long {t = t} h l i) e = (h, (t, l, i))
  told_2 (buffer_too_small h l i j) e = absurd (omega arith)
  told_2 (listing h l i j) e = absurd (omega arith)

  told_15 : {q : Handed} {b : Text} → Answered s out w q b → q.number ≡ 15 → LookedAt s w × ((t : Text) × ListedAs s t × (length t ≤ most_bytes) × (length out < length t))
  told_15 (table_too_short h) e = absurd (omega arith)
  told_15 (file_too_long h i) e = absurd (omega arith)
  told_15 (faulty {e = f} h i) e = absurd ((fault_apart f).no_15 e)
  told_15 (listing_too_long h l i) e = absurd (omega arith)
  told_15 (buffer_too_small {t = t} h l i j) e = (h, (t, l, i, j))
  told_15 (listing h l i j) e = absurd (omega arith)

  told_0 : {q : Handed} {b : Text} → Answered s out w q b → q.number ≡ 0 → LookedAt s w × ((t : Text) × ListedAs s t × (length t ≤ most_bytes) × (length t ≤ length out))
  told_0 (table_too_short h) e = absurd (omega arith)
  told_0 (file_too_long h i) e = absurd (omega arith)
  told_0 (faulty {e = f} h i) e = absurd (omega (arith, (fault_apart f).above, e))
  told_0 (listing_too_long h l i) e = absurd (omega arith)
  told_0 (buffer_too_small h l i j) e = absurd (omega arith)
  told_0 (listing {t = t} h l i j) e = (h, (t, l, i, j))

  told_fault : {q : Handed} {b : Text} → Answered s out w q b → (e : Fault) → q.number ≡ fault_number e → LookedAt s w × StopsAt s e q.line
  told_fault (table_too_short h) e n = absurd (omega (arith, (fault_apart e).above, n))
  told_fault (file_too_long h i) e n = absurd ((fault_apart e).no_16 (sym n))
  told_fault (faulty {e = f} {l = l} h i) e n = (h, subst (λ (x : Fault). StopsAt s x l) (fault_numbers_differ f e n) i)
  told_fault (listing_too_long h l i) e n = absurd (omega (arith, (fault_apart e).above, n))
  told_fault (buffer_too_small h l i j) e n = absurd ((fault_apart e).no_15 (sym n))
  told_fault (listing h l i j) e n = absurd (omega (arith, (fault_apart e).above, n))

  -- beside every number but 0 the buffer is unchanged; its length never changes
  told_silent : {q : Handed} {b : Text} → Answered s out w q b → 1 ≤ q.number → b ≡ out
  told_silent (table_too_short h) e = refl
  told_silent (file_too_long h i) e = refl
  told_silent (faulty h i) e = refl
  told_silent (listing_too_long h l i) e = refl
  told_silent (buffer_too_small h l i j) e = refl
  told_silent (listing h l i j) e = absurd (omega arith)

  told_room : {q : Handed} {b : Text} → Answered s out w q b → length b ≡ length out
  told_room (table_too_short h) = refl
  told_room (file_too_long h i) = refl
  told_room (faulty h i) = refl
  told_room (listing_too_long h l i) = refl
  told_room (buffer_too_small h l i j) = refl
  told_room (listing {t = t} h l i j) = omega (arith, length-append t (drop (length t) out), length-drop (length t) out, j)

-- a file has one listing
one_listing : (s t u : Text) → ListedAs s t → ListedAs s u → t ≡ u
one_listing s t u (rs, m, e) (qs, n, f) = e ∙ ap written (one_meaning s rs qs m n) ∙ sym f

-- ---- outcomes
module _ (s out : Text) (w : List ℕ) (r : Handed) (out' : Text) (w' : List ℕ) (O : FromOutcome s out w r out' w') where
  -- an outcome is the row that is given, and no other
  pub outcome_given : Answered s out w r out'
  outcome_given =
      let a = answer_given s out w in
      subst (λ (q : Handed). Answered s out w q out') (sym O.answer) (subst (λ (b : Text). Answered s out w (handed_of s (length out) w) b) (sym O.buffer) a)

  pub outcome_is : {q : Handed} {b : Text} → Answered s out w q b → (r ≡ q) × (out' ≡ b)
  outcome_is a = let e = answered_is s out w a in (O.answer ∙ e.0, O.buffer ∙ e.1)

  number_is : {q : Handed} {b : Text} → Answered s out w q b → r.number ≡ q.number
  number_is a = ap (λ (q : Handed). q.number) (outcome_is a).0

  -- where nothing is refused, and where the buffer is too small
  pub listing_stands : (t : Text) → ListedAs s t → r.number ≡ 0 → (r.length ≡ length t) × (out' ≡ t ++ drop (length t) out)
  listing_stands t l n =
      let h = told_0 s out w outcome_given n in
      let u = h.1 in
      let e = outcome_is (listing h.0 u.1 u.2 u.3) in
      let same = one_listing s u.0 t u.1 l in
      (ap (λ (q : Handed). q.length) e.0 ∙ ap length same, e.1 ∙ ap (λ (x : Text). x ++ drop (length x) out) same)

  length_needed : (t : Text) → ListedAs s t → r.number ≡ 15 → r.length ≡ length t
  length_needed t l n =
      let h = told_15 s out w outcome_given n in
      let u = h.1 in
      let e = outcome_is (buffer_too_small h.0 u.1 u.2 u.3) in
      ap (λ (q : Handed). q.length) e.0 ∙ ap length (one_listing s u.0 t u.1 l)

  -- of the work table
  left_untouched : length w < work_size → w' ≡ w
  unfolding work_after
  left_untouched h = O.work ∙ rw (lt-ltb (length w) work_size h)

  left_zeroed : work_size ≤ length w → w' ≡ replicate work_size 0 ++ drop work_size w
  unfolding work_after zeroed
  left_zeroed h = O.work ∙ rw (le-ltb (length w) work_size h)

-- of a work table that is long enough nothing counts
table_never_matters : (s out : Text) (w z : List ℕ) → work_size ≤ length w → work_size ≤ length z
    → (handed_of s (length out) w ≡ handed_of s (length out) z) × (buffer_after s out w ≡ buffer_after s out z)
unfolding handed_of buffer_after
table_never_matters s out w z h i = rw (le-ltb (length w) work_size h, le-ltb (length z) work_size i) (refl, refl)

-- ---- the demands
pub listing_definite : EveryListingIsDefinite
listing_definite = record {
  answered = λ s out w. (handed_of s (length out) w, buffer_after s out w, work_after w, record { answer = refl; buffer = refl; work = refl });
  definite = definite;
}
  where
    definite : (s out : Text) (w : List ℕ) (r : Handed) (out' : Text) (w' : List ℕ) → FromOutcome s out w r out' w' → DefiniteListing s out w r out' w'
    definite s out w r out' w' O =
        let given = outcome_given s out w r out' w' O in
        record {
          settled = λ q b v P. (O.answer ∙ sym P.answer, O.buffer ∙ sym P.buffer, O.work ∙ sym P.work);
          alike = λ z q b v h i P. let e = table_never_matters s out w z h i in (O.answer ∙ e.0 ∙ sym P.answer, O.buffer ∙ e.1 ∙ sym P.buffer);
          row = λ q b. (λ e. rw (← e.0, ← e.1) given, λ a. outcome_is s out w r out' w' O a);
          refuses_table = (told_1 s out w given, λ h. number_is s out w r out' w' O (table_too_short h));
          refuses_file = (told_16 s out w given, λ h. number_is s out w r out' w' O (file_too_long h.0 h.1));
          refuses_at = λ e l. (
            λ n. let h = told_fault s out w given e n.0 in (h.0, subst (StopsAt s e) n.1 h.1),
            λ h. let i = outcome_is s out w r out' w' O (faulty h.0 h.1) in (ap (λ (q : Handed). q.number) i.0, ap (λ (q : Handed). q.line) i.0),
          );
          refuses_listing = (told_2 s out w given, λ h. number_is s out w r out' w' O (listing_too_long h.0 h.1.1 h.1.2));
          refuses_buffer = (told_15 s out w given, λ h. number_is s out w r out' w' O (buffer_too_small h.0 h.1.1 h.1.2 h.1.3));
          accepts = (told_0 s out w given, λ h. number_is s out w r out' w' O (listing h.0 h.1.1 h.1.2 h.1.3));
          needed = length_needed s out w r out' w' O;
          stands = listing_stands s out w r out' w' O;
          silent = told_silent s out w given;
          room = told_room s out w given;
          table_kept = left_untouched s out w r out' w' O;
          table_zeroed = left_zeroed s out w r out' w' O;
        }

-- what is written is accepted, and so is what stands in the buffer
pub listing_is_accepted : WrittenIsAccepted → EveryListingIsAccepted
listing_is_accepted written_is_accepted s out w r out' w' O n =
    let h = (told_0 s out w (outcome_given s out w r out' w' O) n).1 in
    let rs = h.1.0 in
    let short : length (written rs) ≤ most_bytes = subst (λ (t : Text). length t ≤ most_bytes) h.1.2 h.2 in
    let e = listing_stands s out w r out' w' O (written rs) (rs, h.1.1, refl) n in
    ap₂ (λ (k : ℕ) (b : Text). reading_of (take k b)) e.0 e.1 ∙ ap reading_of (take-append_seam (written rs) (drop (length (written rs)) out))
    ∙ written_is_accepted s rs h.1.1 short
