-- What the call hands back and leaves in the buffer is the row of specs/Demands that is given, and no other row is.
use mathlib.Core.Path.{◌≡◌, refl, sym, ap, subst, ◌∙◌}
use mathlib.Core.Bool.{Bool, true, false, cond}
use mathlib.Core.List.{List, [], ◌++◌}
use Prim.Native.Nat.{ℕ, ◌≤◌, ◌<◌}
use native.Mathlib.Omega.{arith}
use lib.Dec.{eqb, ltb}
use lib.ListN.{length, drop}
use borrow.Author.Tests.{ltb-true, ltb-false, lt-ltb, le-ltb, ne_eqb}
use Rattle.text.specs.Texts.{Text}
use Rattle.limits.specs.Limits.{most_bytes}
use Rattle.worktable.specs.Work.{work_size}
use Rattle.documents.specs.Parts.{Fault, malformed, deep, unwanted, bad_name, bad_pattern, role_twice, past_most, Got, got, fault}
use Rattle.listings.specs.Records.{Record}
use Rattle.portals.specs.Listings.{written}
use Rattle.portals.specs.Readings.{file_of}
use Rattle.portals.specs.Outcomes.{most_xml, fault_number, Handed, handed, made_of, read_by, handed_of, buffer_after}
use Rattle.portals.specs.Demands.{LookedAt, ListedAs, Answered, table_too_short, file_too_long, faulty, listing_too_long, buffer_too_small, listing}
use Rattle.portals.proofs.Complete.{file_complete}
use Rattle.portals.proofs.Exactly.{accepts_exactly}

-- ---- the number of a fault is no other row's, and no other fault's
pub record Apart (n : ℕ) : Type 0 where
  pub above : 6 ≤ n
  pub no_15 : n ≡ 15 → ⊥
  pub no_16 : n ≡ 16 → ⊥

pub fault_apart : (e : Fault) → Apart (fault_number e)
fault_apart malformed = record { above = omega arith; no_15 = λ h. omega arith; no_16 = λ h. omega arith }
fault_apart deep = record { above = omega arith; no_15 = λ h. omega arith; no_16 = λ h. omega arith }
fault_apart unwanted = record { above = omega arith; no_15 = λ h. omega arith; no_16 = λ h. omega arith }
fault_apart bad_name = record { above = omega arith; no_15 = λ h. omega arith; no_16 = λ h. omega arith }
fault_apart bad_pattern = record { above = omega arith; no_15 = λ h. omega arith; no_16 = λ h. omega arith }
fault_apart role_twice = record { above = omega arith; no_15 = λ h. omega arith; no_16 = λ h. omega arith }
fault_apart past_most = record { above = omega arith; no_15 = λ h. omega arith; no_16 = λ h. omega arith }

-- the fault of a number
abbrev fault_of : ℕ → Fault
fault_of n = cond (eqb n 17) malformed (cond (eqb n 18) deep (cond (eqb n 19) unwanted (cond (eqb n 6) bad_name (cond (eqb n 7) bad_pattern (cond (eqb n 9) role_twice past_most)))))

fault_again : (e : Fault) → fault_of (fault_number e) ≡ e
fault_again malformed = refl
fault_again deep = refl
fault_again unwanted = refl
fault_again bad_name = refl
fault_again bad_pattern = refl
fault_again role_twice = refl
fault_again past_most = refl

pub fault_numbers_differ : (e f : Fault) → fault_number e ≡ fault_number f → e ≡ f
fault_numbers_differ e f h = sym (fault_again e) ∙ ap fault_of h ∙ fault_again f

-- ---- what is handed back
module _ (s : Text) (room : ℕ) (w : List ℕ) where
  handed_short : length w < work_size → handed_of s room w ≡ handed 1 0 0 0
  unfolding handed_of
  handed_short h = rw (lt-ltb (length w) work_size h)

  handed_long : work_size ≤ length w → most_xml < length s → handed_of s room w ≡ handed 16 1 0 0
  unfolding handed_of
  handed_long h i = rw (le-ltb (length w) work_size h, lt-ltb most_xml (length s) i)

  handed_read : LookedAt s w → {g : Got (List Record)} → file_of s ≡ g → handed_of s room w ≡ read_by s g room
  unfolding handed_of
  handed_read h e = rw (le-ltb (length w) work_size h.0, le-ltb most_xml (length s) h.1, e)

made_long : (t : Text) (room : ℕ) → most_bytes < length t → made_of t room ≡ handed 2 1 0 0
unfolding made_of
made_long t room h = rw (lt-ltb most_bytes (length t) h)

made_small : (t : Text) (room : ℕ) → length t ≤ most_bytes → room < length t → made_of t room ≡ handed 15 0 0 (length t)
unfolding made_of
made_small t room h i = rw (le-ltb most_bytes (length t) h, lt-ltb room (length t) i)

made_whole : (t : Text) (room : ℕ) → length t ≤ most_bytes → length t ≤ room → made_of t room ≡ handed 0 0 0 (length t)
unfolding made_of
made_whole t room h i = rw (le-ltb most_bytes (length t) h, le-ltb room (length t) i)

-- a file that means something is read to its end
listed_read : (s t : Text) → ListedAs s t → (rs : List Record) × (file_of s ≡ got rs []) × (t ≡ written rs)
listed_read s t (rs, m, e) = (rs, file_complete s rs m, e)

module _ (s out : Text) (w : List ℕ) where
  handed_listed : LookedAt s w → (t : Text) → ListedAs s t → handed_of s (length out) w ≡ made_of t (length out)
  handed_listed h t l = let i = listed_read s t l in handed_read s (length out) w h i.1 ∙ ap (λ (u : Text). made_of u (length out)) (sym i.2)

  -- ---- what the buffer holds
  buffer_kept : {q : Handed} → handed_of s (length out) w ≡ q → 1 ≤ q.number → buffer_after s out w ≡ out
  unfolding buffer_after
  buffer_kept {q} e h = rw (e, ne_eqb q.number 0 (λ i. omega (arith, h, i)))

  buffer_listed : {q : Handed} → handed_of s (length out) w ≡ q → q.number ≡ 0 → (t : Text) → ListedAs s t → buffer_after s out w ≡ t ++ drop (length t) out
  unfolding buffer_after
  buffer_listed e h t l = let i = listed_read s t l in rw (e, h, i.1) (ap (λ (u : Text). u ++ drop (length u) out) (sym i.2))

  -- ---- a row that is given is the answer
  pub answered_is : {q : Handed} {b : Text} → Answered s out w q b → (handed_of s (length out) w ≡ q) × (buffer_after s out w ≡ b)
  answered_is (table_too_short h) = let e = handed_short s (length out) w h in (e, buffer_kept e (omega arith))
  answered_is (file_too_long h i) = let e = handed_long s (length out) w h i in (e, buffer_kept e (omega arith))
  answered_is (faulty {e = f} {l = l} h (n, i, j)) =
      let e : handed_of s (length out) w ≡ handed (fault_number f) 1 l 0 = handed_read s (length out) w h i ∙ ap (λ (x : ℕ). handed (fault_number f) 1 x 0) (sym j) in
      (e, buffer_kept e (omega (arith, (fault_apart f).above)))
  answered_is (listing_too_long {t = t} h l i) = let e = handed_listed h t l ∙ made_long t (length out) i in (e, buffer_kept e (omega arith))
  answered_is (buffer_too_small {t = t} h l i j) = let e = handed_listed h t l ∙ made_small t (length out) i j in (e, buffer_kept e (omega arith))
  answered_is (listing {t = t} h l i j) = let e = handed_listed h t l ∙ made_whole t (length out) i j in (e, buffer_listed e refl t l)

  -- ---- some row is given
  abbrev Given : Type 0
  Given = (q : Handed) × (b : Text) × Answered s out w q b

  given_listed : LookedAt s w → (t : Text) → ListedAs s t → Given
  given_listed h t l = by_most (ltb most_bytes (length t)) refl
    where
      by_room : length t ≤ most_bytes → (x : Bool) → ltb (length out) (length t) ≡ x → Given
      by_room i true e = (_, _, buffer_too_small h l i (ltb-true _ _ e))
      by_room i false e = (_, _, listing h l i (ltb-false _ _ e))

      by_most : (x : Bool) → ltb most_bytes (length t) ≡ x → Given
      by_most true e = (_, _, listing_too_long h l (ltb-true _ _ e))
      by_most false e = by_room (ltb-false _ _ e) (ltb (length out) (length t)) refl

  given_read : LookedAt s w → (g : Got (List Record)) → file_of s ≡ g → Given
  given_read h (got rs r) e = given_listed h (written rs) (rs, (accepts_exactly.sound s rs r e).0, refl)
  given_read h (fault f n) e = (_, _, faulty h (n, e, refl))

  given : Given
  given = by_table (ltb (length w) work_size) refl
    where
      by_file : work_size ≤ length w → (x : Bool) → ltb most_xml (length s) ≡ x → Given
      by_file h true e = (_, _, file_too_long h (ltb-true _ _ e))
      by_file h false e = given_read (h, ltb-false _ _ e) (file_of s) refl

      by_table : (x : Bool) → ltb (length w) work_size ≡ x → Given
      by_table true e = (_, _, table_too_short (ltb-true _ _ e))
      by_table false e = by_file (ltb-false _ _ e) (ltb most_xml (length s)) refl

  -- and so the answer is the row that is given
  pub answer_given : Answered s out w (handed_of s (length out) w) (buffer_after s out w)
  answer_given =
      let g = given in
      let e = answered_is g.2 in
      subst (λ (q : Handed). Answered s out w q (buffer_after s out w)) (sym e.0) (subst (λ (b : Text). Answered s out w g.0 b) (sym e.1) g.2)
