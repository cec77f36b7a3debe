-- A listing measured in the empty part of the buffer, and written where it fits.
use mathlib.Core.Path.{◌≡◌, sym, ap, ◌∙◌}
use mathlib.Core.Bool.{Bool, true, false, cond}
use mathlib.Core.List.{List, [], ◌++◌}
use Prim.Native.Nat.{ℕ, ◌≤◌, ◌<◌}
use native.Mathlib.Omega.{arith}
use lib.Dec.{eqb, ltb}
use lib.ListN.{length, take, drop, get_or}
use lib.Seq.{sets}
use borrow.Author.Tests.{lt-ltb, le-ltb}
use Rattle.text.specs.Texts.{Text}
use Rattle.limits.specs.Limits.{most_bytes}
use Rattle.writing.proofs.Puts.{sets_nothing, sets_start}
use Rattle.listings.specs.Refusals.{report}
use Rattle.listings.specs.declared.answers.Report.{Report}
use Rattle.portals.specs.Listings.{written}
use Rattle.portals.specs.Outcomes.{Handed, handed, made_of}
use Rattle.ledger.specs.Ledgers.{most_kept}
use Rattle.ledger.specs.Places.{ledger_at, records_at, size_at}
use Rattle.forming.specs.Formed.{fields_fit, Formed}
use Rattle.forming.proofs.Orders.{lent_records, lent_formed}
use Rattle.importing.specs.Calls.{Formable, made_in, formed_of, formed_in}

-- ---- what is handed back, by its report
pub handed_is : (x : Report) (number side line size : ℕ) → x ≡ report number side line → handed x.number x.side x.line size ≡ handed number side line size
handed_is x number side line size e = ap (λ (y : Report). handed y.number y.side y.line size) e

-- ---- the text t, of m bytes, for the buffer out; ys is what measuring left of its empty part
module _ (out ys t : Text) (m : ℕ) (size : m ≡ length t) (q : ys ≡ sets [] 0 t) where
  measured : ys ++ out ≡ out
  measured = ap (λ (l : Text). l ++ out) (q ∙ sets_nothing t 0)

  pub measured_length : length (ys ++ out) ≡ length out
  measured_length = ap length measured

  -- it is too long
  module _ (h : most_bytes < m) where
    long_made : made_of t (length out) ≡ handed 2 1 0 0
    unfolding made_of
    long_made = ap (λ (b : Bool). cond b (handed 2 1 0 0) (cond (ltb (length out) (length t)) (handed 15 0 0 (length t)) (handed 0 0 0 (length t)))) (lt-ltb most_bytes (length t) (omega arith))

    pub long_handed : (x : Handed) → x ≡ handed 2 1 0 0 → x ≡ made_of t (length out)
    long_handed x e = e ∙ sym long_made

    pub long_left : ys ++ out ≡ made_in t out
    unfolding made_in
    long_left = measured ∙ sym (ap (λ (x : Handed). cond (eqb x.number 0) (t ++ drop (length t) out) out) long_made)

  module _ (h : m ≤ most_bytes) where
    short_made : made_of t (length out) ≡ cond (ltb (length out) (length t)) (handed 15 0 0 (length t)) (handed 0 0 0 (length t))
    unfolding made_of
    short_made = ap (λ (b : Bool). cond b (handed 2 1 0 0) (cond (ltb (length out) (length t)) (handed 15 0 0 (length t)) (handed 0 0 0 (length t)))) (le-ltb most_bytes (length t) (omega arith))

    -- the buffer is too small
    module _ (l : length (ys ++ out) < m) where
      small_made : made_of t (length out) ≡ handed 15 0 0 (length t)
      small_made =
          let z = measured_length in
          short_made ∙ ap (λ (b : Bool). cond b (handed 15 0 0 (length t)) (handed 0 0 0 (length t))) (lt-ltb (length out) (length t) (omega arith))

      pub small_handed : (x : Handed) → x ≡ handed 15 0 0 m → x ≡ made_of t (length out)
      small_handed x e = e ∙ ap (handed 15 0 0) size ∙ sym small_made

      pub small_left : ys ++ out ≡ made_in t out
      unfolding made_in
      small_left = measured ∙ sym (ap (λ (x : Handed). cond (eqb x.number 0) (t ++ drop (length t) out) out) small_made)

    -- it fits
    module _ (l : m ≤ length (ys ++ out)) where
      enough : length t ≤ length out
      enough = let z = measured_length in omega arith

      fits_made : made_of t (length out) ≡ handed 0 0 0 (length t)
      fits_made = short_made ∙ ap (λ (b : Bool). cond b (handed 15 0 0 (length t)) (handed 0 0 0 (length t))) (le-ltb (length out) (length t) enough)

      pub fits_handed : (x : Handed) → x ≡ handed 0 0 0 m → x ≡ made_of t (length out)
      fits_handed x e = e ∙ ap (handed 0 0 0) size ∙ sym fits_made

      pub fits_left : (d : Text) → d ≡ sets (ys ++ out) 0 t → d ≡ made_in t out
      unfolding made_in
      fits_left d e =
          e ∙ ap (λ (b : Text). sets b 0 t) measured ∙ sets_start t out enough
          ∙ sym (ap (λ (x : Handed). cond (eqb x.number 0) (t ++ drop (length t) out) out) fits_made)

-- ---- the listing for what the table holds, n records
module _ (s : Text) (w : List ℕ) (n : ℕ) (count : n ≡ get_or w size_at 0) where
  size_is : (ledger_at s w).size ≡ n
  unfolding ledger_at
  size_is = sym count

  records_are : (ledger_at s w).records ≡ records_at s n w
  unfolding ledger_at
  records_are = ap (λ (k : ℕ). records_at s k w) (sym count)

  -- they are more than have room
  module _ (h : most_kept < n) (out : Text) where
    many_is : ltb most_kept (ledger_at s w).size ≡ true
    many_is = ap (ltb most_kept) size_is ∙ lt-ltb most_kept n h

    pub many_handed : (x : Handed) → x ≡ handed 2 1 0 0 → x ≡ formed_of (ledger_at s w) (length out)
    unfolding formed_of
    many_handed x e = e ∙ sym (ap (λ (b : Bool). cond b (handed 2 1 0 0) (made_of (written (ledger_at s w).records) (length out))) many_is)

    pub many_left : out ≡ formed_in (ledger_at s w) out
    unfolding formed_in
    many_left = sym (ap (λ (b : Bool). cond b out (made_in (written (ledger_at s w).records) out)) many_is)

  -- all have room
  module _ (h : n ≤ most_kept) where
    few_is : ltb most_kept (ledger_at s w).size ≡ false
    few_is = ap (ltb most_kept) size_is ∙ le-ltb most_kept n h

    kept_formed : Formable s w → Formed s n w
    kept_formed F = record { short = F.short; few = h; within = (let r = F.fits.room in omega arith); fit = ap fields_fit (sym records_are) ∙ F.fit }

    pub few_formed : Formable s w → Formed s (length (take n w)) (take n w)
    few_formed F = lent_formed s n w (kept_formed F)

    lent_are : Formable s w → records_at s (length (take n w)) (take n w) ≡ (ledger_at s w).records
    lent_are F = lent_records s n w (kept_formed F) ∙ sym records_are

    pub few_handed : Formable s w → (x : Handed) (room : ℕ) → x ≡ made_of (written (records_at s (length (take n w)) (take n w))) room → x ≡ formed_of (ledger_at s w) room
    unfolding formed_of
    few_handed F x room e =
        e ∙ ap (λ rs. made_of (written rs) room) (lent_are F)
        ∙ sym (ap (λ (b : Bool). cond b (handed 2 1 0 0) (made_of (written (ledger_at s w).records) room)) few_is)

    pub few_left : Formable s w → (out d : Text) → d ≡ made_in (written (records_at s (length (take n w)) (take n w))) out → d ≡ formed_in (ledger_at s w) out
    unfolding formed_in
    few_left F out d e =
        e ∙ ap (λ rs. made_in (written rs) out) (lent_are F)
        ∙ sym (ap (λ (b : Bool). cond b out (made_in (written (ledger_at s w).records) out)) few_is)
