-- A file that is read, and the whole call.
use mathlib.Core.Path.{◌≡◌, refl, sym, ap, ap₂, subst, ◌∙◌}
use mathlib.Core.Bool.{Bool, true, false, cond}
use mathlib.Core.List.{List, [], ◌∷◌, ◌++◌}
use Prim.Native.Nat.{ℕ, zero, suc, min, ◌-◌, ◌≤◌, ◌<◌}
use native.Mathlib.Omega.{arith}
use lib.Dec.{eqb, leb, ltb}
use lib.ListN.{length, take, drop, get_or, replicate, length-take, length-replicate, get_or-replicate}
use lib.Seq.{take_at, drop_at}
use borrow.Author.Tests.{ltb-true, ltb-false, lt-ltb, le-ltb, eq-eqb, ne_eqb, eqb-true, eqb-false}
use Rattle.std.specs.Prelude.{Result, Ok, Err}
use Rattle.markup.specs.declared.answers.Fault.{Fault as Blame}
use Rattle.markup.specs.Places.{cause_of, number_of}
use Rattle.markup.proofs.Steps.{not_both, same_fault}
use Rattle.text.specs.Texts.{Text, newline}
use Rattle.text.proofs.Truths.{and_left, and_right, and_both}
use Rattle.limits.specs.Limits.{most_bytes}
use Rattle.worktable.specs.Work.{is_short, work_size, zeroed, work_after}
use Rattle.worktable.proofs.Lent.{back_first, back_length, back_same, back_zeroed}
use Rattle.documents.specs.Parts.{Fault, malformed, deep, unwanted, bad_name, bad_pattern, role_twice, past_most, Got, got, fault}
use Rattle.markup.specs.Lines as lines
use Rattle.markup.specs.Lines.{count}
use Rattle.listings.specs.Records.{Record}
use Rattle.portals.specs.Listings.{written}
use Rattle.portals.specs.Readings.{kept_of, file_of}
use Rattle.portals.specs.Outcomes.{most_xml, fault_number, line_ends, line_at, Handed, handed, made_of, read_by, left_by, handed_of, buffer_after, FromOutcome}
use Rattle.ledger.specs.Ledgers.{Ledger, no_records, ledgered, most_kept, ledger_of}
use Rattle.ledger.specs.Places.{ledger_at, Fits}
use Rattle.ledger.proofs.Pictures.{all_kept, size_past}
use Rattle.ledger.proofs.Writes.{zeros_fit, zeros_hold_none}
use Rattle.forming.specs.Formed.{fields_fit}
use Rattle.elements.specs.Goings.{read_on, shown_by}
use Rattle.importing.proofs.Ties.{file_read}
use Rattle.importing.specs.Calls.{Accepted, ReadAs, FileRead, Formable, made_in, formed_of, formed_in, read_in}

-- ---- a file that is accepted
module _ (rs : List Record) (long : most_kept < length rs → most_bytes < length (written rs)) where
  too_long : most_kept < length rs → (room : ℕ) → made_of (written rs) room ≡ handed 2 1 0 0
  unfolding made_of
  too_long h room =
      ap (λ (b : Bool). cond b (handed 2 1 0 0) (cond (ltb room (length (written rs))) (handed 15 0 0 (length (written rs))) (handed 0 0 0 (length (written rs))))) (lt-ltb most_bytes (length (written rs)) (long h))

  pub formed_handed : (room : ℕ) → formed_of (ledger_of rs) room ≡ made_of (written rs) room
  unfolding formed_of
  formed_handed room = go (ltb most_kept (ledger_of rs).size) refl
    where
      go : (b : Bool) → ltb most_kept (ledger_of rs).size ≡ b → cond b (handed 2 1 0 0) (made_of (written (ledger_of rs).records) room) ≡ made_of (written rs) room
      go true e = sym (too_long (size_past rs (ltb-true most_kept (ledger_of rs).size e)) room)
      go false e = ap (λ (l : List Record). made_of (written l) room) (all_kept rs (ltb-false most_kept (ledger_of rs).size e))

  pub formed_left : (out : Text) → formed_in (ledger_of rs) out ≡ made_in (written rs) out
  unfolding formed_in made_in
  formed_left out = go (ltb most_kept (ledger_of rs).size) refl
    where
      go : (b : Bool) → ltb most_kept (ledger_of rs).size ≡ b → cond b out (made_in (written (ledger_of rs).records) out) ≡ made_in (written rs) out
      go true e =
          sym (ap (λ (x : Handed). cond (eqb x.number 0) (written rs ++ drop (length (written rs)) out) out) (too_long (size_past rs (ltb-true most_kept (ledger_of rs).size e)) (length out)))
      go false e = ap (λ (l : List Record). made_in (written l) out) (all_kept rs (ltb-false most_kept (ledger_of rs).size e))

kept_fit : (rs : List Record) (n : ℕ) → fields_fit rs ≡ true → fields_fit (take n rs) ≡ true
unfolding fields_fit
kept_fit rs zero e = refl
kept_fit [] (suc n) e = refl
kept_fit (r ∷ rs) (suc n) e =
    and_both (leb (length r.field) 255) (fields_fit (take n rs)) (and_left (leb (length r.field) 255) (fields_fit rs) e)
    (kept_fit rs n (and_right (leb (length r.field) 255) (fields_fit rs) e))

accepted_fit : (s : Text) (rs : List Record) (w : List ℕ) → Accepted s rs w → fields_fit (ledger_at s w).records ≡ true
unfolding ledger_of
accepted_fit s rs w A = ap (λ (L : Ledger). fields_fit L.records) A.holds ∙ kept_fit rs most_kept A.fit

-- ---- a file with a fault
numbered : (e : Fault) → fault_number e ≡ 0 → ⊥
numbered malformed h = omega arith
numbered deep h = omega arith
numbered unwanted h = omega arith
numbered bad_name h = omega arith
numbered bad_pattern h = omega arith
numbered role_twice h = omega arith
numbered past_most h = omega arith

-- its line
ends_counted : (t : Text) → count newline t ≡ line_ends t
unfolding count line_ends
ends_counted [] = refl
ends_counted (b ∷ t) = ap₂ (λ (x : Bool) (n : ℕ). cond x (suc n) n) (turned b) (ends_counted t)
  where
    turned : (b : ℕ) → eqb newline b ≡ eqb b newline
    turned b = go (eqb b newline) refl
      where
        go : (x : Bool) → eqb b newline ≡ x → eqb newline b ≡ x
        go true e = eq-eqb newline b (sym (eqb-true b newline e))
        go false e = ne_eqb newline b (λ z. eqb-false b newline e (sym z))

line_same : (s : Text) (n : ℕ) → lines.line_at s (length s - n) ≡ line_at s n
unfolding lines.line_at line_at
line_same s n = ap suc (ap (λ (k : ℕ). count newline (take k s)) (go n) ∙ ends_counted (take (length s - cond (eqb n 0) 1 n) s))
  where
    go : (n : ℕ) → min (length s - n) (length s - 1) ≡ length s - cond (eqb n 0) 1 n
    go zero = omega arith
    go (suc n) = let e : cond (eqb (suc n) 0) 1 (suc n) ≡ suc n = ap (λ (b : Bool). cond b 1 (suc n)) (ne_eqb (suc n) 0 (λ z. omega arith)) in omega arith

-- ---- what comes of it
-- the number is the same in both crates
same_number : (e : Fault) → number_of (cause_of e) ≡ fault_number e
same_number malformed = refl
same_number deep = refl
same_number unwanted = refl
same_number bad_name = refl
same_number bad_pattern = refl
same_number role_twice = refl
same_number past_most = refl

module _ (s : Text) (q : Result ℕ Blame) (w : List ℕ) (R : FileRead s q w) where
  -- it is accepted
  module _ (p : ℕ) (z : q ≡ Ok p) where
    never : {e : Blame} → q ≡ Err e → ⊥
    never y = not_both (sym z ∙ y)

    pub read_formable : length s ≤ most_xml → Formable s w
    read_formable short = record { short = short; fits = R.fits; fit = go (file_of s) R.answer }
      where
        go : (g : Got (List Record)) → ReadAs s g q w → fields_fit (ledger_at s w).records ≡ true
        go (got rs r) A = accepted_fit s rs w A.1
        go (fault e n) A = absurd (never A)

    pub read_handed : (x : Handed) (room : ℕ) → x ≡ formed_of (ledger_at s w) room → x ≡ read_by s (file_of s) room
    read_handed x room y = go (file_of s) R.answer
      where
        go : (g : Got (List Record)) → ReadAs s g q w → x ≡ read_by s g room
        go (got rs r) A = y ∙ ap (λ (L : Ledger). formed_of L room) A.1.holds ∙ formed_handed rs A.1.long room
        go (fault e n) A = absurd (never A)

    pub read_left : (out d : Text) → d ≡ formed_in (ledger_at s w) out → d ≡ read_in s out
    unfolding read_in made_in
    read_left out d y = go (file_of s) R.answer
      where
        go : (g : Got (List Record)) → ReadAs s g q w → d ≡ cond (eqb (read_by s g (length out)).number 0) (left_by g out) out
        go (got rs r) A = y ∙ ap (λ (L : Ledger). formed_in L out) A.1.holds ∙ formed_left rs A.1.long out
        go (fault e n) A = absurd (never A)

  -- there is a fault
  module _ (f : Blame) (z : q ≡ Err f) where
    pub fault_handed : (k l : ℕ) (x : Handed) (room : ℕ) → k ≡ number_of f.cause → l ≡ lines.line_at s f.at → x ≡ handed k 1 l 0 → x ≡ read_by s (file_of s) room
    fault_handed k l x room a b y = go (file_of s) R.answer
      where
        go : (g : Got (List Record)) → ReadAs s g q w → x ≡ read_by s g room
        go (got rs r) A = absurd (not_both (sym A.0.1 ∙ z))
        go (fault e n) A =
            let same = same_fault (sym z ∙ A) in
            y
            ∙ ap₂ (λ (i j : ℕ). handed i 1 j 0) (a ∙ ap (λ (d : Blame). number_of d.cause) same ∙ same_number e) (b ∙ ap (λ (d : Blame). lines.line_at s d.at) same ∙ line_same s n)

    pub fault_left : (out : Text) → out ≡ read_in s out
    unfolding read_in
    fault_left out = go (file_of s) R.answer
      where
        go : (g : Got (List Record)) → ReadAs s g q w → out ≡ cond (eqb (read_by s g (length out)).number 0) (left_by g out) out
        go (got rs r) A = absurd (not_both (sym A.0.1 ∙ z))
        go (fault e n) A = sym (ap (λ (b : Bool). cond b out out) (ne_eqb (fault_number e) 0 (numbered e)))

-- ---- the first n numbers of the work table
zeroed_twice : (n : ℕ) (w : List ℕ) → zeroed n (zeroed n w) ≡ zeroed n w
unfolding zeroed
zeroed_twice n w = ap (λ (l : List ℕ). replicate n 0 ++ l) (drop_at (replicate n 0) (drop n w) n (length-replicate n 0))

-- zero, and lent
module _ (n : ℕ) (w w₁ : List ℕ) (h : n ≤ length w) (z : w₁ ≡ zeroed n w) where
  zero_first : take n w₁ ≡ replicate n 0
  unfolding zeroed
  zero_first = ap (take n) z ∙ take_at (replicate n 0) (drop n w) n (length-replicate n 0)

  pub zero_lent : n ≡ length (take n w₁)
  zero_lent = sym (ap length zero_first ∙ length-replicate n 0)

  zero_within : n ≤ length w₁
  zero_within = let l = length-take n w₁ in let k = zero_lent in omega arith

  zeros_at : n ≡ work_size → (i : ℕ) → i < 4096 → get_or (take n w₁) i 0 ≡ 0
  zeros_at e i l = ap (λ (v : List ℕ). get_or v i 0) zero_first ∙ get_or-replicate n i 0 0 (omega arith)

  pub zero_fits : n ≡ work_size → Fits (take n w₁)
  zero_fits e = let l = zero_lent in zeros_fit (take n w₁) (omega arith) (zeros_at e)

  pub zero_empty : n ≡ work_size → (s : Text) → ledger_at s (take n w₁) ≡ no_records
  zero_empty e s = zeros_hold_none s (take n w₁) (zeros_at e)

  -- a is what they become
  module _ (a : List ℕ) (kept : length a ≡ length (take n w₁)) where
    pub back_lent : n ≡ length (take n (a ++ drop n w₁))
    back_lent = back_length n w₁ a zero_within kept

    pub back_read : (s : Text) (q : Result ℕ Blame) → shown_by q (ledger_at s a) ≡ read_on (kept_of ledgered no_records) s 0 → Fits a → FileRead s q (take n (a ++ drop n w₁))
    back_read s q e fits = subst (FileRead s q) (sym (back_first n w₁ a zero_within kept)) (file_read s q a e fits)

    pub back_long : n ≤ length (a ++ drop n w₁)
    back_long = let l = length-take n (a ++ drop n w₁) in let k = back_lent in omega arith

    pub back_size : (w₂ : List ℕ) → length w₂ ≡ length (a ++ drop n w₁) → length w₁ ≡ length w → length w₂ ≡ length w
    back_size w₂ e l = back_same n w₁ a zero_within kept w₂ e ∙ l

    pub zero_again : (w₂ : List ℕ) → w₂ ≡ zeroed n (a ++ drop n w₁) → w₂ ≡ zeroed n w
    zero_again w₂ e = back_zeroed n w₁ a zero_within kept w₂ e ∙ ap (zeroed n) z ∙ zeroed_twice n w

-- ---- the whole call
module _ (s out : Text) (w : List ℕ) (x : Handed) (b : Bool) (is : b ≡ is_short w) where
  -- the work table is too short
  pub import_short : b ≡ true → x ≡ handed 1 0 0 0 → FromOutcome s out w x out w
  unfolding handed_of buffer_after work_after
  import_short y e =
      let i : is_short w ≡ true = sym is ∙ y in
      record { answer = rw i e; buffer = rw i; work = rw i }

  module _ (n : b ≡ false) (w' : List ℕ) (zero : w' ≡ zeroed 4096 w) where
    short_not : is_short w ≡ false
    short_not = sym is ∙ n

    -- the file is too long
    pub import_long : most_xml < length s → x ≡ handed 16 1 0 0 → FromOutcome s out w x out w'
    unfolding handed_of buffer_after work_after
    import_long h e =
        let l : ltb most_xml (length s) ≡ true = lt-ltb most_xml (length s) h in
        record { answer = rw (short_not, l) e; buffer = rw (short_not, l); work = rw short_not zero }

    -- it is read
    pub import_read : length s ≤ most_xml → (out' : Text) → x ≡ read_by s (file_of s) (length out) → out' ≡ read_in s out → FromOutcome s out w x out' w'
    unfolding handed_of buffer_after work_after read_in
    import_read h out' e q =
        let l : ltb most_xml (length s) ≡ false = le-ltb most_xml (length s) h in
        record { answer = rw (short_not, l) e; buffer = rw (short_not, l) q; work = rw short_not zero }
