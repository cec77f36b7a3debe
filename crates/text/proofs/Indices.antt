-- Lists put together, and the indices of texts among texts that stand there once each.
use mathlib.Core.Path.{◌≡◌, refl, sym, ap, ◌∙◌}
use mathlib.Core.Bool.{Bool, true, false, cond, ◌&&◌, ◌||◌, or-true}
use mathlib.Core.List.{List, [], ◌∷◌, ◌++◌, append_assoc}
use Prim.Native.Nat.{ℕ, zero, suc, ◌+◌, ◌≤◌, ◌<◌}
use native.Mathlib.Numerals.{add-one}
use native.Mathlib.Omega.{arith}
use native.Mathlib.Decide.{dec_lt}
use lib.ListN.{length, take, get_or, length-append, get_or-append, get_or-eq_default}
use lib.Seq.{get_or-append_seam, take-suc}
use lib.Dec.{eqb, ltb, leb-suc-suc, leb-zero}
use borrow.Author.Tests.{ltb-true, ltb-false, lt-ltb, le-ltb, eq-eqb, ne_eqb}
use Rattle.text.specs.Texts.{Text, same, member, known, run, distinct, index_of, Once}
use Rattle.text.proofs.Truths.{never, not_so}
use Rattle.text.proofs.Spans.{same_equal, same_self}

-- ---- lists
-- a run over one element more
pub run_snoc {ℓ κ} : {S : Type ℓ} {A : Type κ} (f : S → A → S) (z : S) (xs : List A) (x : A) → run f z (xs ++ x ∷ []) ≡ f (run f z xs) x
unfolding run
run_snoc f z [] x = refl
run_snoc f z (y ∷ ys) x = run_snoc f (f z y) ys x

-- over one element more of a list
pub run_step {ℓ κ} : {S : Type ℓ} {A : Type κ} (f : S → A → S) (z : S) (xs : List A) (i : ℕ) (d : A) → i < length xs
    → run f z (take (i + 1) xs) ≡ f (run f z (take i xs)) (get_or xs i d)
run_step f z xs i d h = rw (add-one i, take-suc xs i d h) (run_snoc f z (take i xs) (get_or xs i d))

-- one element more is one more
pub length_snoc {ℓ} : {A : Type ℓ} (xs : List A) (x : A) → length (xs ++ x ∷ []) ≡ suc (length xs)
length_snoc [] x = refl
length_snoc (y ∷ ys) x = ap suc (length_snoc ys x)

-- ---- indices
-- what is found stands among them, and what is not found has their number
pub index_bound : (t : Text) (us : List Text) → index_of t us ≤ length us
unfolding index_of
index_bound t [] = omega arith
index_bound t (u ∷ us) = go (same u t) (index_bound t us)
  where
    go : (b : Bool) → index_of t us ≤ length us → cond b 0 (suc (index_of t us)) ≤ suc (length us)
    go true h = omega arith
    go false h = omega arith

-- a text is one of them where its index is below their number
pub index_member : (t : Text) (us : List Text) → ltb (index_of t us) (length us) ≡ member t us
unfolding index_of member
index_member t [] = refl
index_member t (u ∷ us) = go (same u t) (index_member t us)
  where
    go : (b : Bool) → ltb (index_of t us) (length us) ≡ member t us → ltb (cond b 0 (suc (index_of t us))) (suc (length us)) ≡ (b || member t us)
    go true e = leb-suc-suc 0 (length us) ∙ leb-zero (length us)
    go false e = leb-suc-suc (suc (index_of t us)) (length us) ∙ e

-- a text that is found stays where it is
pub index_front : (t : Text) (us vs : List Text) → index_of t us < length us → index_of t (us ++ vs) ≡ index_of t us
unfolding index_of
index_front t [] vs h = absurd (omega arith)
index_front t (u ∷ us) vs h = go (same u t) h (index_front t us vs)
  where
    go : (b : Bool) → cond b 0 (suc (index_of t us)) < suc (length us) → (index_of t us < length us → index_of t (us ++ vs) ≡ index_of t us) →
        cond b 0 (suc (index_of t (us ++ vs))) ≡ cond b 0 (suc (index_of t us))
    go true h again = refl
    go false h again = ap suc (again (omega arith))

-- one that is not found stands behind the others, if put there
pub index_behind : (t : Text) (us vs : List Text) → length us ≤ index_of t us → index_of t (us ++ t ∷ vs) ≡ length us
unfolding index_of
index_behind t [] vs h = rw (same_self t)
index_behind t (u ∷ us) vs h = go (same u t) h (index_behind t us vs)
  where
    go : (b : Bool) → suc (length us) ≤ cond b 0 (suc (index_of t us)) → (length us ≤ index_of t us → index_of t (us ++ t ∷ vs) ≡ length us) →
        cond b 0 (suc (index_of t (us ++ t ∷ vs))) ≡ suc (length us)
    go true h again = absurd (omega arith)
    go false h again = ap suc (again (omega arith))

-- at its index stands the text
pub index_here : (t : Text) (us : List Text) → index_of t us < length us → get_or us (index_of t us) [] ≡ t
unfolding index_of
index_here t [] h = absurd (omega arith)
index_here t (u ∷ us) h = go (same u t) refl h (index_here t us)
  where
    go : (b : Bool) → same u t ≡ b → cond b 0 (suc (index_of t us)) < suc (length us) → (index_of t us < length us → get_or us (index_of t us) [] ≡ t) →
        get_or (u ∷ us) (cond b 0 (suc (index_of t us))) [] ≡ t
    go true e h again = same_equal u t e
    go false e h again = again (omega arith)

-- what stands among texts is one of them
pub member_at : (us : List Text) (i : ℕ) → i < length us → member (get_or us i []) us ≡ true
unfolding member
member_at [] i h = absurd (omega arith)
member_at (u ∷ us) zero h = rw (same_self u)
member_at (u ∷ us) (suc i) h = rw (member_at us i (omega arith)) (or-true (same u (get_or us i [])))

-- ---- texts that stand once each
-- one more
once_known : (us : List Text) (t : Text) → Once us → Once (known us t)
unfolding known
once_known us t o = go (member t us) refl
  where
    go : (b : Bool) → member t us ≡ b → Once (cond b us (us ++ t ∷ []))
    go true e i h = o i h
    go false e i h = at (dec_lt i (length us))
      where
        new : length us ≤ index_of t us
        new = ltb-false (index_of t us) (length us) (index_member t us ∙ e)

        at : Dec (i < length us) → index_of (get_or (us ++ t ∷ []) i []) (us ++ t ∷ []) ≡ i
        at (yes l) =
            let f : index_of (get_or us i []) us < length us = rw (o i l) l in
            rw (get_or-append us (t ∷ []) [] i l, index_front (get_or us i []) us (t ∷ []) f, o i l)
        at (no l) =
            let f : i ≡ length us = omega (arith, length_snoc us t) in
            rw (f, get_or-append_seam us t [] [], index_behind t us [] new)

once_run : (us ts : List Text) → Once us → Once (run known us ts)
unfolding run
once_run us [] o = o
once_run us (t ∷ ts) o = once_run (known us t) ts (once_known us t o)

-- the distinct ones of some texts
pub once_distinct : (ts : List Text) → Once (distinct ts)
unfolding distinct
once_distinct ts = once_run [] ts (λ i h. absurd (omega arith))

module _ (us : List Text) (once : Once us) (t : Text) (found : index_of t us < length us) where
  -- a text stands at its index alone
  pub stands : (i : ℕ) → (ltb i (length us) && same t (get_or us i [])) ≡ eqb i (index_of t us)
  stands i = go (dec_lt i (length us))
    where
      at : (b : Bool) → same t (get_or us i []) ≡ b → i < length us → b ≡ eqb i (index_of t us)
      at true e l = sym (eq-eqb i (index_of t us) (sym (once i l) ∙ ap (λ (u : Text). index_of u us) (sym (same_equal t (get_or us i []) e))))
      at false e l = sym (ne_eqb i (index_of t us) (λ f. never (same t (get_or us i [])) (rw (f, index_here t us found) (same_self t)) e))

      go : Dec (i < length us) → (ltb i (length us) && same t (get_or us i [])) ≡ eqb i (index_of t us)
      go (yes l) = rw (lt-ltb i (length us) l) (at (same t (get_or us i [])) refl l)
      go (no l) = rw (le-ltb i (length us) (omega arith)) (sym (ne_eqb i (index_of t us) (λ e. omega arith)))

  -- behind them no text stands
  pub stands_named : (t ≡ [] → ⊥) → (i : ℕ) → same t (get_or us i []) ≡ eqb i (index_of t us)
  stands_named named i = go (dec_lt i (length us))
    where
      go : Dec (i < length us) → same t (get_or us i []) ≡ eqb i (index_of t us)
      go (yes l) = rw (lt-ltb i (length us) l) at (stands i)
      go (no l) =
          rw (get_or-eq_default us [] {n = i} (omega arith), ne_eqb i (index_of t us) (λ e. omega arith))
          (not_so (same t []) (λ e. named (same_equal t [] e)))

-- the first n of them are those below n
pub front_members : (us vs : List Text) → Once (us ++ vs) → (i : ℕ) → (ltb i (length (us ++ vs)) && member (get_or (us ++ vs) i []) us) ≡ ltb i (length us)
front_members us vs once i = go (dec_lt i (length us)) (dec_lt i (length (us ++ vs)))
  where
    go : Dec (i < length us) → Dec (i < length (us ++ vs)) → (ltb i (length (us ++ vs)) && member (get_or (us ++ vs) i []) us) ≡ ltb i (length us)
    go (yes l) d =
        let m : i < length (us ++ vs) = omega (arith, length-append us vs) in
        rw (lt-ltb i (length us) l, lt-ltb i (length (us ++ vs)) m, get_or-append us vs [] i l) (member_at us i l)
    go (no l) (yes m) =
        rw (le-ltb i (length us) (omega arith), lt-ltb i (length (us ++ vs)) m)
        (not_so (member (get_or (us ++ vs) i []) us) (λ e.
        let f : index_of (get_or (us ++ vs) i []) us < length us = ltb-true _ _ (index_member (get_or (us ++ vs) i []) us ∙ e) in
        l (omega (arith, once i m, index_front (get_or (us ++ vs) i []) us vs f))))
    go (no l) (no m) = rw (le-ltb i (length us) (omega arith), le-ltb i (length (us ++ vs)) (omega arith))

-- ---- texts that others begin with
abbrev pub Begins : List Text → List Text → Type 0
Begins us ws = (more : List Text) × (ws ≡ us ++ more)

pub begins_front : (us vs ws : List Text) → Begins (us ++ vs) ws → Begins us ws
begins_front us vs ws b = (vs ++ b.0, b.1 ∙ append_assoc us vs b.0)
