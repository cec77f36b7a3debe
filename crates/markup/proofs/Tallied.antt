-- What is gathered letter by letter is `trimmed` of the letters. No code here.
use mathlib.Core.Path.{◌≡◌, refl, sym, ap, ◌∙◌}
use mathlib.Core.Bool.{Bool, true, false, cond, ◌&&◌}
use mathlib.Core.List.{[], ◌∷◌, ◌++◌}
use Prim.Native.Nat.{ℕ, suc, ◌+◌, ◌≤◌}
use native.Mathlib.Nat.{add-zero}
use native.Mathlib.Omega.{arith}
use lib.Dec.{eqb}
use lib.ListN.{length, take, drop, set}
use lib.Seq.{sets, take-set-le, take_at}
use borrow.Author.Tests.{ne_eqb}
use Rattle.text.specs.Texts.{Text, all, run}
use Rattle.text.proofs.Indices.{run_snoc}
use Rattle.documents.specs.Chars.{is_white, next, after}
use Rattle.documents.specs.Parts.{blamed, letter_of, comment, goes_on, piece, letters, trim_end, trimmed}
use Rattle.documents.proofs.Alike.{Alike, both, alike_self, alike_then, alike_whether, walk_alike}
use Rattle.writing.proofs.Puts.{sets_append, sets_start}
use Rattle.markup.specs.Gatherings.{Tally, nothing_kept, keeps, keep_one, keep_all}

-- ---- the tally of some letters
-- of white space nothing is left
trim_all : (t : Text) → all is_white t ≡ true → trim_end t ≡ []
unfolding trim_end
trim_all [] e = refl
trim_all (b ∷ t) e = rw e

abbrev tallied : Tally → Text → Tally
tallied z t = record {
  kept = z.kept + length t;
  size = cond (all is_white t) z.size (z.kept + length (trim_end t));
  out = sets z.out z.kept t;
}

same_tally : (k k' n n' : ℕ) (o o' : Text) → k ≡ k' → n ≡ n' → o ≡ o' → Path Tally (record { kept = k; size = n; out = o }) (record { kept = k'; size = n'; out = o' })
same_tally k k' n n' o o' p q r = λ i. record { kept = p i; size = q i; out = r i }

-- a letter that is kept
abbrev put : Tally → ℕ → Tally
put z b = record { kept = suc z.kept; size = cond (is_white b) z.size (suc z.kept); out = set z.out z.kept b }

keep_later : (z : Tally) (b : ℕ) → 1 ≤ z.kept → keeps z b ≡ put z b
unfolding keeps
keep_later z b h = rw (ne_eqb z.kept 0 (λ e. omega arith))

-- once a letter is kept, all that follow are
keep_on : (z : Tally) (t : Text) → 1 ≤ z.kept → run keeps z t ≡ tallied z t
unfolding run all trim_end
keep_on z [] h = same_tally z.kept (z.kept + 0) z.size z.size z.out z.out (sym (add-zero z.kept)) refl refl
keep_on z (b ∷ t) h =
    ap (λ (y : Tally). run keeps y t) (keep_later z b h)
    ∙ keep_on (put z b) t (omega arith)
    ∙ same_tally _ _ _ _ _ _ (omega arith) (go (is_white b) (all is_white t) refl) refl
  where
    go : (w a : Bool) → all is_white t ≡ a → cond a (cond w z.size (suc z.kept)) (suc z.kept + length (trim_end t)) ≡ cond (w && a) z.size (z.kept + length (cond (w && a) [] (b ∷ trim_end t)))
    go true true e = refl
    go true false e = omega arith
    go false true e = omega (arith, ap length (trim_all t e))
    go false false e = omega arith

-- ---- from the first on that is no white space
keep_first : (o : Text) (b : ℕ) (w : Bool) → is_white b ≡ w → keeps (nothing_kept o) b ≡ cond w (nothing_kept o) (record { kept = 1; size = 1; out = set o 0 b })
unfolding keeps
keep_first o b true e = rw e
keep_first o b false e = rw e

-- a byte that is no white space ends nothing
trim_other : (b : ℕ) (t : Text) → is_white b ≡ false → trim_end (b ∷ t) ≡ b ∷ trim_end t
unfolding trim_end all
trim_other b t e = rw e

keep_rest : (o : Text) (b : ℕ) (t : Text) → is_white b ≡ false
    → run keeps (record { kept = 1; size = 1; out = set o 0 b }) t ≡ record { kept = length (b ∷ t); size = length (trim_end (b ∷ t)); out = sets o 0 (b ∷ t) }
keep_rest o b t e =
    keep_on (record { kept = 1; size = 1; out = set o 0 b }) t (omega arith)
    ∙ same_tally _ _ _ _ _ _ (omega arith) (last (all is_white t) refl ∙ ap length (sym (trim_other b t e))) refl
  where
    last : (a : Bool) → all is_white t ≡ a → cond a 1 (1 + length (trim_end t)) ≡ suc (length (trim_end t))
    last true h = omega (arith, ap length (trim_all t h))
    last false h = omega arith

-- what the text u with white space before it none comes to
abbrev kept : Text → Text → Tally
kept o u = record { kept = length u; size = length (trim_end u); out = sets o 0 u }

keep_run : (o t : Text) → run keeps (nothing_kept o) t ≡ kept o (after is_white t)
unfolding run trim_end after
keep_run o [] = refl
keep_run o (b ∷ t) = go (is_white b) refl (keep_run o t)
  where
    go : (w : Bool) → is_white b ≡ w → run keeps (nothing_kept o) t ≡ kept o (after is_white t) → run keeps (keeps (nothing_kept o) b) t ≡ kept o (cond w (after is_white t) (b ∷ t))
    go true e h = ap (λ (z : Tally). run keeps z t) (keep_first o b true e) ∙ h
    go false e h = ap (λ (z : Tally). run keeps z t) (keep_first o b false e) ∙ keep_rest o b t e

-- ---- what stands in the buffer
-- a trimmed text is a beginning
trim_begins : (u : Text) → (w : Text) × (u ≡ trim_end u ++ w)
unfolding trim_end
trim_begins [] = ([], refl)
trim_begins (b ∷ u) = go (all is_white (b ∷ u)) (trim_begins u)
  where
    go : (a : Bool) → (w : Text) × (u ≡ trim_end u ++ w) → (w : Text) × (Path Text (b ∷ u) (cond a [] (b ∷ trim_end u) ++ w))
    go true h = (b ∷ u, refl)
    go false h = (h.0, λ i. b ∷ h.1 i)

-- what is written behind n bytes leaves them
sets_behind : (n : ℕ) (o : Text) (i : ℕ) (w : Text) → n ≤ i → take n (sets o i w) ≡ take n o
sets_behind n o i [] h = refl
sets_behind n o i (b ∷ w) h = sets_behind n (set o i b) (suc i) w (omega arith) ∙ take-set-le n o i b h

stands : (o a w : Text) → length a ≤ length o → take (length a) (sets o 0 (a ++ w)) ≡ a
stands o a w h =
    ap (take (length a)) (sym (sets_append a w o 0))
    ∙ sets_behind (length a) (sets o 0 a) (0 + length a) w (omega arith)
    ∙ ap (take (length a)) (sets_start a o h)
    ∙ take_at a (drop (length a) o) (length a) refl

trim_stands : (o u : Text) → length (trim_end u) ≤ length o → take (length (trim_end u)) (sets o 0 u) ≡ trim_end u
trim_stands o u h = let b = trim_begins u in ap (λ (x : Text). take (length (trim_end u)) (sets o 0 x)) b.1 ∙ stands o (trim_end u) b.0 h

-- ---- what a tally of the letters t says
module _ (o t : Text) (z : Tally) (e : z ≡ run keeps (nothing_kept o) t) where
  pub tally_size : z.size ≡ length (trimmed t)
  unfolding trimmed
  tally_size = ap (λ (y : Tally). y.size) (e ∙ keep_run o t)

  pub tally_text : z.size ≤ length o → take z.size z.out ≡ trimmed t
  unfolding trimmed
  tally_text h =
      let k = e ∙ keep_run o t in
      ap (λ (y : Tally). take y.size y.out) k ∙ trim_stands o (after is_white t) (rw (ap (λ (y : Tally). y.size) k) at h)

-- ---- keeping letters goes as reading them
module _ (n : ℕ) (o : Text) where
  abbrev pub Tallies : Text → Tally → Type 0
  Tallies t z = z ≡ run keeps (nothing_kept o) t

  one_alike : (t : Text) (z : Tally) (x : Text) → Tallies t z → Alike Tallies (piece n t x) (keep_one n z x)
  unfolding piece keep_one
  one_alike t z x e =
      alike_whether (next (eqb 60) x) _ _ _ _ x (alike_then comment comment _ _ x (alike_self (comment x)) (λ u v r h. both e))
      (alike_then (blamed n letter_of) (blamed n letter_of) _ _ x (alike_self (blamed n letter_of x))
      (λ b c r h. both (ap (keeps z) (sym h) ∙ ap (λ (y : Tally). keeps y b) e ∙ sym (run_snoc keeps (nothing_kept o) t b))))

  pub gathers_alike : (x : Text) → Alike Tallies (letters n x) (keep_all n (nothing_kept o) x)
  unfolding letters keep_all run
  gathers_alike x = walk_alike Tallies goes_on (piece n) (keep_one n) one_alike [] (nothing_kept o) x refl
