-- The first line: a text begins with it, its byte 10 too, just where its first line is as 01 says.
-- Assumes nothing.
use mathlib.Core.Path.{◌≡◌, refl, sym, ap, ◌∙◌}
use mathlib.Core.Bool.{Bool, true, false, cond}
use mathlib.Core.List.{List, [], ◌∷◌, ◌++◌}
use Prim.Native.Nat.{ℕ, suc, ◌≤◌}
use native.Mathlib.Omega.{arith}
use lib.ListN.{length, drop}
use lib.Dec.{eqb}
use borrow.Author.Tests.{eqb-true, eq-eqb}
use Rattle.text.specs.Texts.{Text, bytes, newline, same, starts_with}
use Rattle.text.specs.Lines.{Line, before, lines_of}
use Rattle.listings.specs.Refusals.{refusal, first_line, is_first_line, read_from, read_lines}
use Rattle.listings.specs.declared.answers.Fault.TheVariants.{BadFirstLine}
use Rattle.text.proofs.Truths.{never, and_left, and_right}

-- ---- starts with, and the rest
pub starts_then : (p t : Text) → starts_with p t ≡ true → t ≡ p ++ drop (length p) t
unfolding starts_with
starts_then [] t e = refl
starts_then (x ∷ xs) [] e = absurd (never false e refl)
starts_then (x ∷ xs) (y ∷ ys) e =
    let k : y ≡ x = sym (eqb-true x y (and_left (eqb x y) (starts_with xs ys) e)) in
    rw (k, ← starts_then xs ys (and_right (eqb x y) (starts_with xs ys) e))

pub starts_with_itself : (p t : Text) → starts_with p (p ++ t) ≡ true
unfolding starts_with
starts_with_itself [] t = refl
starts_with_itself (x ∷ xs) t = rw (eq-eqb x x refl, starts_with_itself xs t)

pub same_is : (t u : Text) → same t u ≡ true → t ≡ u
unfolding same
same_is [] [] e = refl
same_is [] (y ∷ ys) e = absurd (never false e refl)
same_is (x ∷ xs) [] e = absurd (never false e refl)
same_is (x ∷ xs) (y ∷ ys) e =
    let k : x ≡ y = eqb-true x y (and_left (eqb x y) (same xs ys) e) in
    rw (k, same_is xs ys (and_right (eqb x y) (same xs ys) e))

-- ---- an ended first line, and what follows it
line_then : (t : Text) (l : Line) (ls : List Line) → lines_of t ≡ l ∷ ls → l.ended ≡ true → (r : Text) × (t ≡ l.bytes ++ newline ∷ r)
unfolding lines_of
line_then [] l ls e d = absurd (let z : ◌≡◌ {A = ℕ} 0 (suc (length ls)) = ap length e in omega arith)
line_then (x ∷ xs) l ls e d = go (eqb x newline) refl (lines_of xs) refl e (line_then xs)
  where
    go : (b : Bool) → eqb x newline ≡ b → (ks : List Line) → lines_of xs ≡ ks → cond b (record { bytes = []; ended = true } ∷ ks) (before x ks) ≡ l ∷ ls
        → ((k : Line) (js : List Line) → lines_of xs ≡ k ∷ js → k.ended ≡ true → (r : Text) × (xs ≡ k.bytes ++ newline ∷ r))
        → (r : Text) × (x ∷ xs ≡ l.bytes ++ newline ∷ r)
    go true q ks z h ih =
        let m : record { bytes = []; ended = true } ≡ l = cc in
        (xs, rw (← m, eqb-true x newline q))
    go false q [] z h ih =
        let m : record { bytes = x ∷ []; ended = false } ≡ l = cc in
        absurd (never false (rw (← m) at d) refl)
    go false q (k ∷ js) z h ih =
        let m : record { bytes = x ∷ k.bytes; ended = k.ended } ≡ l = cc in
        let d' : k.ended ≡ true = ap (λ (y : Line). y.ended) m ∙ d in
        let i = ih k js z d' in
        (i.0, ap (λ (y : Text). x ∷ y) i.1 ∙ ap (λ (y : Line). y.bytes ++ newline ∷ i.0) m)

-- ---- the test of the program is 01's
abbrev pub header : Text
header = bytes "constraints\t1\n"

pub header_missing : (s : Text) → starts_with header s ≡ false → read_lines (lines_of s) ≡ refusal BadFirstLine 1
unfolding read_lines
header_missing s n = go (lines_of s) refl
  where
    go : (ls : List Line) → lines_of s ≡ ls → read_lines ls ≡ refusal BadFirstLine 1
    go [] e = refl
    go (l ∷ ls) e = first (is_first_line l) refl
      where
        first : (b : Bool) → is_first_line l ≡ b → cond b (read_from [] 2 ls) (refusal BadFirstLine 1) ≡ refusal BadFirstLine 1
        first true q =
            let d = line_then s l ls e (and_left l.ended (same l.bytes first_line) q) in
            let f : l.bytes ≡ first_line = same_is l.bytes first_line (and_right l.ended (same l.bytes first_line) q) in
            let z : s ≡ header ++ d.0 = d.1 ∙ ap (λ (x : Text). x ++ newline ∷ d.0) f in
            absurd (never (starts_with header s) (ap (starts_with header) z ∙ starts_with_itself header d.0) n)
        first false q = refl

pub header_there : (s : Text) → starts_with header s ≡ true → lines_of s ≡ record { bytes = first_line; ended = true } ∷ lines_of (drop 14 s)
unfolding lines_of
header_there s e = ap lines_of (starts_then header s e)

pub header_length : (s : Text) → starts_with header s ≡ true → 14 ≤ length s
header_length s e = omega (arith, ap length (starts_then header s e))
