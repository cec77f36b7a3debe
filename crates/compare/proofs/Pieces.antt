-- The line of a refusal, put piece by piece.
use mathlib.Core.Path.{◌≡◌, ap, ◌∙◌}
use mathlib.Core.List.{◌∷◌, ◌++◌, append_assoc}
use Prim.Native.Nat.{ℕ, ◌+◌, ◌≤◌}
use native.Mathlib.Omega.{arith}
use lib.ListN.{length, length-append}
use lib.Seq.{sets}
use Rattle.text.specs.Texts.{Text, bytes, tab}
use Rattle.trials.specs.Answers.{line_of}
use Rattle.writing.proofs.Decimals.{digits_most}
use Rattle.writing.proofs.Puts.{sets_then, sets_start}
use Rattle.compare.specs.Printed.{decimal, where_text, refusal_line, written}

-- ---- a field: a tab, and a number behind it
module _ (out out₁ : Text) (at a n : ℕ) (offset : a ≡ at + 1) where
  pub field_size : (r : ℕ) → r ≡ a + length (decimal n) → r ≤ at + 11
  field_size r e = let l = digits_most 10 n in omega arith

-- ---- behind the number: two fields and byte 10
module _ (out out₁ out₂ out₃ : Text) (at side line a b : ℕ) (at₁ : a ≡ at + length (tab ∷ decimal side)) (at₂ : b ≡ a + length (tab ∷ decimal line)) where
  both : b ≡ at + length ((tab ∷ decimal side) ++ (tab ∷ decimal line))
  both = omega (arith, length-append (tab ∷ decimal side) (tab ∷ decimal line))

  pub where_bytes : out₁ ≡ sets out at (tab ∷ decimal side) → out₂ ≡ sets out₁ a (tab ∷ decimal line) → out₃ ≡ sets out₂ b (bytes "\n") → out₃ ≡ sets out at (where_text side line)
  where_bytes p q s =
      sets_then out out₂ out₃ ((tab ∷ decimal side) ++ (tab ∷ decimal line)) (bytes "\n") at b both (sets_then out out₁ out₂ (tab ∷ decimal side) (tab ∷ decimal line) at a at₁ p q) s

-- ---- the line: its name, its number, and what is behind it
abbrev front : ℕ → Text
front number = bytes "refused" ++ tab ∷ decimal number

whole : (number side line : ℕ) → front number ++ where_text side line ≡ refusal_line number side line
unfolding refusal_line line_of
whole number side line = simp append_assoc

module _ (out : Text) (number side line : ℕ) (out₁ out₂ out₃ : Text) (a b : ℕ)
    (at₁ : a ≡ 7) (put₁ : out₁ ≡ sets out 0 (bytes "refused"))
    (at₂ : b ≡ a + length (tab ∷ decimal number)) (put₂ : out₂ ≡ sets out₁ a (tab ∷ decimal number)) where
  ahead : b ≡ 0 + length (front number)
  ahead = omega (arith, length-append (bytes "refused") (tab ∷ decimal number))

  pub line_size : (r : ℕ) → r ≡ b + length (where_text side line) → r ≡ length (refusal_line number side line)
  line_size r e = rw (← whole number side line) (omega (arith, ahead, length-append (front number) (where_text side line)))

  pub line_bytes : 1024 ≤ length out → out₃ ≡ sets out₂ b (where_text side line) → out₃ ≡ written (refusal_line number side line) out
  line_bytes long e =
      let short : length (front number ++ where_text side line) ≤ length out =
      omega (
        arith,
        length-append (front number) (where_text side line),
        length-append (bytes "refused") (tab ∷ decimal number),
        length-append ((tab ∷ decimal side) ++ (tab ∷ decimal line)) (bytes "\n"),
        length-append (tab ∷ decimal side) (tab ∷ decimal line),
        digits_most 10 number,
        digits_most 10 side,
        digits_most 10 line,
      ) in
      sets_then out out₂ out₃ (front number) (where_text side line) 0 b ahead (sets_then out out₁ out₂ (bytes "refused") (tab ∷ decimal number) 0 a at₁ put₁ put₂) e
      ∙ sets_start (front number ++ where_text side line) out short ∙ ap (λ (t : Text). written t out) (whole number side line)
