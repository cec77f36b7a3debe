-- A letter and a number put at the start of a buffer.
use mathlib.Core.Path.{◌≡◌, ap, ◌∙◌}
use mathlib.Core.List.{[], ◌∷◌}
use Prim.Native.Nat.{ℕ, ◌+◌, ◌≤◌}
use native.Mathlib.Omega.{arith}
use lib.ListN.{length, take, drop}
use lib.Seq.{sets, take_at}
use Rattle.text.specs.Texts.{Text}
use Rattle.writing.specs.Decimals.{digits}
use Rattle.writing.proofs.Decimals.{digits_most}
use Rattle.writing.proofs.Puts.{sets_start, sets_length}
use Rattle.trials.specs.Fillers.{numbered}

module _ (out d : Text) (x n r : ℕ) (offset : r ≡ 0 + length (x ∷ digits 5 n)) where
  pub name_size : r ≤ 6
  name_size = omega (arith, digits_most 5 n)

  module _ (put : d ≡ sets out 0 (x ∷ digits 5 n)) where
    pub name_kept : length d ≡ length out
    name_kept = ap length put ∙ sets_length (x ∷ digits 5 n) out 0

    pub name_bytes : 6 ≤ length out → take r d ≡ numbered (x ∷ []) n
    name_bytes h =
        let room : length (x ∷ digits 5 n) ≤ length out = omega (arith, digits_most 5 n) in
        let l : length (x ∷ digits 5 n) ≡ r = omega arith in
        ap (take r) (put ∙ sets_start (x ∷ digits 5 n) out room) ∙ take_at (x ∷ digits 5 n) (drop (length (x ∷ digits 5 n)) out) r l
