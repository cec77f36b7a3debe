-- The table of the bytes of a name. The checker computes it from the rule, and compares it with the one in the source.
use mathlib.Core.Path.{◌≡◌, refl}
use mathlib.Core.Bool.{Bool, true, false, cond, ◌||◌}
use mathlib.Core.List.{List}
use Prim.Native.Nat.{ℕ, ◌<◌}
use native.Mathlib.Decide.{ℕ_discrete}
use lib.Dec.{eqb}
use lib.ListN.{get_or}
use borrow.Author.Tests.{eq-eqb, ne_eqb}
use Rattle.text.specs.Bytes.{tabulate}
use Rattle.text.proofs.Classes.{tabulated}
use Rattle.documents.specs.Chars.{is_name_start, is_name_byte}

-- 1 for a byte of a name
abbrev pub mark : ℕ → ℕ
mark b = cond (is_name_byte b) 1 0

mark_told : (a : Bool) → eqb (cond a 1 0) 1 ≡ a
mark_told true = refl
mark_told false = refl

hyphen_named : (b : ℕ) → b ≡ 45 → true ≡ is_name_byte b
unfolding is_name_byte is_name_start
hyphen_named b e = rw e refl

-- `-` is one, and of the others the table tells
pub name_listed : (t : List ℕ) (b : ℕ) → t ≡ tabulate mark 0 256 → b < 256 → (eqb b 45 || eqb (get_or t b 0) 1) ≡ is_name_byte b
name_listed t b e h = go (ℕ_discrete b 45)
  where
    go : Dec (b ≡ 45) → (eqb b 45 || eqb (get_or t b 0) 1) ≡ is_name_byte b
    go (yes q) = rw (eq-eqb b 45 q) (hyphen_named b q)
    go (no q) = rw (ne_eqb b 45 q, e, tabulated mark 256 b h) (mark_told (is_name_byte b))
