-- The statement of `printing::compare_into` settles its outcome: two outcomes that both satisfy it are equal.
use mathlib.Core.Path.{◌≡◌, sym, ◌∙◌}
use mathlib.Core.List.{List}
use Prim.Native.Nat.{ℕ}
use Rattle.text.specs.Texts.{Text}
use Rattle.compare.specs.Printed.{PrintOutcome}

-- in all components
pub print_unique : (old new text : Text) (work : List ℕ) (n n' : ℕ) (t t' : Text) (w w' : List ℕ)
    → PrintOutcome old new text work n t w → PrintOutcome old new text work n' t' w' → (n ≡ n') × (t ≡ t') × (w ≡ w')
print_unique old new text work n n' t t' w w' o o' = (o.counted ∙ sym o'.counted, o.printed ∙ sym o'.printed, o.worked ∙ sym o'.worked)
