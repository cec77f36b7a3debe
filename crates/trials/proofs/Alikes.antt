-- Paths that the same patterns match are alike to deciding.
use mathlib.Core.Path.{◌≡◌, refl}
use mathlib.Core.List.Memᴰ
use mathlib.Core.List.{List, [], ◌∷◌}
use Rattle.text.specs.Texts.{Text}
use Rattle.decisions.specs.Matching.{best}
use Rattle.trials.proofs.StandIns.{Alike}

-- they have the same best match
pub best_alike : (ts : List Text) (x y : Text) → Alike ts x y → best ts x ≡ best ts y
unfolding best
best_alike [] x y h = refl
best_alike (t ∷ ts) x y h = rw (h t (Memᴰ.head refl), best_alike ts x y (λ u m. h u (Memᴰ.tail m)))
