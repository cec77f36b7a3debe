-- The law of lines: they are counted by the bytes that end one.
use mathlib.Core.Path.{◌≡◌, refl, ap, ◌∙◌}
use mathlib.Core.Bool.{Bool, true, false, cond}
use mir.Val.{bool_byte}
use Prim.Native.Nat.{ℕ, suc, min, ◌+◌, ◌-◌, ◌<◌, ◌≤◌}
use native.Mathlib.Omega.{arith}
use lib.Dec.{eqb}
use lib.ListN.{length, take, get_or}
use Rattle.std.specs.List.{count_by}
use Rattle.std.proofs.lemmas.List.Recursion.{is_count_by}
use Rattle.std.proofs.lemmas.List.{take_all, length-take}
use Rattle.std.proofs.lemmas.List.Sums.{count_by_more_yes, count_by_more_no, count_by-le-length}
use Rattle.text.specs.Texts.{Text, newline}
use Rattle.markup.specs.Lines.{count, line_at}
use Rattle.markup.proofs.Places.{eqb_swap}

counted : (b : ℕ) (t : Text) → count b t ≡ count_by (λ x. eqb x b) t
unfolding count
counted b t =
    is_count_by (count b) (λ x. eqb x b) refl
    (λ x xs. ap (λ (c : Bool). cond c (suc (count b xs)) (count b xs)) (eqb_swap b x) ∙ ap (λ (k : ℕ). cond (eqb x b) k (count b xs)) (omega arith)) t

pub lines_counted : (s : Text) (p end n : ℕ) → end ≡ min p (length s - 1) → n ≡ count_by (λ x. eqb x newline) (take end s) → 1 + n ≡ line_at s p
unfolding line_at
lines_counted s p end n e h = omega (arith, h, counted newline (take end s), ap (λ (k : ℕ). count newline (take k s)) e)

-- ---- a loop that has counted n of the first i bytes
-- goes on with the next one's bit
pub counted_on : (t : Text) (i n k : ℕ) → n ≡ count_by (λ x. eqb x newline) (take i t) → i < length t → k ≡ bool_byte (eqb (get_or t i 0) newline) → n + k ≡ count_by (λ x. eqb x newline) (take (i + 1) t)
counted_on t i n k e h f = go (eqb (get_or t i 0) newline) refl
  where
    go : (b : Bool) → eqb (get_or t i 0) newline ≡ b → n + k ≡ count_by (λ x. eqb x newline) (take (i + 1) t)
    go true q = omega (arith, e, f ∙ ap bool_byte q, count_by_more_yes (λ x. eqb x newline) t i 0 h q)
    go false q = omega (arith, e, f ∙ ap bool_byte q, count_by_more_no (λ x. eqb x newline) t i 0 h q)

-- and has counted no more than it has seen
pub counted_fits : (t : Text) (i n k : ℕ) → n ≡ count_by (λ x. eqb x newline) (take i t) → i < length t → k ≡ bool_byte (eqb (get_or t i 0) newline) → length t < 9223372036854775808 → n + k < 18446744073709551616
counted_fits t i n k e h f l = omega (arith, l, counted_on t i n k e h f, count_by-le-length (λ x. eqb x newline) (take (i + 1) t), length-take (i + 1) t)

-- and at the end has counted all
pub counted_all : (t : Text) (i n : ℕ) → n ≡ count_by (λ x. eqb x newline) (take i t) → length t ≤ i → n ≡ count_by (λ x. eqb x newline) t
counted_all t i n e h = e ∙ ap (count_by (λ x. eqb x newline)) (take_all i t h)
