-- A content of letters and comments alone, up to the next tag, is read as its letters.
use mathlib.Core.Path.{◌≡◌, refl, sym, ap, ◌∙◌}
use mathlib.Core.Bool.{true, false, false≢true}
use mathlib.Core.List.{[], ◌∷◌, ◌++◌, append_assoc, append-nil}
use Prim.Native.Nat.{ℕ, ◌≤◌}
use native.Mathlib.Omega.{arith}
use lib.Dec.{eqb}
use lib.ListN.{length, length-append}
use Rattle.text.specs.Texts.{Text, bytes, starts_with}
use Rattle.documents.specs.Chars.{is_name_start, next}
use Rattle.documents.specs.Grammar.{Node, letter, element, Content, none, ◌then◌, depth_node, depth, letters_of, Tag, SpellsNode, text, remarked, full, empty, Spells, nothing, further}
use Rattle.documents.specs.Parts.{got, walk, goes_on, piece, letters}
use Rattle.documents.proofs.Steps.{run_then, run_true, run_false, run_blamed}
use Rattle.documents.proofs.Loops.{walk_goes, walk_ends}
use Rattle.documents.proofs.Complete.{letter_run, letter_some, letter_next, comment_run, tag_starts, tag_next}
use Rattle.documents.proofs.Leaves.{piece_less}

-- ---- what goes on
pub goes_none : goes_on [] ≡ false
unfolding goes_on
goes_none = refl

-- no text goes on at `<`, but at a comment
pub goes_not : (s : Text) → next (eqb 60) s ≡ true → starts_with (bytes "<!--") s ≡ false → goes_on s ≡ false
unfolding goes_on
goes_not [] e h = absurd (false≢true e)
goes_not (b ∷ s) e h = rw (e, h)

pub tag_goes_not : {n t : Text} (r : Text) → Tag n t → goes_on (t ++ r) ≡ false
unfolding is_name_start
tag_goes_not {t = t} r m = goes_not (t ++ r) (tag_next r m) (tag_starts r m 33 (bytes "--") refl)

pub end_goes_not : (r : Text) → goes_on (bytes "</" ++ r) ≡ false
unfolding goes_on starts_with
end_goes_not r = refl

-- every other byte goes on
pub goes_on_lem : (s : Text) → 1 ≤ length s → next (eqb 60) s ≡ false → goes_on s ≡ true
unfolding goes_on
goes_on_lem [] l e = absurd (omega arith)
goes_on_lem (b ∷ s) l e = rw e

-- ---- one piece
pub piece_goes : {x : Node} {s : Text} (r : Text) → SpellsNode x s → depth_node x ≡ 0 → goes_on (s ++ r) ≡ true
unfolding goes_on starts_with depth_node
piece_goes {s = u} r (text l) d = goes_on_lem (u ++ r) (omega (arith, length-append u r, letter_some l)) (letter_next r l)
piece_goes r (remarked t m) d = refl
piece_goes r (full t s w h k e) d = absurd (omega arith)
piece_goes r (empty t h) d = absurd (omega arith)

pub piece_run : (n : ℕ) (t : Text) {x : Node} {s : Text} (r : Text) → SpellsNode x s → depth_node x ≡ 0 → piece n t (s ++ r) ≡ got (t ++ letters_of (x then none)) r
unfolding piece letters_of depth_node
piece_run n t r (text l) d = run_false _ _ _ _ (letter_next r l) (run_then _ _ _ (run_blamed _ _ _ (letter_run r l)) refl)
piece_run n t r (remarked u m) d = run_true _ _ _ _ refl (run_then _ _ _ (comment_run u r m) (ap (λ (z : Text). got z r) (sym (append-nil t))))
piece_run n t r (full u s w h k e) d = absurd (omega arith)
piece_run n t r (empty u h) d = absurd (omega arith)

-- ---- all of them
pub letters_then : (x : Node) (c : Content) → letters_of (x then c) ≡ letters_of (x then none) ++ letters_of c
unfolding letters_of
letters_then (letter b) c = refl
letters_then Node.comment c = refl
letters_then (element m k) c = refl

letters_from : (n : ℕ) (t : Text) {c : Content} {u : Text} (r : Text) → Spells c u → depth c ≡ 0 → goes_on r ≡ false → walk goes_on (piece n) t (u ++ r) ≡ got (t ++ letters_of c) r
unfolding letters_of depth
letters_from n t r nothing d stop = walk_ends goes_on (piece n) goes_none (λ a x e. piece_less n a x) t r stop ∙ ap (λ (z : Text). got z r) (sym (append-nil t))
letters_from n t r (further {x = x} {c = c} {s = s} {t = u} p q) d stop =
    ap (walk goes_on (piece n) t) (append_assoc s u r)
    ∙ walk_goes goes_on (piece n) goes_none (λ a x e. piece_less n a x) t _ (piece_goes (u ++ r) p (omega arith)) (piece_run n t (u ++ r) p (omega arith))
    ∙ letters_from n (t ++ letters_of (x then none)) r q (omega arith) stop
    ∙ ap (λ (z : Text). got z r) (append_assoc t (letters_of (x then none)) (letters_of c) ∙ ap (λ (z : Text). t ++ z) (sym (letters_then x c)))

pub letters_run : (n : ℕ) {c : Content} {u : Text} (r : Text) → Spells c u → depth c ≡ 0 → goes_on r ≡ false → letters n (u ++ r) ≡ got (letters_of c) r
unfolding letters
letters_run n r p d stop = letters_from n [] r p d stop
