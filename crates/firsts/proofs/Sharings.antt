-- What a text shares with the lines of both views: laws in the shape of the code.
use mathlib.Core.Path.{◌≡◌, sym, ap, ◌∙◌}
use mathlib.Core.Bool.{Bool, true, false}
use mathlib.Core.List.{List, [], ◌++◌}
use Prim.Native.Nat.{ℕ, ◌+◌, ◌-◌, ◌≤◌, ◌<◌, min, max}
use native.Mathlib.Omega.{arith}
use native.Mathlib.Decide.{dec_lt, dec_le}
use native.Mathlib.Numerals.{add-one}
use lib.ListN.{length, get_or, set, drop, length-append, get_or-append}
use lib.Seq.{get_or-append-add}
use lib.Dec.{eqb}
use borrow.Author.Tests.{eq-eqb, ne_eqb}
use Rattle.text.specs.Texts.{Text, same}
use Rattle.text.proofs.Indices.{member_at}
use Rattle.names.proofs.Plainly.{member_plain}
use Rattle.reading.specs.Views.{View, texts}
use Rattle.firsts.specs.Shares.{common, lines_in, Laid, Near, Sharing, Compared, ShareEntered}
use Rattle.firsts.proofs.Commons.{common_bound, common_sym, common_less, common_more, common_alike, common_end, common_short, common_differ, common_step, common_same}

-- ---- the lines of both
module _ (us vs : List Text) (n j : ℕ) (n-is : n ≡ length us) where
  pub line_new : (r : Text) → j < n → r ≡ get_or us j [] → r ≡ get_or (us ++ vs) j []
  line_new r h e = e ∙ sym (get_or-append us vs [] j (omega arith))

  pub line_within : n ≤ j → j < length (us ++ vs) → j - n < length vs
  line_within h l = omega (arith, length-append us vs)

  pub line_old : (r : Text) → n ≤ j → r ≡ get_or vs (j - n) [] → r ≡ get_or (us ++ vs) j []
  line_old r h e =
      let q : length us + (j - n) ≡ j = omega arith in
      e ∙ sym (get_or-append-add us vs (j - n) []) ∙ ap (λ (i : ℕ). get_or (us ++ vs) i []) q

-- ---- what both views hold
module _ (old new : View) (w : List ℕ) (L : Laid old new w) where
  abbrev ns : List Text
  ns = texts new

  abbrev os : List Text
  os = texts old

  pub lines_few : length (lines_in old new) ≤ 256
  lines_few = omega (arith, length-append ns os, L.olds.few_patterns, L.news.few_patterns)

  pub line_short : (i : ℕ) → i < length (lines_in old new) → length (get_or (lines_in old new) i []) ≤ 255
  line_short i h = go (dec_lt i (length ns))
    where
      go : Dec (i < length ns) → length (get_or (ns ++ os) i []) ≤ 255
      go (yes l) = rw (get_or-append ns os [] i l) (L.news.short_patterns (get_or ns i []) ((member_plain (get_or ns i []) ns).0 (member_at ns i l)))
      go (no l) =
          let q : length ns + (i - length ns) ≡ i = omega arith in
          let m : i - length ns < length os = omega (arith, length-append ns os) in
          let e : get_or (ns ++ os) i [] ≡ get_or os (i - length ns) [] = ap (λ (k : ℕ). get_or (ns ++ os) k []) (sym q) ∙ get_or-append-add ns os (i - length ns) [] in
          rw e (L.olds.short_patterns (get_or os (i - length ns) []) ((member_plain (get_or os (i - length ns) []) os).0 (member_at os (i - length ns) m)))

  pub shared_small : (t : Text) (i r : ℕ) → i < length (lines_in old new) → r ≡ common t (get_or (lines_in old new) i []) → r < 4294967296
  shared_small t i r h e =
      let u : Text = get_or (lines_in old new) i [] in
      omega (arith, line_short i h, common_bound u t, common_sym t u)

  -- a call keeps them
  pub laid_still : (v : List ℕ) → length v ≡ length w → Laid old new v
  laid_still v e = record { olds = L.olds; news = L.news; room = omega (arith, L.room) }

-- ---- byte by byte, up to where the shorter text ends
module _ (t u : Text) (from i end : ℕ) (E : from + common (drop from t) (drop from u) ≡ i + common (drop i t) (drop i u)) (end-is : end ≡ min (length t) (length u)) where
  pub share_ends : (r : ℕ) → end ≤ i → i ≤ max end from → r ≡ max end from → from ≤ i → r ≡ from + common (drop from t) (drop from u)
  share_ends r h l e m = go (dec_le (length t) i)
    where
      go : Dec (length t ≤ i) → r ≡ from + common (drop from t) (drop from u)
      go (yes q) = omega (arith, common_end t u i q)
      go (no n) = let q : length u ≤ i = omega arith in omega (arith, common_short t u i q)

  pub share_differs : i < end → (get_or t i 0 ≡ get_or u i 0 → ⊥) → i ≡ from + common (drop from t) (drop from u)
  share_differs h n = let q : i < length t = omega arith in let l : i < length u = omega arith in omega (arith, common_differ t u i q l n)

  pub share_goes : i < end → get_or t i 0 ≡ get_or u i 0 → from + common (drop from t) (drop from u) ≡ (i + 1) + common (drop (i + 1) t) (drop (i + 1) u)
  share_goes h e = let q : i < length t = omega arith in let l : i < length u = omega arith in rw (add-one i) (omega (arith, common_step t u i q l e))

-- ---- line by line
module _ (old new : View) (t : Text) (i : ℕ) (w : List ℕ) (S : Sharing old new t i w) (p : ℕ) (p-is : p ≡ get_or w i 0) where
  abbrev ts : List Text
  ts = lines_in old new

  near : Near ts i p (get_or w (256 + i) 0)
  near = rw p-is (S.tree i (omega arith))

  -- there is none: the texts are looked at
  pub with_none : (u : Text) (r : ℕ) → u ≡ get_or ts i [] → r ≡ 0 + common (drop 0 t) (drop 0 u) → r ≡ common t (get_or ts i [])
  with_none u r e q = q ∙ rw (← e) (omega arith)

  module _ (l : p < i) (x : ℕ) (x-is : x ≡ get_or w (512 + p) 0) (y : ℕ) (y-is : y ≡ get_or w (256 + i) 0) where
    x_shared : x ≡ common t (get_or ts p [])
    x_shared = x-is ∙ S.shared p l

    y_shared : y ≡ common (get_or ts p []) (get_or ts i [])
    y_shared = y-is ∙ near.share l ∙ common_sym (get_or ts i []) (get_or ts p [])

    -- the two share another number: the text shares the smaller
    pub with_less : (x ≡ y → ⊥) → (r : ℕ) → r ≡ min x y → r ≡ common t (get_or ts i [])
    with_less n r r-is = go (dec_lt x y)
      where
        go : Dec (x < y) → r ≡ common t (get_or ts i [])
        go (yes m) = omega (arith, x_shared, common_less t (get_or ts p []) (get_or ts i []) (omega (arith, x_shared, y_shared)))
        go (no m) = omega (arith, y_shared, common_more t (get_or ts p []) (get_or ts i []) (omega (arith, x_shared, y_shared)))

    pub with_alike : x ≡ y → (u : Text) (r : ℕ) → u ≡ get_or ts i [] → r ≡ x + common (drop x t) (drop x u) → r ≡ common t (get_or ts i [])
    with_alike m u r e q =
        let z : common (get_or ts p []) (get_or ts i []) ≡ x = omega (arith, y_shared) in
        q ∙ rw e (common_alike t (get_or ts p []) (get_or ts i []) x (sym x_shared) z)

-- ---- entered
module _ (old new : View) (t : Text) (i : ℕ) (w : List ℕ) (S : Sharing old new t i w) (x : ℕ) (x-is : x ≡ common t (get_or (lines_in old new) i [])) where
  pub share_compared : Compared old new t i x
  share_compared = record { inside = S.inside; share = x-is }

  pub share_small : x < 4294967296
  share_small = shared_small old new w S.laid t i x S.inside x-is

  pub share_entered : (r : Bool) → r ≡ same (get_or (lines_in old new) i []) t → ShareEntered t (lines_in old new) i w (set w (512 + i) x) r
  share_entered r e = record { written = ap (set w (512 + i)) x-is; found = e }

module _ (old new : View) (t : Text) (i x : ℕ) (C : Compared old new t i x) where
  abbrev line : Text
  line = get_or (lines_in old new) i []

  pub same_far : (x ≡ length t → ⊥) → false ≡ same line t
  same_far n = let e : eqb (common t line) (length t) ≡ false = ne_eqb (common t line) (length t) (λ q. n (C.share ∙ q)) in sym (common_same t line ∙ rw e)

  pub same_near : x ≡ length t → (u : Text) → u ≡ line → eqb (length u) (length t) ≡ same line t
  same_near h u e =
      let q : eqb (common t line) (length t) ≡ true = eq-eqb (common t line) (length t) (sym C.share ∙ h) in
      sym (common_same t line ∙ rw (q, ← e))
