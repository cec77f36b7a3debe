-- The stems in the scratch: laws in the shape of the code.
use mathlib.Core.Path.{◌≡◌, sym, ap, ap₂, subst, ◌∙◌}
use mathlib.Core.List.{List, [], ◌++◌}
use Prim.Native.Nat.{ℕ, ◌+◌, ◌≤◌, ◌<◌}
use native.Mathlib.Omega.{arith}
use native.Mathlib.Decide.{dec_lt}
use lib.ListN.{length, get_or, set, length-append, length-set}
use lib.Seq.{get_or-set_same, get_or-set_other}
use Rattle.text.specs.Texts.{Text, part, index_of}
use Rattle.names.specs.Patterns.{default}
use Rattle.reading.specs.Views.{View, texts}
use Rattle.grants.specs.Scratch.{stem_best}
use Rattle.firsts.specs.Keeping.{Kept}
use Rattle.firsts.specs.Shares.{Laid}
use Rattle.firsts.proofs.Sharings.{laid_still}
use Rattle.firsts.proofs.Keepings.{kept_all, kept_set, kept_then, part_at, part_length}
use Rattle.numbers.specs.Stemming.{put_stem, stem_in, last_stem, Stemmable, StemIs, StemOf, StemsWritten, AllStems, FirstsLent, StemsLent}
use Rattle.numbers.specs.declared.stems.Stem.{Stem}

-- ---- one stem
stem_eq : (x : Stem) (a b c : ℕ) → a ≡ x.sort → b ≡ x.in_old → c ≡ x.in_new → record { sort = a; in_old = b; in_new = c } ≡ x
stem_eq x a b c p q r = rw (p, q, r)

module _ (j : ℕ) (x : Stem) (w : List ℕ) (few : j ≤ 256) where
  abbrev w₁ : List ℕ
  w₁ = set w (1152 + j) x.in_old

  abbrev w₂ : List ℕ
  w₂ = set w₁ (1409 + j) x.in_new

  -- only the stems change
  pub put_kept : (w₀ : List ℕ) → Kept 1152 2048 w₀ w → Kept 1152 2048 w₀ (put_stem j x w)
  put_kept w₀ K =
      kept_set 1152 2048 w₀ w₂ (1666 + j) x.sort
      (kept_set 1152 2048 w₀ w₁ (1409 + j) x.in_new (kept_set 1152 2048 w₀ w (1152 + j) x.in_old K (omega arith) (omega arith)) (omega arith) (omega arith))
      (omega arith) (omega arith)

  -- another stem stays
  pub put_other : (i : ℕ) → (i ≡ j → ⊥) → i ≤ 256 → stem_in i (put_stem j x w) ≡ stem_in i w
  put_other i h l =
      stem_eq (stem_in i w) _ _ _
      (other (1666 + i) (λ e. omega arith) (λ e. omega arith) (λ e. h (omega arith)))
      (other (1152 + i) (λ e. h (omega arith)) (λ e. omega arith) (λ e. omega arith))
      (other (1409 + i) (λ e. omega arith) (λ e. h (omega arith)) (λ e. omega arith))
    where
      other : (p : ℕ) → (p ≡ 1152 + j → ⊥) → (p ≡ 1409 + j → ⊥) → (p ≡ 1666 + j → ⊥) → get_or (put_stem j x w) p 0 ≡ get_or w p 0
      other p a b c =
          get_or-set_other w₂ (1666 + j) p x.sort 0 c
          ∙ get_or-set_other w₁ (1409 + j) p x.in_new 0 b
          ∙ get_or-set_other w (1152 + j) p x.in_old 0 a

  -- so does the number of another first line
  pub put_first : (i : ℕ) → (i ≡ j → ⊥) → i ≤ 256 → get_or (put_stem j x w) (1666 + i) 0 ≡ get_or w (1666 + i) 0
  put_first i h l = ap (λ (y : Stem). y.sort) (put_other i h l)

  -- it stands there
  pub put_here : 2048 ≤ length w → stem_in j (put_stem j x w) ≡ x
  put_here room =
      stem_eq x _ _ _
      (get_or-set_same w₂ (1666 + j) x.sort 0 (omega (arith, length-set w₁ (1409 + j) x.in_new, length-set w (1152 + j) x.in_old)))
      (get_or-set_other w₂ (1666 + j) (1152 + j) x.sort 0 (λ e. omega arith) ∙ get_or-set_other w₁ (1409 + j) (1152 + j) x.in_new 0 (λ e. omega arith) ∙ get_or-set_same w (1152 + j) x.in_old 0 (omega arith))
      (get_or-set_other w₂ (1666 + j) (1409 + j) x.sort 0 (λ e. omega arith) ∙ get_or-set_same w₁ (1409 + j) x.in_new 0 (omega (arith, length-set w (1152 + j) x.in_old)))

-- ---- all lines
texts_few : (old new : View) (w : List ℕ) → Laid old new w → length (texts new ++ texts old) ≤ 256
texts_few old new w L = omega (arith, length-append (texts new) (texts old), L.olds.few_patterns, L.news.few_patterns)

module _ (old new : View) where
  -- the pattern texts of both
  abbrev ol : List Text
  ol = texts old

  abbrev nl : List Text
  nl = texts new

  -- j of n are written; from there on stand the numbers of the first lines
  pub record StemmingTo (n : ℕ) (last : Stem) (j : ℕ) (w₀ w : List ℕ) : Type 0 where
    pub laid : Laid old new w
    pub written : StemsWritten ol nl j w₀ w
    pub firsts : (i : ℕ) → j ≤ i → i < n → get_or w (1666 + i) 0 ≡ index_of (get_or (nl ++ ol) i []) (nl ++ ol)
    pub so_far : j ≤ n
    pub few : n ≤ 256
    pub all : n ≡ length (nl ++ ol)
    pub last_is : last ≡ last_stem ol nl

  module _ (n : ℕ) (last : Stem) where
    module _ (j : ℕ) (w₀ w : List ℕ) (S : StemmingTo n last j w₀ w) where
      -- the next line
      pub stems_next : j < n → Stemmable old new (part 1666 1923 w) last j
      stems_next h = record {
        olds = S.laid.olds;
        news = S.laid.news;
        inside = omega (arith, S.all);
        size = part_length 1666 1923 w (omega arith) (omega (arith, S.laid.room)) ∙ omega arith;
        few = omega (arith, S.few);
        firsts = λ i l m. part_at 1666 1923 i w (omega (arith, S.few, S.all)) ∙ S.firsts i l (omega (arith, S.all));
        last_is = S.last_is;
      }

      -- one more
      pub stems_more : (x : Stem) (v : List ℕ) → j < n → StemOf ol nl j x → v ≡ put_stem j x w → StemmingTo n last (j + 1) w₀ v
      stems_more x v h X p = subst (StemmingTo n last (j + 1) w₀) (sym p) (record {
        laid = laid_still old new w S.laid (put_stem j x w) (put_kept j x w small w (kept_all 1152 2048 w)).size;
        written = record {
          kept = put_kept j x w small w₀ S.written.kept;
          stems = λ i l. go i l (dec_lt i j);
          behind = put_other j x w small (length (nl ++ ol)) (λ e. omega (arith, S.all)) (omega (arith, S.few, S.all)) ∙ S.written.behind;
        };
        firsts = λ i l m. put_first j x w small i (λ e. omega arith) (omega (arith, S.few)) ∙ S.firsts i (omega arith) m;
        so_far = omega arith;
        few = S.few;
        all = S.all;
        last_is = S.last_is;
      })
        where
          small : j ≤ 256
          small = omega (arith, S.few)

          go : (i : ℕ) → i < j + 1 → Dec (i < j) → StemIs ol nl (get_or (nl ++ ol) i []) i (stem_in i (put_stem j x w))
          go i l (yes q) = subst (StemIs ol nl (get_or (nl ++ ol) i []) i) (sym (put_other j x w small i (λ e. omega arith) (omega (arith, S.few)))) (S.written.stems i q)
          go i l (no q) =
              let e : i ≡ j = omega arith in
              rw e (subst (StemIs ol nl (get_or (nl ++ ol) j []) j) (sym (put_here j x w small S.laid.room)) X)

  -- ---- the last stem, and then the others
  module _ (n : ℕ) (w₀ : List ℕ) (L : FirstsLent old new n w₀) where
    pub lines_few : n ≤ 256
    lines_few = omega (arith, texts_few old new w₀ L.laid, L.all)

    module _ (x : Stem) (x-is : x ≡ last_stem ol nl) (w₁ : List ℕ) (p : w₁ ≡ put_stem n x w₀) where
      kept_1 : Kept 1152 2048 w₀ w₁
      kept_1 = subst (Kept 1152 2048 w₀) (sym p) (put_kept n x w₀ lines_few w₀ (kept_all 1152 2048 w₀))

      first_at : (i : ℕ) → i < n → get_or w₁ (1666 + i) 0 ≡ index_of (get_or (nl ++ ol) i []) (nl ++ ol)
      first_at i l = ap (λ (w : List ℕ). get_or w (1666 + i) 0) p ∙ put_first n x w₀ lines_few i (λ e. omega arith) (omega (arith, lines_few)) ∙ L.firsts i l

      pub stems_ready : StemsLent old new n x w₁
      stems_ready = record { laid = laid_still old new w₀ L.laid w₁ kept_1.size; all = L.all; firsts = first_at; last_is = x-is }

      pub stems_last : (w : List ℕ) → StemsWritten ol nl n w₁ w → AllStems ol nl w₀ w
      stems_last w S = record {
        kept = kept_then 1152 2048 1152 2048 1152 2048 w₀ w₁ w kept_1 S.kept (omega arith) (omega arith) (omega arith) (omega arith);
        stems = λ i l. S.stems i (omega (arith, L.all));
        last = S.behind ∙ ap₂ (λ (k : ℕ) (v : List ℕ). stem_in k v) (sym L.all) p ∙ put_here n x w₀ lines_few L.laid.room ∙ x-is;
      }

pub last_is : (os ns : List Text) (a b : ℕ) → a ≡ stem_best os default → b ≡ stem_best ns default → record { sort = 1; in_old = a; in_new = b } ≡ last_stem os ns
unfolding last_stem
last_is os ns a b p q = rw (p, q)
