-- The parts of the scratch put together: laws in the shape of the code.
use mathlib.Core.Path.{◌≡◌, refl, sym, ap, subst, ◌∙◌}
use mathlib.Core.List.{List, [], ◌++◌}
use Prim.Native.Nat.{ℕ, ◌+◌, ◌-◌, ◌≤◌, ◌<◌}
use native.Mathlib.Omega.{arith}
use native.Mathlib.Decide.{dec_lt}
use lib.ListN.{length, get_or, take, drop, length-append, length-drop, get_or-append}
use lib.Seq.{ext_get_or, get_or-take, get_or-drop, length-take-le, get_or-append-add}
use Rattle.text.specs.Texts.{Text, part, index_of}
use Rattle.reading.specs.Views.{View, texts, ProperView}
use Rattle.grants.specs.Scratch.{Numbered, sorted, texts_of}
use Rattle.grants.specs.declared.scratch.Counts.{Counts}
use Rattle.firsts.specs.Keeping.{Kept}
use Rattle.firsts.specs.Shares.{lines_in, Laid, Counted, FirstsWritten}
use Rattle.firsts.proofs.Sharings.{laid_still}
use Rattle.firsts.proofs.Keepings.{kept_then, part_at, part_length, part_kept}
use Rattle.numbers.specs.Writes.{BothLent, SideWritten, MethodsWritten}
use Rattle.numbers.specs.Stemming.{last_stem, AllStems, FirstsLent}
use Rattle.numbers.specs.Gaps.{Alike, GapsLent}
use Rattle.numbers.specs.Numbering.{FirstsStand, SidesLent, SidesWritten, TablesWritten, NumbersWritten, counts_of}
use Rattle.numbers.specs.declared.stems.Stem.{Stem}
use Rattle.numbers.proofs.Stemmings.{firsts_same, among_lines}

-- ---- the first lines
module _ (old new : View) (P : ProperView old) (Q : ProperView new) (o n : ℕ) (o_is : o ≡ length (texts old)) (n-is : n ≡ length (texts new)) where
  pub lines_fit : n + o < 18446744073709551616
  lines_fit = omega (arith, P.few_patterns, Q.few_patterns)

  module _ (w₀ : List ℕ) (room : 2048 ≤ length w₀) where
    laid : Laid old new w₀
    laid = record { olds = P; news = Q; room = room }

    pub firsts_counted : Counted old new (n + o) w₀
    firsts_counted = record { laid = laid; all = omega (arith, length-append (texts new) (texts old)) }

    pub firsts_stand : (w : List ℕ) → FirstsWritten (lines_in old new) (n + o) w₀ w → FirstsStand old new n w₀ w
    firsts_stand w F = record {
      kept = F.kept;
      laid = laid_still old new w₀ laid w F.kept.size;
      firsts = λ j l. F.firsts j (omega (arith, firsts_counted.all));
      news = n-is;
      few = omega (arith, Q.few_patterns);
    }

-- the numbers of the lines from line m on tell which of them have one text
firsts_tell : (ts vs : List Text) (m : ℕ) (fs : List ℕ) → ((i : ℕ) → i < length vs → get_or fs i 0 ≡ index_of (get_or ts (m + i) []) ts) → m + length vs ≤ length ts
    → ((k : ℕ) → k < length vs → get_or ts (m + k) [] ≡ get_or vs k []) → Alike vs fs
firsts_tell ts vs m fs number h same_line j k l q =
    rw (number j l, number k q, ← same_line j l, ← same_line k q)
    (firsts_same ts (get_or ts (m + j) []) (get_or ts (m + k) []) (among_lines ts (m + j) (omega arith)) (among_lines ts (m + k) (omega arith)))

module _ (old new : View) (n : ℕ) (w₀ : List ℕ) (X : SidesLent old new n w₀) where
  abbrev ts : List Text
  ts = texts_of old new

  few_olds : length (texts old) ≤ 128
  few_olds = X.laid.olds.few_patterns

  few_news : length (texts new) ≤ 128
  few_news = X.laid.news.few_patterns

  few : length ts ≤ 256
  few = omega (arith, length-append (texts new) (texts old), few_olds, few_news)

  -- ---- the sides
  -- the numbers of the first lines stand behind the tables
  abbrev fs : List ℕ
  fs = drop 1666 w₀

  fs_length : length fs ≡ length w₀ - 1666
  fs_length = length-drop 1666 w₀

  pub old_room : n + 128 ≤ length fs
  old_room = omega (arith, fs_length, X.laid.room, X.few)

  pub new_room : 128 ≤ length fs
  new_room = omega (arith, fs_length, X.laid.room)

  tables_length : length (take 1666 w₀) ≡ 1666
  tables_length = length-take-le 1666 w₀ (omega (arith, X.laid.room))

  pub old_lent : GapsLent old (part n (n + 128) fs) 0 512 (take 1666 w₀)
  old_lent = record {
    proper = X.laid.olds;
    room = omega (arith, tables_length);
    firsts = omega (arith, part_length n (n + 128) fs (omega arith) old_room, few_olds);
    alike = rw X.news
        (firsts_tell ts (texts old) (length (texts new)) (part (length (texts new)) (length (texts new) + 128) fs)
        (λ i l. part_at (length (texts new)) (length (texts new) + 128) i fs (omega (arith, few_olds)) ∙ get_or-drop 1666 w₀ (length (texts new) + i) 0 ∙ X.firsts (length (texts new) + i) (omega (arith, length-append (texts new) (texts old))))
        (omega (arith, length-append (texts new) (texts old))) (λ k l. get_or-append-add (texts new) (texts old) k []));
  }

  module _ (w₁ : List ℕ) (O : SideWritten new.roles old 0 (take 1666 w₀) w₁) where
    pub new_lent : GapsLent new (take 128 fs) 512 512 w₁
    new_lent = record {
      proper = X.laid.news;
      room = omega (arith, tables_length, O.kept.size);
      firsts = omega (arith, length-take-le 128 fs new_room, few_news);
      alike = firsts_tell ts (texts new) 0 (take 128 fs)
          (λ i l.
          let z : 0 + i ≡ i = omega arith in
          rw z (get_or-take 128 fs i 0 (omega (arith, few_news)) ∙ get_or-drop 1666 w₀ i 0 ∙ X.firsts i (omega (arith, length-append (texts new) (texts old)))))
          (omega (arith, length-append (texts new) (texts old))) (λ k l. let z : 0 + k ≡ k = omega arith in rw z (get_or-append (texts new) (texts old) [] k l));
    }

    module _ (w₂ : List ℕ) (N : SideWritten new.roles new 512 w₁ w₂) where
      w₂_length : length w₂ ≡ 1666
      w₂_length = N.kept.size ∙ O.kept.size ∙ tables_length

      module _ (w : List ℕ) (w-is : w ≡ w₂ ++ fs) where
        kept_tables : Kept 0 1024 (take 1666 w₀) w₂
        kept_tables = kept_then 0 1024 0 512 512 1024 (take 1666 w₀) w₁ w₂ O.kept N.kept (omega arith) (omega arith) (omega arith) (omega arith)

        kept_sides : Kept 0 1024 w₀ w
        kept_sides = record {
          size = rw w-is (length-append w₂ fs ∙ omega (arith, w₂_length, fs_length, X.laid.room));
          before = λ i h. absurd (omega arith);
          behind = λ i h. rw w-is (go i h (dec_lt i 1666));
        }
          where
            go : (i : ℕ) → 1024 ≤ i → Dec (i < 1666) → get_or (w₂ ++ fs) i 0 ≡ get_or w₀ i 0
            go i h (yes l) = get_or-append w₂ fs 0 i (omega (arith, w₂_length)) ∙ kept_tables.behind i h ∙ get_or-take 1666 w₀ i 0 l
            go i h (no l) =
                let z : length w₂ + (i - 1666) ≡ i = omega (arith, w₂_length) in
                let y : 1666 + (i - 1666) ≡ i = omega arith in
                ap (λ (k : ℕ). get_or (w₂ ++ fs) k 0) (sym z) ∙ get_or-append-add w₂ fs (i - 1666) 0 ∙ get_or-drop 1666 w₀ (i - 1666) 0 ∙ ap (λ (k : ℕ). get_or w₀ k 0) y

        -- a part of the tables
        early : (b c : ℕ) → b ≤ c → c ≤ 1024 → part b c w ≡ part b c w₂
        early b c l h =
            ext_get_or 0 (part b c w) (part b c w₂)
            (part_length b c w l (omega (arith, kept_sides.size, X.laid.room)) ∙ sym (part_length b c w₂ l (omega (arith, w₂_length)))) (λ i k.
            let q : i < c - b = omega (arith, part_length b c w l (omega (arith, kept_sides.size, X.laid.room))) in
            part_at b c i w (omega arith) ∙ ap (λ (v : List ℕ). get_or v (b + i) 0) w-is ∙ get_or-append w₂ fs 0 (b + i) (omega (arith, w₂_length)) ∙ sym (part_at b c i w₂ (omega arith)))

        pub sides_written : SidesWritten old new w₀ w
        sides_written = record {
          kept = kept_sides;
          old_side_lem = rw (early 0 512 (omega arith) (omega arith), part_kept 512 1024 w₁ w₂ N.kept 0 512 (omega arith) (omega arith) (omega (arith, O.kept.size, tables_length))) O.side;
          new_side_lem = rw (early 512 1024 (omega arith) (omega arith)) N.side;
        }

  -- ---- and the methods
  module _ (w₁ : List ℕ) (S : SidesWritten old new w₀ w₁) where
    pub methods_lent : BothLent old new 1024 128 w₁
    methods_lent = record { olds = X.laid.olds; news = X.laid.news; room = omega (arith, X.laid.room, S.kept.size) }

    pub tables_written : (w : List ℕ) (count : ℕ) → MethodsWritten old.methods new.methods 1024 w₁ w count → TablesWritten old new w₀ w count
    tables_written w count M = record {
      kept = kept_then 0 1152 0 1024 1024 1152 w₀ w₁ w S.kept M.kept (omega arith) (omega arith) (omega arith) (omega arith);
      old_side_lem = rw (part_kept 1024 1152 w₁ w M.kept 0 512 (omega arith) (omega arith) (omega (arith, X.laid.room, S.kept.size))) S.old_side_lem;
      new_side_lem = rw (part_kept 1024 1152 w₁ w M.kept 512 1024 (omega arith) (omega arith) (omega (arith, X.laid.room, S.kept.size))) S.new_side_lem;
      methods = M.pairs;
    }

  -- ---- and the stems
  module _ (m : ℕ) (w₁ : List ℕ) (T : TablesWritten old new w₀ w₁ m) where
    pub stems_lent : SidesLent old new n w₁
    stems_lent = record {
      laid = laid_still old new w₀ X.laid w₁ T.kept.size;
      firsts = λ j l. T.kept.behind (1666 + j) (omega arith) ∙ X.firsts j l;
      news = X.news;
      few = X.few;
    }

    module _ (w : List ℕ) (A : AllStems (texts old) (texts new) w₁ w) where
      kept_all : Kept 0 2048 w₀ w
      kept_all = kept_then 0 2048 0 1152 1152 2048 w₀ w₁ w T.kept A.kept (omega arith) (omega arith) (omega arith) (omega arith)

      room : 2048 ≤ length w
      room = omega (arith, kept_all.size, X.laid.room)

      abbrev x : List ℕ
      x = part 0 2048 w

      -- a number of the scratch
      inside : (j : ℕ) → j < 2048 → get_or x j 0 ≡ get_or w j 0
      inside j q = part_at 0 2048 j w (omega arith) ∙ (let e : 0 + j ≡ j = omega arith in ap (λ (i : ℕ). get_or w i 0) e)

      -- a part before the stems is as it was
      before_stems : (b c : ℕ) → b ≤ c → c ≤ 1152 → part b c x ≡ part b c w₁
      before_stems b c l h =
          let z : length x ≡ 2048 = part_length 0 2048 w (omega arith) room ∙ omega arith in
          let p = part_length b c x l (omega arith) in
          ext_get_or 0 (part b c x) (part b c w₁) (p ∙ sym (part_length b c w₁ l (omega (arith, room, A.kept.size)))) (λ i k.
          part_at b c i x (omega arith) ∙ inside (b + i) (omega arith) ∙ A.kept.before (b + i) (omega arith) ∙ sym (part_at b c i w₁ (omega arith)))

      counted : NumbersWritten old new w₀ w (counts_of old new m)
      unfolding sorted last_stem
      counted = record {
        kept = kept_all;
        numbers = record {
          size = part_length 0 2048 w (omega arith) room ∙ omega arith;
          olds = refl;
          news = refl;
          old_side_lem = rw (before_stems 0 512 (omega arith) (omega arith)) T.old_side_lem;
          new_side_lem = rw (before_stems 512 1024 (omega arith) (omega arith)) T.new_side_lem;
          methods = rw (before_stems 1024 1152 (omega arith) (omega arith)) T.methods;
          sorts = λ j h. inside (1666 + j) (omega (arith, few)) ∙ (A.stems j h).sort;
          stems = λ j h f. record {
            in_old_lem = inside (1152 + j) (omega (arith, few)) ∙ (A.stems j h).in_old_lem f;
            in_new_lem = inside (1409 + j) (omega (arith, few)) ∙ (A.stems j h).in_new_lem f;
          };
          last_sort = inside (1666 + length ts) (omega (arith, few)) ∙ ap (λ (y : Stem). y.sort) A.last;
          last_stem_lem = record {
            in_old_lem = inside (1152 + length ts) (omega (arith, few)) ∙ ap (λ (y : Stem). y.in_old) A.last;
            in_new_lem = inside (1409 + length ts) (omega (arith, few)) ∙ ap (λ (y : Stem). y.in_new) A.last;
          };
        };
      }

      pub numbers_written : (c : Counts) → c ≡ counts_of old new m → NumbersWritten old new w₀ w c
      numbers_written c e = subst (NumbersWritten old new w₀ w) (sym e) counted

-- the counts of both
module _ (old new : View) (n : ℕ) (w : List ℕ) (X : SidesLent old new n w) (o : ℕ) (p : o ≡ length (texts old)) where
  pub lines_more : n + o < 18446744073709551616
  lines_more = omega (arith, X.few, X.laid.olds.few_patterns)

  pub counts_are : (m : ℕ) → record { old = o; new = n; methods = m } ≡ counts_of old new m
  counts_are m = rw (p, X.news)

  lines_both : n + o ≡ length (texts_of old new)
  lines_both = omega (arith, p, X.news, length-append (texts new) (texts old))

  pub firsts_lent : FirstsLent old new (n + o) w
  firsts_lent = record { laid = X.laid; all = lines_both; firsts = λ j l. X.firsts j (omega (arith, lines_both)) }

-- ---- one after the other
module _ (old new : View) (w₀ : List ℕ) (n : ℕ) (w₁ : List ℕ) (F : FirstsStand old new n w₀ w₁) where
  pub tables_lent : SidesLent old new n w₁
  tables_lent = record { laid = F.laid; firsts = F.firsts; news = F.news; few = F.few }

  pub all_written : (w : List ℕ) (c : Counts) → NumbersWritten old new w₁ w c → NumbersWritten old new w₀ w c
  all_written w c N = record {
    kept = kept_then 0 2048 0 2048 0 2048 w₀ w₁ w F.kept N.kept (omega arith) (omega arith) (omega arith) (omega arith);
    numbers = N.numbers;
  }

-- ---- the whole scratch
module _ (old new : View) (w₀ w : List ℕ) (c : Counts) (N : NumbersWritten old new w₀ w c) where
  pub all_numbers : Numbered old new (take 2048 w) c
  all_numbers = N.numbers

  pub all_size : length w ≡ length w₀
  all_size = N.kept.size

  pub all_rest : drop 2048 w ≡ drop 2048 w₀
  all_rest =
      ext_get_or 0 (drop 2048 w) (drop 2048 w₀) (length-drop 2048 w ∙ ap (λ (n : ℕ). n - 2048) N.kept.size ∙ sym (length-drop 2048 w₀)) (λ i l.
      get_or-drop 2048 w i 0 ∙ N.kept.behind (2048 + i) (omega arith) ∙ sym (get_or-drop 2048 w₀ i 0))
