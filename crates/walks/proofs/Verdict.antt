-- The walk over the numbers finds the verdict: each stem shows what its trial paths show, and a stem that is passed over shows nothing new.
use mathlib.Core.Path.{◌≡◌, refl, sym, ap, ap₂, subst, ◌∙◌}
use mathlib.Core.Bool.{Bool, true, false, cond}
use mathlib.Core.List.Memᴰ
use mathlib.Core.List.{List, [], ◌∷◌, ◌++◌, append-nil, append_assoc, Memᴰ}
use mathlib.Core.Logic.{⊎_elim}
use mathlib.Core.Option.{Option, none, some}
use Prim.Native.Nat.{ℕ, zero, suc, ◌+◌, ◌<◌}
use native.Mathlib.Numerals.{add-one}
use native.Mathlib.Omega.{arith}
use lib.ListN.{length, take, get_or, length-append}
use lib.Dec.{eqb}
use borrow.Author.Tests.{lt-ltb, le-ltb}
use Rattle.text.specs.Texts.{Text, slash, dot, member}
use Rattle.names.specs.Patterns.{PatternKind, exact, prefix, extension, default, unpermitted, kind_of, is_permitted}
use Rattle.listings.specs.Listings.{Listing, patterns_of}
use Rattle.text.proofs.Truths.{never}
use Rattle.reading.specs.Views.{View, texts, view_of}
use Rattle.reading.proofs.Viewings.{texts_of_lem}
use Rattle.listings.specs.Propers.{Proper}
use Rattle.decisions.specs.Matching.{is_under}
use Rattle.decisions.specs.Requests.{Request, request}
use Rattle.matching.specs.Strengths.{leading}
use Rattle.matching.proofs.Strengths.{at_listed}
use Rattle.trials.specs.Fillers.{filler as fillerIn, filler_of, Filler}
use Rattle.trials.specs.Trials.{below, dotted, extension_in, extensions, paths_of_kind, paths_for, trial_paths, methods_tried, trial_methods}
use Rattle.trials.specs.Loops.{or_else, first_some, shown}
use Rattle.trials.specs.Verdicts.{verdict}
use Rattle.trials.proofs.Bounds.{pattern_permitted, filler_of_fills}
use Rattle.trials.proofs.Loops.{verdict_shown}
use Rattle.trials.proofs.Turns.{some_none, some_one, paths_by_lines, paths_below, extensions_by_lines}
use Rattle.std.specs.Prelude.{Option as Maybe, Some, None}
use Rattle.grants.specs.Sides.{caller_at, line_number, best_in, Ready}
use Rattle.grants.specs.Catches.{shown_on, caught_in, caught_on}
use Rattle.grants.specs.Scratch.{old_side, new_side, pairs_in, best_in_old, best_in_new, sort_at, best_number, line_in, staying, sort_of, sorted, stem_best, stem_path, texts_of, StemIn, Numbered}
use Rattle.grants.specs.declared.scratch.Counts.{Counts}
use Rattle.grants.specs.declared.judging.Catch.{Catch}
use Rattle.grants.proofs.Grants.{caught_at_lem}
use Rattle.grants.proofs.Stems.{line_of_best, prefix_rooted, extension_plain, stem_best_lem, last_best, behind_best}
use Rattle.walks.specs.Walks.{some_hit, caught_at, caught_behind, behind_from, behind, stem_hit, walk_from, walked, kind_at, hit_path, hit_shown}
use Rattle.walks.specs.declared.walking.Hit.{Hit}
use Rattle.walks.proofs.Firsts.{first_from, from_none, from_more, from_alike, from_last, anew, anew_again, anew_here, anew_first}

-- ---- the walk as the first answer of indices, whatever the numbers are
module _ (old new : View) (x : List ℕ) (c : Counts) where
  -- who is caught on a path, as a hit there
  abbrev hit_at : ℕ → Maybe ℕ → Maybe Catch → Maybe Hit
  hit_at j e y = elim y [ None ↦ None | Some one ↦ some_hit j e one ]

  -- the extension of stem i behind stem j
  abbrev behind_hit : ℕ → ℕ → Maybe Hit
  behind_hit j i = cond (eqb (sort_at x i) 3) (hit_at j (Some i) (caught_behind x c j i)) None

  behind_from_lem : (j k i : ℕ) → hit_shown old new (behind_from x c j k i) ≡ first_from (λ (n : ℕ). hit_shown old new (behind_hit j n)) k i
  unfolding behind_from
  behind_from_lem j zero i = sym (from_none (λ (n : ℕ). hit_shown old new (behind_hit j n)) i)
  behind_from_lem j (suc k) i = go (eqb (sort_at x i) 3) (caught_behind x c j i) (behind_from_lem j k (i + 1)) ∙ sym (from_more (λ (n : ℕ). hit_shown old new (behind_hit j n)) k i)
    where
      go : (b : Bool) (y : Maybe Catch) → hit_shown old new (behind_from x c j k (i + 1)) ≡ first_from (λ (n : ℕ). hit_shown old new (behind_hit j n)) k (i + 1)
          → hit_shown old new (cond b (elim y [ None ↦ behind_from x c j k (i + 1) | Some y ↦ some_hit j (Some i) y ]) (behind_from x c j k (i + 1)))
          ≡ or_else (hit_shown old new (cond b (hit_at j (Some i) y) None)) (first_from (λ (n : ℕ). hit_shown old new (behind_hit j n)) k (i + 1))
      go true None ih = ih
      go true (Some one) ih = refl
      go false y ih = ih

  -- stem after stem
  walk_from_lem : (k j : ℕ) → hit_shown old new (walk_from x c k j) ≡ first_from (λ (n : ℕ). hit_shown old new (stem_hit x c n)) k j
  unfolding walk_from
  walk_from_lem zero j = sym (from_none (λ (n : ℕ). hit_shown old new (stem_hit x c n)) j)
  walk_from_lem (suc k) j = go (stem_hit x c j) (walk_from_lem k (j + 1)) ∙ sym (from_more (λ (n : ℕ). hit_shown old new (stem_hit x c n)) k j)
    where
      go : (h : Maybe Hit) → hit_shown old new (walk_from x c k (j + 1)) ≡ first_from (λ (n : ℕ). hit_shown old new (stem_hit x c n)) k (j + 1)
          → hit_shown old new (elim h [ None ↦ walk_from x c k (j + 1) | Some h ↦ Some h ])
          ≡ or_else (hit_shown old new h) (first_from (λ (n : ℕ). hit_shown old new (stem_hit x c n)) k (j + 1))
      go None ih = ih
      go (Some one) ih = refl

  -- a stem by its sort: nothing to try
  sort_none : (j : ℕ) → sort_at x j ≡ 0 → hit_shown old new (stem_hit x c j) ≡ none
  unfolding stem_hit
  sort_none j e = rw e

  -- one path
  sort_one : (j : ℕ) → eqb (sort_at x j) 0 ≡ false → eqb (sort_at x j) 2 ≡ false → hit_shown old new (stem_hit x c j) ≡ hit_shown old new (hit_at j None (caught_at x c (best_in_old x j) (best_in_new x j)))
  unfolding stem_hit
  sort_one j = go (eqb (sort_at x j) 0) (eqb (sort_at x j) 2) (caught_at x c (best_in_old x j) (best_in_new x j))
    where
      go : (a b : Bool) (y : Maybe Catch) → a ≡ false → b ≡ false
          → hit_shown old new (cond a None (elim y [ None ↦ cond b (behind x c j) None | Some y ↦ some_hit j None y ])) ≡ hit_shown old new (hit_at j None y)
      go true b y e n = absurd (never true refl e)
      go false true y e n = absurd (never true refl n)
      go false false None e n = refl
      go false false (Some one) e n = refl

  -- a path, then the extensions behind it
  sort_two : (j : ℕ) → eqb (sort_at x j) 0 ≡ false → eqb (sort_at x j) 2 ≡ true
      → hit_shown old new (stem_hit x c j) ≡ or_else (hit_shown old new (hit_at j None (caught_at x c (best_in_old x j) (best_in_new x j)))) (hit_shown old new (behind x c j))
  unfolding stem_hit
  sort_two j = go (eqb (sort_at x j) 0) (eqb (sort_at x j) 2) (caught_at x c (best_in_old x j) (best_in_new x j))
    where
      go : (a b : Bool) (y : Maybe Catch) → a ≡ false → b ≡ true
          → hit_shown old new (cond a None (elim y [ None ↦ cond b (behind x c j) None | Some y ↦ some_hit j None y ]))
          ≡ or_else (hit_shown old new (hit_at j None y)) (hit_shown old new (behind x c j))
      go true b y e n = absurd (never true refl e)
      go false true None e n = refl
      go false true (Some one) e n = refl
      go false false y e n = absurd (never false n refl)

-- ---- the numbers of two views
-- all lines
pub all_lines : (old new : View) (x : List ℕ) (c : Counts) → Numbered old new x c → c.old + c.new ≡ length (texts_of old new)
all_lines old new x c Z = omega (arith, Z.olds, Z.news, length-append (texts new) (texts old))

-- ---- of two listings' views
module _ (old new : Listing) (O : Proper old) (N : Proper new) (x : List ℕ) (c : Counts) (Z : Numbered (view_of old) (view_of new) x c) where
  -- the listings' views
  abbrev ov : View
  ov = view_of old

  abbrev nv : View
  nv = view_of new

  abbrev ts : List Text
  ts = texts_of ov nv

  abbrev filler : Text
  filler = fillerIn ts

  abbrev es : List Text
  es = extensions ts

  -- which have the listings' texts
  texts_listed : ts ≡ patterns_of new ++ patterns_of old
  texts_listed = ap₂ (λ (us vs : List Text). us ++ vs) (texts_of_lem new) (texts_of_lem old)

  fills : Filler filler ts
  unfolding filler_of
  fills = subst (λ (us : List Text). Filler (fillerIn us) us) (sym texts_listed) (filler_of_fills old new O N)

  fills_new : Filler filler (texts nv)
  fills_new = record { no_slash = fills.no_slash; no_dot = fills.no_dot; fresh = λ t m. fills.fresh t (Memᴰ.append_left (texts ov) m) }

  fills_old : Filler filler (texts ov)
  fills_old = record { no_slash = fills.no_slash; no_dot = fills.no_dot; fresh = λ t m. fills.fresh t (Memᴰ.append_right (texts nv) m) }

  ready : Ready ov nv (old_side x) (new_side x) (pairs_in x) c.methods
  ready = record { old_side_lem = Z.old_side_lem; new_side_lem = Z.new_side_lem; methods = Z.methods }

  permitted : (j : ℕ) → j < length ts → is_permitted (kind_of (get_or ts j [])) ≡ true
  permitted j h =
      pattern_permitted (get_or ts j [])
      (⊎_elim (N.good_patterns (get_or ts j [])) (O.good_patterns (get_or ts j []))
      (Memᴰ.append_cases (patterns_of new) (subst (Memᴰ (get_or ts j [])) texts_listed (at_listed ts j h))))

  -- the kind of a stem
  kind_here : (j : ℕ) → j < length ts → kind_at ts j ≡ kind_of (get_or ts j [])
  kind_here j h = rw (lt-ltb j (length ts) h)

  kind_last : kind_at ts (length ts) ≡ default
  kind_last = rw (le-ltb (length ts) (length ts) (omega arith))

  -- its sort
  sort_again : (j : ℕ) → j < length ts → member (get_or ts j []) (take j ts) ≡ true → sort_at x j ≡ 0
  unfolding sorted
  sort_again j h m = Z.sorts j h ∙ rw m

  sort_here : (j : ℕ) → j < length ts → member (get_or ts j []) (take j ts) ≡ false → sort_at x j ≡ sort_of (kind_of (get_or ts j []))
  unfolding sorted
  sort_here j h m = Z.sorts j h ∙ rw m

  -- ---- one path
  hit_shown_lem : (j : ℕ) (e : Maybe ℕ) (path : Text) → hit_path filler ts j e ≡ path → (y : Maybe Catch) → hit_shown ov nv (hit_at ov nv x c j e y) ≡ caught_on old new path y
  unfolding view_of trial_methods
  hit_shown_lem j e path q None = refl
  hit_shown_lem j e path q (Some one) = ap (λ (v : Text). some (request v (get_or (methods_tried old.methods new.methods) one.method []) (caller_at new.roles one.caller))) q

  caught_shown : (path : Text) (u v : ℕ) → u ≡ best_number (leading (texts ov) path) → v ≡ best_number (leading (texts nv) path) → caught_on old new path (caught_at x c u v) ≡ shown_on old new path
  unfolding caught_at best_in
  caught_shown path u v p q =
      ap (caught_on old new path) (ap₂ (λ (o n : ℕ). caught_in (old_side x) o (new_side x) n (pairs_in x) c.methods (line_in u) (line_in v)) (Z.olds ∙ ap length (texts_of_lem old)) (Z.news ∙ ap length (texts_of_lem new)))
      ∙ caught_at_lem old new O N (old_side x) (new_side x) (pairs_in x) c.methods ready path (line_in u) (line_in v)
      (ap line_in p ∙ line_of_best (leading (texts ov) path) ∙ ap (λ (us : List Text). line_number (leading us path)) (texts_of_lem old))
      (ap line_in q ∙ line_of_best (leading (texts nv) path) ∙ ap (λ (us : List Text). line_number (leading us path)) (texts_of_lem new))

  -- that of stem j, of kind k
  stem_caught : (j : ℕ) (k : PatternKind) → kind_at ts j ≡ k → StemIn ov nv x j k
      → stem_best (texts ov) k ≡ best_number (leading (texts ov) (stem_path filler k)) → stem_best (texts nv) k ≡ best_number (leading (texts nv) (stem_path filler k))
      → hit_shown ov nv (hit_at ov nv x c j None (caught_at x c (best_in_old x j) (best_in_new x j))) ≡ shown_on old new (stem_path filler k)
  stem_caught j k e S p q =
      hit_shown_lem j None (stem_path filler k) (append-nil (stem_path filler (kind_at ts j)) ∙ ap (stem_path filler) e) (caught_at x c (best_in_old x j) (best_in_new x j))
      ∙ caught_shown (stem_path filler k) (best_in_old x j) (best_in_new x j) (S.in_old_lem ∙ p) (S.in_new_lem ∙ q)

  -- ---- the extensions behind a prefix
  module _ (j : ℕ) (p : Text) (kind : kind_at ts j ≡ prefix p) (root : is_under [] p ≡ true) (S : StemIn ov nv x j (prefix p)) where
    -- the request to show with the extension of a line behind it
    abbrev extended : Text → Option Request
    extended t = first_some (λ (e : Text). shown_on old new (dotted p filler e)) (extension_in (kind_of t))

    behind_path_lem : (i : ℕ) (e : Text) → kind_at ts i ≡ extension e → hit_path filler ts j (Some i) ≡ dotted p filler e
    behind_path_lem i e k = rw (k, kind) (append_assoc p (slash ∷ filler) (dot ∷ e))

    behind_caught : (i : ℕ) (e : Text) → i < length ts → kind_of (get_or ts i []) ≡ extension e → StemIn ov nv x i (extension e)
        → hit_shown ov nv (hit_at ov nv x c j (Some i) (caught_behind x c j i)) ≡ shown_on old new (dotted p filler e)
    behind_caught i e h k T =
        let plain = extension_plain (get_or ts i []) e k in
        hit_shown_lem j (Some i) (dotted p filler e) (behind_path_lem i e (kind_here i h ∙ k)) (caught_behind x c j i)
        ∙ caught_shown (dotted p filler e) (staying (best_in_old x j) (best_in_old x i)) (staying (best_in_new x j) (best_in_new x i))
        (ap₂ staying S.in_old_lem T.in_old_lem ∙ behind_best filler (texts ov) fills_old p e root plain.0 plain.1)
        (ap₂ staying S.in_new_lem T.in_new_lem ∙ behind_best filler (texts nv) fills_new p e root plain.0 plain.1)

    no_extension : (i : ℕ) → eqb (sort_at x i) 3 ≡ false → hit_shown ov nv (behind_hit ov nv x c j i) ≡ none
    no_extension i e = rw e

    an_extension : (i : ℕ) → sort_at x i ≡ 3 → hit_shown ov nv (behind_hit ov nv x c j i) ≡ hit_shown ov nv (hit_at ov nv x c j (Some i) (caught_behind x c j i))
    an_extension i e = rw e

    one_behind : (i : ℕ) → i < length ts → hit_shown ov nv (behind_hit ov nv x c j i) ≡ anew extended ts i
    one_behind i h = go (member (get_or ts i []) (take i ts)) refl
      where
        other : (s : ℕ) → eqb s 3 ≡ false → sort_at x i ≡ s → hit_shown ov nv (behind_hit ov nv x c j i) ≡ none
        other s n e = no_extension i (ap (λ (v : ℕ). eqb v 3) e ∙ n)

        kinds : (k : PatternKind) → kind_of (get_or ts i []) ≡ k → sort_at x i ≡ sort_of k → StemIn ov nv x i k
            → hit_shown ov nv (behind_hit ov nv x c j i) ≡ first_some (λ (e : Text). shown_on old new (dotted p filler e)) (extension_in k)
        kinds (exact q) k s T = other 1 refl s ∙ sym (some_none (λ (e : Text). shown_on old new (dotted p filler e)))
        kinds (prefix q) k s T = other 2 refl s ∙ sym (some_none (λ (e : Text). shown_on old new (dotted p filler e)))
        kinds (extension e) k s T = an_extension i s ∙ behind_caught i e h k T ∙ sym (some_one (λ (e : Text). shown_on old new (dotted p filler e)) e)
        kinds default k s T = other 1 refl s ∙ sym (some_none (λ (e : Text). shown_on old new (dotted p filler e)))
        kinds unpermitted k s T = other 1 refl s ∙ sym (some_none (λ (e : Text). shown_on old new (dotted p filler e)))

        go : (b : Bool) → member (get_or ts i []) (take i ts) ≡ b → hit_shown ov nv (behind_hit ov nv x c j i) ≡ anew extended ts i
        go true m = other 0 refl (sort_again i h m) ∙ sym (anew_again extended ts i m)
        go false m = kinds (kind_of (get_or ts i [])) refl (sort_here i h m) (Z.stems i h m) ∙ sym (anew_here extended ts i m)

    behind_shown : hit_shown ov nv (behind x c j) ≡ first_some (λ (e : Text). shown_on old new (dotted p filler e)) es
    behind_shown =
        behind_from_lem ov nv x c j (c.old + c.new) 0
        ∙ ap (λ (k : ℕ). first_from (λ (n : ℕ). hit_shown ov nv (behind_hit ov nv x c j n)) k 0) (all_lines ov nv x c Z)
        ∙ from_alike (λ (n : ℕ). hit_shown ov nv (behind_hit ov nv x c j n)) (anew extended ts) (length ts) 0 (λ i l. one_behind i (omega arith))
        ∙ anew_first extended ts
        ∙ sym (extensions_by_lines (λ (e : Text). shown_on old new (dotted p filler e)) ts)

  -- ---- the stems
  -- the request to show for the trial paths of a line
  abbrev line_shown : Text → Option Request
  line_shown t = first_some (shown_on old new) (paths_of_kind filler es (kind_of t))

  stem_shown : (j : ℕ) → j < length ts → hit_shown ov nv (stem_hit x c j) ≡ anew line_shown ts j
  stem_shown j h = go (member (get_or ts j []) (take j ts)) refl
    where
      kinds : (k : PatternKind) → kind_of (get_or ts j []) ≡ k → sort_at x j ≡ sort_of k → StemIn ov nv x j k
          → stem_best (texts ov) k ≡ best_number (leading (texts ov) (stem_path filler k)) → stem_best (texts nv) k ≡ best_number (leading (texts nv) (stem_path filler k))
          → is_permitted k ≡ true → hit_shown ov nv (stem_hit x c j) ≡ first_some (shown_on old new) (paths_of_kind filler es k)
      kinds (exact q) k s S a b l =
          sort_one ov nv x c j (ap (λ (v : ℕ). eqb v 0) s) (ap (λ (v : ℕ). eqb v 2) s) ∙ stem_caught j (exact q) (kind_here j h ∙ k) S a b ∙ sym (some_one (shown_on old new) q)
      kinds (prefix p) k s S a b l =
          sort_two ov nv x c j (ap (λ (v : ℕ). eqb v 0) s) (ap (λ (v : ℕ). eqb v 2) s)
          ∙ ap₂ or_else (stem_caught j (prefix p) (kind_here j h ∙ k) S a b) (behind_shown j p (kind_here j h ∙ k) (prefix_rooted (get_or ts j []) p k) S)
          ∙ sym (paths_below (shown_on old new) filler p es)
      kinds (extension e) k s S a b l =
          sort_one ov nv x c j (ap (λ (v : ℕ). eqb v 0) s) (ap (λ (v : ℕ). eqb v 2) s) ∙ stem_caught j (extension e) (kind_here j h ∙ k) S a b
          ∙ sym (some_one (shown_on old new) (dotted [] filler e))
      kinds default k s S a b l =
          sort_one ov nv x c j (ap (λ (v : ℕ). eqb v 0) s) (ap (λ (v : ℕ). eqb v 2) s) ∙ stem_caught j default (kind_here j h ∙ k) S a b
          ∙ sym (some_one (shown_on old new) (below [] filler))
      kinds unpermitted k s S a b l = absurd (never false l refl)

      go : (b : Bool) → member (get_or ts j []) (take j ts) ≡ b → hit_shown ov nv (stem_hit x c j) ≡ anew line_shown ts j
      go true m = sort_none ov nv x c j (sort_again j h m) ∙ sym (anew_again line_shown ts j m)
      go false m =
          kinds (kind_of (get_or ts j [])) refl (sort_here j h m) (Z.stems j h m) (stem_best_lem filler (texts ov) fills_old (get_or ts j []) (permitted j h))
          (stem_best_lem filler (texts nv) fills_new (get_or ts j []) (permitted j h)) (permitted j h)
          ∙ sym (anew_here line_shown ts j m)

  last_shown : hit_shown ov nv (stem_hit x c (length ts)) ≡ shown_on old new (below [] filler)
  last_shown =
      sort_one ov nv x c (length ts) (ap (λ (v : ℕ). eqb v 0) Z.last_sort) (ap (λ (v : ℕ). eqb v 2) Z.last_sort)
      ∙ stem_caught (length ts) default kind_last Z.last_stem_lem (last_best filler (texts ov) fills_old) (last_best filler (texts nv) fills_new)

  -- ---- all trial paths
  paths_listed : trial_paths old new ≡ paths_for filler ts
  unfolding trial_paths filler_of
  paths_listed = ap (λ (us : List Text). paths_for (fillerIn us) us) (sym texts_listed)

  verdict_by_lines : verdict old new ≡ or_else (first_some line_shown ts) (shown_on old new (below [] filler))
  unfolding shown shown_on paths_for
  verdict_by_lines = verdict_shown old new O N ∙ ap (first_some (shown_on old new)) paths_listed ∙ paths_by_lines (shown_on old new) filler es ts

  -- the walk over the numbers finds the verdict
  pub walked_verdict : hit_shown ov nv (walked x c) ≡ verdict old new
  unfolding walked
  walked_verdict =
      let all : c.old + c.new + 1 ≡ suc (length ts) = omega (arith, all_lines ov nv x c Z) in
      let last : 0 + length ts ≡ length ts = omega arith in
      ap (λ (k : ℕ). hit_shown ov nv (walk_from x c k 0)) all
      ∙ walk_from_lem ov nv x c (suc (length ts)) 0
      ∙ from_last (λ (n : ℕ). hit_shown ov nv (stem_hit x c n)) (length ts) 0
      ∙ ap₂ or_else
      (from_alike (λ (n : ℕ). hit_shown ov nv (stem_hit x c n)) (anew line_shown ts) (length ts) 0 (λ i l. stem_shown i (omega arith)) ∙ anew_first line_shown ts)
      (ap (λ (n : ℕ). hit_shown ov nv (stem_hit x c n)) last ∙ last_shown)
      ∙ sym verdict_by_lines
