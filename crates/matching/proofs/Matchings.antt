-- The laws of the code that matches a pattern text with a path and chooses the strongest: in the shape of its loops and of its ladders of tests.
use mathlib.Core.Path.{◌≡◌, refl, sym, ap, ◌∙◌}
use mathlib.Core.Bool.{Bool, true, false, cond, ◌&&◌, ◌||◌, and-true}
use mathlib.Core.List.{List, [], ◌∷◌, ◌++◌}
use Prim.Native.Nat.{ℕ, ◌+◌, ◌-◌, ◌≤◌, ◌<◌}
use lib.ListN.{length, take, drop, get_or}
use lib.Seq.{take_all}
use lib.Dec.{eqb, eqb-suc-zero}
use Rattle.std.specs.Cmp.Lexicographic.{pointwise}
use Rattle.text.specs.Texts.{Text, bytes, slash, dot, same, has, starts_with, ends_with, part, run}
use Rattle.names.specs.Patterns.{PatternKind, exact, prefix, extension, default, unpermitted, is_extension, kind_of}
use Rattle.text.proofs.Truths.{eqb_swap}
use Rattle.text.proofs.Spans.{from_on, stripped, stripped_end}
use Rattle.decisions.specs.Matching.{after_last, last_segment, has_extension, is_under, kind_matches}
use Rattle.matching.specs.Strengths.{has_dot, offset_of, Ends, kind_strength, strength, rooted_strength, starred_strength, start_leading, lead, leading}
use Rattle.matching.specs.declared.Leading.{Leading}
use Rattle.matching.specs.declared.Ending.{Ending}
use Rattle.matching.specs.declared.Ending.TheVariants.{Extension, Segment}
use Rattle.text.proofs.Indices.{run_step}

-- ---- P or below P
-- the path ends behind P, or goes on with `/`
abbrev ends_or_goes_on : Text → Bool
ends_or_goes_on rest = same rest [] || eqb (get_or rest 0 0) slash

under_cut : (p path : Text) → is_under p path ≡ starts_with p path && ends_or_goes_on (drop (length p) path)
unfolding is_under starts_with same
under_cut [] [] = refl
under_cut [] (y ∷ ys) = and-true (eqb slash y) ∙ eqb_swap slash y
under_cut (x ∷ xs) [] = refl
under_cut (x ∷ xs) (y ∷ ys) = go (eqb x y) (under_cut xs ys)
  where
    go : (b : Bool) → same xs ys || starts_with (xs ++ slash ∷ []) ys ≡ starts_with xs ys && ends_or_goes_on (drop (length xs) ys)
        → (b && same xs ys) || (b && starts_with (xs ++ slash ∷ []) ys) ≡ (b && starts_with xs ys) && ends_or_goes_on (drop (length xs) ys)
    go true e = e
    go false e = refl

-- P is not stripped off: the path is not under it
pub under_not : (p path : Text) → pointwise eqb (take (length p) path) p ≡ false → false ≡ is_under p path
under_not p path e = sym (under_cut p path ∙ ap (λ (b : Bool). b && ends_or_goes_on (drop (length p) path)) (sym (stripped p path) ∙ e))

-- it is: what is left tells
pub under_rest : (p path rest : Text) (z : Bool) → pointwise eqb (take (length p) path) p ≡ true → rest ≡ drop (length p) path
    → z ≡ same rest [] || eqb (get_or rest 0 0) slash → z ≡ is_under p path
under_rest p path rest z e d q =
    q ∙ ap ends_or_goes_on d ∙ sym (under_cut p path ∙ ap (λ (b : Bool). b && ends_or_goes_on (drop (length p) path)) (sym (stripped p path) ∙ e))

-- ---- the strength
-- of a text that ends with `/*`, by what stands before that
pub rooted_ended : (t path stem : Text) (z : ℕ) → pointwise eqb (drop (length t - 2) t) (bytes "/*") ≡ true → stem ≡ take (length t - 2) t
    → z ≡ cond (is_under stem path) (3 + length stem) 0 → z ≡ rooted_strength t path
unfolding rooted_strength
rooted_ended t path stem z e d q =
    q ∙ ap (λ (u : Text). cond (is_under u path) (3 + length u) 0) d ∙ rw (sym (stripped_end (bytes "/*") t) ∙ e)

-- of any other
pub rooted_other : (t path : Text) (z : ℕ) → pointwise eqb (drop (length t - 2) t) (bytes "/*") ≡ false → z ≡ cond (same t path) 1000 0 → z ≡ rooted_strength t path
unfolding rooted_strength
rooted_other t path z e q = q ∙ rw (sym (stripped_end (bytes "/*") t) ∙ e)

-- a text of no bytes is the empty one
empty_length : (t : Text) → same t [] ≡ eqb (length t) 0
unfolding same
empty_length [] = refl
empty_length (x ∷ xs) = sym (eqb-suc-zero (length xs))

-- the last segment has no `.`
pub starred_plain : (t path : Text) → has dot (last_segment path) ≡ false → 0 ≡ starred_strength t path
unfolding starred_strength has_extension
starred_plain t path e =
    rw e (sym (none_either (starred t)))
  where
    starred : Text → Bool
    starred t = starts_with (bytes "*.") t && is_extension (drop 2 t)

    none_either : (b : Bool) → ◌≡◌ {A = ℕ} (cond b 0 0) 0
    none_either true = refl
    none_either false = refl

-- as the path's ending tells
pub starred_segment : (t path : Text) (x : Ending) (at : ℕ) → Ends path x → x ≡ Segment at → 0 ≡ starred_strength t path
starred_segment t path x at v e = starred_plain t path (sym v.dotted ∙ ap has_dot e)

-- the text does not start with `*.`
pub starred_other : (t path : Text) → pointwise eqb (take 2 t) (bytes "*.") ≡ false → 0 ≡ starred_strength t path
unfolding starred_strength
starred_other t path e = rw (sym (stripped (bytes "*.") t) ∙ e)

-- test by test, in the code's order: first whether what follows the path's last `.` is what follows `*.`, then whether that is an extension
pub starred_is : (t path e : Text) (x : Ending) (at z : ℕ) → Ends path x → x ≡ Extension at → pointwise eqb (take 2 t) (bytes "*.") ≡ true → e ≡ drop 2 t
    → z ≡ cond (same (part at (length path) path) e) (cond (is_extension e) 2 0) 0
    → z ≡ starred_strength t path
unfolding starred_strength has_extension
starred_is t path e x at z v s b d q =
    q
    ∙ rw (d, from_on at path, sym (ap (λ (y : Ending). drop (offset_of y) path) s) ∙ v.behind, sym v.dotted ∙ ap has_dot s, sym (stripped (bytes "*.") t) ∙ b)
    (go (same (after_last dot (last_segment path)) (drop 2 t)) (is_extension (drop 2 t)))
  where
    go : (c d : Bool) → ◌≡◌ {A = ℕ} (cond c (cond d 2 0) 0) (cond d (cond c 2 0) 0)
    go true d = refl
    go false true = refl
    go false false = refl

-- and of any text
pub strength_is : (t path : Text) (z : ℕ) → z
    ≡ cond (eqb (length t) 0) (cond (same (bytes "/") path) 1000 0)
    (cond (same t (bytes "/")) 1
    (cond (starts_with (bytes "/") t) (rooted_strength t path)
    (starred_strength t path)))
    → z ≡ strength t path
unfolding strength rooted_strength starred_strength kind_of kind_matches
strength_is t path z e =
    e
    ∙ rw (← empty_length t)
    (go (same t []) (same t (bytes "/")) (starts_with (bytes "/") t) (ends_with (bytes "/*") t) (starts_with (bytes "*.") t && is_extension (drop 2 t)))
  where
    kind : (a b c d e : Bool) → PatternKind
    kind a b c d e =
        cond a (exact (bytes "/"))
        (cond b default
        (cond c (cond d (prefix (take (length t - 2) t)) (exact t))
        (cond e (extension (drop 2 t)) unpermitted)))

    go : (a b c d e : Bool)
        → cond a (cond (same (bytes "/") path) 1000 0)
        (cond b 1
        (cond c
        (cond d (cond (is_under (take (length t - 2) t) path) (3 + length (take (length t - 2) t)) 0) (cond (same t path) 1000 0))
        (cond e (cond (has_extension (drop 2 t) path) 2 0) 0)))
        ≡ cond (kind_matches (kind a b c d e) path) (kind_strength (kind a b c d e)) 0
    go true b c d e = refl
    go false true c d e = refl
    go false false true true e = refl
    go false false true false e = refl
    go false false false d true = refl
    go false false false d false = refl

-- ---- the loop: the choice among the first k texts
-- none of them
pub lead_none : (ts : List Text) (path : Text) → start_leading ≡ leading (take 0 ts) path
unfolding leading run
lead_none ts path = refl

module _ (ts : List Text) (path : Text) (x : Leading) (k : ℕ) (v : x ≡ leading (take k ts) path) where
  -- one text more
  pub lead_step : (n : ℕ) (t : Text) (y : Leading) → n ≡ length ts → k < n → t ≡ get_or ts k [] → y ≡ lead path x t → y ≡ leading (take (k + 1) ts) path
  unfolding leading
  lead_step n t y e h q r = r ∙ rw (v, q) (sym (run_step (lead path) start_leading ts k [] (rw e at h)))

  -- all of them
  pub lead_all : (n : ℕ) → n ≡ length ts → n ≤ k → x ≡ leading ts path
  lead_all n e h = v ∙ ap (λ (us : List Text). leading us path) (take_all k ts (rw e at h))

-- it counts the texts
pub lead_count : (path : Text) (x : Leading) (t : Text) (y : Leading) (k : ℕ) → x.seen ≡ k → y ≡ lead path x t → y.seen ≡ k + 1
unfolding lead
lead_count path x t y k e r = ap (λ (z : Leading). z.seen) r ∙ rw e
