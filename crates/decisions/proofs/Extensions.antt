-- An extension in plain words.
use mathlib.Core.Path.{◌≡◌, refl, sym, ap, ap₂, ◌∙◌}
use mathlib.Core.Bool.{Bool, true, false, cond, ◌||◌, or-false}
use mathlib.Core.List.{[], ◌∷◌, ◌++◌}
use mathlib.Core.Logic.{◌↔◌}
use Prim.Native.Nat.{ℕ}
use lib.Dec.{eqb}
use borrow.Author.Tests.{eqb-true}
use Rattle.text.specs.Texts.{Text, bytes, slash, dot, same, has, starts_with}
use Rattle.names.specs.Patterns.{extension}
use Rattle.text.proofs.Truths.{never, and_left, and_right, and_both}
use Rattle.text.proofs.Spans.{same_equal, same_self}
use Rattle.names.proofs.Plainly.{starts_plain}
use Rattle.decisions.specs.Matching.{after_last_or, after_last, last_segment, has_extension, kind_matches, Extended}
use Rattle.decisions.proofs.Lasts.{last_none, last_behind, has_middle}

-- a text with a byte is cut at its last one
last_cut : (b : ℕ) (keep t : Text) → has b t ≡ true → (u : Text) × (t ≡ u ++ b ∷ after_last_or b keep t) × (has b (after_last_or b keep t) ≡ false)
unfolding has after_last_or
last_cut b keep [] h = absurd (never false h refl)
last_cut b keep (x ∷ xs) h = go (has b xs) refl h (last_cut b (cond (eqb b x) xs keep) xs)
  where
    after : Text
    after = after_last_or b (cond (eqb b x) xs keep) xs

    go : (c : Bool) → has b xs ≡ c → eqb b x || c ≡ true → (has b xs ≡ true → (u : Text) × (xs ≡ u ++ b ∷ after) × (has b after ≡ false))
        → (u : Text) × (x ∷ xs ≡ u ++ b ∷ after) × (has b after ≡ false)
    go true e i ih = let r = ih e in (x ∷ r.0, ap (λ (t : Text). x ∷ t) r.1, r.2)
    go false e i ih =
        let q : eqb b x ≡ true = sym (or-false (eqb b x)) ∙ i in
        let rest : after ≡ xs = last_none b (cond (eqb b x) xs keep) xs e ∙ ap (λ (c : Bool). cond c xs keep) q in
        ([], ap₂ ◌∷◌ (sym (eqb-true b x q)) (sym rest), ap (has b) rest ∙ e)

-- a path starts with `/`, so it has one
rooted_has : (path : Text) → starts_with (bytes "/") path ≡ true → has slash path ≡ true
rooted_has path h = let r = (starts_plain (bytes "/") path).0 h in rw r.1 (has_middle slash [] r.0)

module _ (e path : Text) where
  extended_of : starts_with (bytes "/") path ≡ true → has_extension e path ≡ true → Extended e path
  unfolding has_extension
  extended_of s h =
      let a = last_cut slash path path (rooted_has path s) in
      let b = last_cut dot (last_segment path) (last_segment path) (and_left (has dot (last_segment path)) _ h) in
      let f : after_last dot (last_segment path) ≡ e = same_equal _ e (and_right (has dot (last_segment path)) _ h) in
      let g : last_segment path ≡ b.0 ++ dot ∷ e = b.1 ∙ ap (λ (t : Text). b.0 ++ dot ∷ t) f in
      record {
        front = a.0;
        name = b.0;
        whole = a.1 ∙ ap (λ (t : Text). a.0 ++ slash ∷ t) g;
        segment = sym (ap (has slash) g) ∙ a.2;
        last = sym (ap (has dot) f) ∙ b.2;
      }

  of_extended : Extended e path → has_extension e path ≡ true
  unfolding has_extension
  of_extended x =
      let s : Text = x.name ++ dot ∷ e in
      let g : last_segment path ≡ s = ap (λ (t : Text). last_segment t) x.whole ∙ last_behind slash _ x.front s x.segment in
      let f : after_last dot (last_segment path) ≡ e = ap (after_last dot) g ∙ last_behind dot s x.name e x.last in
      and_both (has dot (last_segment path)) _ (ap (has dot) g ∙ has_middle dot x.name e) (ap (λ (t : Text). same t e) f ∙ same_self e)

  -- the pattern `*.`E matches a path exactly where the path is so
  pub extension_plain : starts_with (bytes "/") path ≡ true → (kind_matches (extension e) path ≡ true) ↔ Extended e path
  unfolding kind_matches
  extension_plain s = (extended_of s, of_extended)
