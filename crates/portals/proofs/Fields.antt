-- The fields of the records that pass a test.
use mathlib.Core.Path.{◌≡◌, refl, sym, ap, ◌∙◌}
use mathlib.Core.Bool.{Bool, true, false, cond, ◌||◌, or-true}
use mathlib.Core.List.{List, [], ◌∷◌, ◌++◌}
use Rattle.text.specs.Texts.{Text, same, member}
use Rattle.text.proofs.Truths.{never}
use Rattle.text.proofs.Spans.{same_equal, same_self}
use Rattle.listings.specs.Records.{Record, fields_where}
use Rattle.listings.specs.declared.records.Kind.{Kind}
use Rattle.portals.specs.Records.{record_of}
use Rattle.portals.proofs.Eaches.{Each, each_more}
use Rattle.portals.proofs.Distincts.{Among}
use Rattle.portals.proofs.Shapes.{of_kind}

module _ (test : Record → Bool) where
  pub fields_append : (xs ys : List Record) → fields_where test (xs ++ ys) ≡ fields_where test xs ++ fields_where test ys
  unfolding fields_where
  fields_append [] ys = refl
  fields_append (x ∷ xs) ys = go (test x) (fields_append xs ys)
    where
      go : (b : Bool) → fields_where test (xs ++ ys) ≡ fields_where test xs ++ fields_where test ys
          → cond b (x.field ∷ fields_where test (xs ++ ys)) (fields_where test (xs ++ ys)) ≡ cond b (x.field ∷ fields_where test xs) (fields_where test xs) ++ fields_where test ys
      go true h = ap (λ (z : List Text). x.field ∷ z) h
      go false h = h

  -- where none passes
  pub fields_none : (xs : List Record) → Each (λ (r : Record). test r ≡ false) xs → fields_where test xs ≡ []
  unfolding fields_where
  fields_none [] h = refl
  fields_none (x ∷ xs) h = rw h.0 (fields_none xs h.1)

  -- where those of a kind pass
  pub fields_of_kind : (k : Kind) → ((t : Text) → test (record_of k t) ≡ true) → (ts : List Text) → fields_where test (of_kind k ts) ≡ ts
  unfolding fields_where
  fields_of_kind k h [] = refl
  fields_of_kind k h (t ∷ ts) = rw (h t) (ap (λ (z : List Text). t ∷ z) (fields_of_kind k h ts))

-- ---- which texts they are
module _ (test : Record → Bool) where
  -- among texts that have the field of each record that passes
  pub fields_among : (us : List Text) (xs : List Record) → Each (λ (r : Record). test r ≡ true → member r.field us ≡ true) xs → Among (fields_where test xs) us
  unfolding fields_where member
  fields_among us [] h t e = absurd (never false e refl)
  fields_among us (x ∷ xs) h t e = go (test x) refl e (fields_among us xs h.1 t)
    where
      first : (b : Bool) → test x ≡ true → same x.field t ≡ b → b || member t (fields_where test xs) ≡ true → (member t (fields_where test xs) ≡ true → member t us ≡ true) → member t us ≡ true
      first true f d g ih = ap (λ (y : Text). member y us) (sym (same_equal x.field t d)) ∙ h.0 f
      first false f d g ih = ih g

      go : (b : Bool) → test x ≡ b → member t (cond b (x.field ∷ fields_where test xs) (fields_where test xs)) ≡ true
          → (member t (fields_where test xs) ≡ true → member t us ≡ true) → member t us ≡ true
      go true f g ih = first (same x.field t) f refl g ih
      go false f g ih = ih g

  -- as they are themselves
  pub fields_own : (xs : List Record) → Each (λ (r : Record). test r ≡ true → member r.field (fields_where test xs) ≡ true) xs
  unfolding fields_where member
  fields_own [] = tt
  fields_own (x ∷ xs) = (λ f. rw (f, same_self x.field), each_more _ _ (λ r h f. later r.field (test x) (h f)) xs (fields_own xs))
    where
      later : (t : Text) (b : Bool) → member t (fields_where test xs) ≡ true → member t (cond b (x.field ∷ fields_where test xs) (fields_where test xs)) ≡ true
      later t true e = rw e (or-true (same x.field t))
      later t false e = e
