-- What the records of a file are like: each fits 01's rules by itself, the declared names differ, and there are not too many.
use mathlib.Core.Path.{◌≡◌, refl, sym, subst}
use mathlib.Core.Bool.{Bool, true, false, not, cond, ◌&&◌}
use mathlib.Core.List.{List, [], ◌∷◌, ◌++◌, append-nil}
use mathlib.Core.Option.{Option, none, some, some-ne-none}
use Rattle.text.specs.Texts.{Text, bytes, same, member, run, distinct}
use Rattle.text.proofs.Truths.{never}
use Rattle.names.specs.Names.{is_constraint_kind}
use Rattle.documents.specs.Parts.{Fault, bad_name, bad_pattern, role_twice, past_most}
use Rattle.documents.specs.Grammar.{Content}
use Rattle.listings.specs.Records.{Record, is_kind, fields_where, declared_in, roles_in, methods_in}
use Rattle.listings.specs.Fields.{name_fits, pattern_fits}
use Rattle.listings.specs.Counts.{count, too_many}
use Rattle.listings.specs.Refusals.{declares_again}
use Rattle.listings.specs.declared.records.Kind.{Kind}
use Rattle.listings.specs.declared.records.Kind.TheVariants.{Role, Constraint, Allow, Collection, Pattern, Method, Omit, End}
use Rattle.portals.specs.Elements.{Sort, sort_of, Phase, Effect, holds, says}
use Rattle.portals.specs.Records.{record_of, first_fault, guarded, added, effected}
use Rattle.portals.specs.Means.{text_of, Gives, over, passing, remarking, holding, saying}
use Rattle.portals.proofs.Openings.{Opens, unknown, within, role, constraint, role_named, collection_first, collection_more, auth, pattern_first, pattern_more, method_first, method_more, omission_first, omission_more, allowed, opens}
use Rattle.portals.proofs.Eaches.{Each, each_append}
use Rattle.portals.proofs.Distincts.{Apart, apart_more}
use Rattle.portals.proofs.Fields.{fields_append}
use Rattle.portals.proofs.Fewer.{fewer_few, each_guarded, guarded_fields, guarded_fewer}

-- a record that fits by itself, has no field behind `collection`, and is no `end`
pub record Fits (r : Record) : Type 0 where
  pub name : name_fits r ≡ true
  pub pattern : pattern_fits r ≡ true
  pub bare : is_kind Collection r ≡ true → r.field ≡ []
  pub unended : is_kind End r ≡ false

pub record Good (rs : List Record) : Type 0 where
  pub fits : Each Fits rs
  pub apart : Apart (declared_in rs)
  pub few : too_many rs ≡ false

pub good_none : Good []
unfolding too_many count roles_in methods_in declared_in fields_where distinct run
good_none = record { fits = tt; apart = tt; few = refl }

-- ---- one more record
-- the ladder of the rules in their order
abbrev fault_by : Bool → Bool → Bool → Bool → Option Fault
fault_by name pattern again past =
    cond (not name) (some bad_name)
    (cond (not pattern) (some bad_pattern)
    (cond again (some role_twice)
    (cond past (some past_most)
    none)))

faultless : (a b c d : Bool) → fault_by a b c d ≡ none → (a ≡ true) × (b ≡ true) × (c ≡ false) × (d ≡ false)
faultless false b c d h = absurd (some-ne-none bad_name h)
faultless true false c d h = absurd (some-ne-none bad_pattern h)
faultless true true true d h = absurd (some-ne-none role_twice h)
faultless true true false true h = absurd (some-ne-none past_most h)
faultless true true false false h = (refl, refl, refl, refl)

declared_more : (rs : List Record) (r : Record) → Apart (declared_in rs) → declares_again rs r ≡ false → Apart (declared_in (rs ++ r ∷ []))
unfolding declared_in declares_again fields_where
declared_more rs r a h = rw (fields_append (is_kind Role) rs (r ∷ [])) (go (is_kind Role r) h)
  where
    go : (b : Bool) → b && member r.field (fields_where (is_kind Role) rs) ≡ false → Apart (fields_where (is_kind Role) rs ++ cond b (r.field ∷ []) [])
    go true e = apart_more (fields_where (is_kind Role) rs) r.field a e
    go false e = rw (append-nil (fields_where (is_kind Role) rs)) a

module _ (rs rs₁ : List Record) (r : Record) (bare : is_kind Collection r ≡ true → r.field ≡ []) (unended : is_kind End r ≡ false) where
  pub good_added : added rs r ≡ some rs₁ → Good rs → Good rs₁
  unfolding added first_fault
  good_added e g = go (first_fault rs r) refl e
    where
      go : (o : Option Fault) → first_fault rs r ≡ o → elim o as (λ o. Option (List Record)) [ none ↦ some (rs ++ r ∷ []) | some f ↦ none ] ≡ some rs₁ → Good rs₁
      go none f h =
          let x : rs ++ r ∷ [] ≡ rs₁ = cc in
          let y = faultless (name_fits r) (pattern_fits r) (declares_again rs r) (too_many (rs ++ r ∷ [])) f in
          subst Good x (record {
            fits = each_append Fits rs (r ∷ []) g.fits (record { name = y.0; pattern = y.1; bare = bare; unended = unended }, tt);
            apart = declared_more rs r g.apart y.2;
            few = y.3;
          })
      go (some f) d h = absurd (some-ne-none rs₁ (sym h))

-- ---- the last constraint `auth`
good_guarded : (rs : List Record) → Good rs → Good (guarded rs)
unfolding name_fits pattern_fits is_constraint_kind same declared_in
good_guarded rs g = record {
  fits = each_guarded Fits (record { name = refl; pattern = refl; bare = λ e. absurd (never false e refl); unended = refl }) rs g.fits;
  apart = rw (guarded_fields (is_kind Role) (λ t. refl) rs) g.apart;
  few = fewer_few (guarded rs) rs (guarded_fewer rs) g.few;
}

-- ---- the elements
good_held : (p p' f : Phase) (t : Sort) (a : Effect) (rs rs₁ : List Record) → Opens p t (holds p' f a) → effected a rs ≡ some rs₁ → Good rs → Good rs₁
unfolding effected
good_held p p' f t a rs rs₁ unknown e g = let x : rs ≡ rs₁ = cc in subst Good x g
good_held p p' f t a rs rs₁ within e g = let x : rs ≡ rs₁ = cc in subst Good x g
good_held p p' f t a rs rs₁ role e g = let x : rs ≡ rs₁ = cc in subst Good x g
good_held p p' f t a rs rs₁ constraint e g = good_added rs rs₁ (record_of Constraint (bytes "open")) (λ h. absurd (never false h refl)) refl e g
good_held p p' f t a rs rs₁ collection_first e g = good_added rs rs₁ (record_of Collection []) (λ h. refl) refl e g
good_held p p' f t a rs rs₁ collection_more e g = good_added rs rs₁ (record_of Collection []) (λ h. refl) refl e g
good_held p p' f t a rs rs₁ auth e g = let x : guarded rs ≡ rs₁ = cc in subst Good x (good_guarded rs g)

good_said : (p p' : Phase) (t : Sort) (k : Kind) (v : Text) (rs rs₁ : List Record) → Opens p t (says p' k) → added rs (record_of k v) ≡ some rs₁ → Good rs → Good rs₁
good_said p p' t k v rs rs₁ role_named e g = good_added rs rs₁ (record_of Role v) (λ h. absurd (never false h refl)) refl e g
good_said p p' t k v rs rs₁ pattern_first e g = good_added rs rs₁ (record_of Pattern v) (λ h. absurd (never false h refl)) refl e g
good_said p p' t k v rs rs₁ pattern_more e g = good_added rs rs₁ (record_of Pattern v) (λ h. absurd (never false h refl)) refl e g
good_said p p' t k v rs rs₁ method_first e g = good_added rs rs₁ (record_of Method v) (λ h. absurd (never false h refl)) refl e g
good_said p p' t k v rs rs₁ method_more e g = good_added rs rs₁ (record_of Method v) (λ h. absurd (never false h refl)) refl e g
good_said p p' t k v rs rs₁ omission_first e g = good_added rs rs₁ (record_of Omit v) (λ h. absurd (never false h refl)) refl e g
good_said p p' t k v rs rs₁ omission_more e g = good_added rs rs₁ (record_of Omit v) (λ h. absurd (never false h refl)) refl e g
good_said p p' t k v rs rs₁ allowed e g = good_added rs rs₁ (record_of Allow v) (λ h. absurd (never false h refl)) refl e g

pub good_given : {p q : Phase} {rs rs' : List Record} {c : Content} → Gives p rs c q rs' → Good rs → Good rs'
good_given over g = g
good_given (passing m h) g = good_given h g
good_given (remarking h) g = good_given h g
good_given (holding {p} {p'} {q} {q₁} {f} {e} {rs} {rs₁} {rs₂} {rs'} {n} {k} {c} o a h w i) g =
    good_given i (good_given h (good_held p p' f (sort_of n) e rs rs₁ (subst (Opens p (sort_of n)) o (opens p (sort_of n))) a g))
good_given (saying {p} {p'} {q} {m} {rs} {rs₁} {rs'} {n} {k} {c} o t a h) g =
    good_given h (good_said p p' (sort_of n) m (text_of k) rs rs₁ (subst (Opens p (sort_of n)) o (opens p (sort_of n))) a g)
