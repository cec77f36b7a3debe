-- The theorems about a web.xml's listing: what is written for a file is accepted, and says what the file says.
use mathlib.Core.Path.{◌≡◌, refl, sym, ap, ap₂, subst, ◌∙◌}
use mathlib.Core.Bool.{Bool, true, false, ◌&&◌, ◌||◌}
use mathlib.Core.List.{List, [], ◌∷◌, ◌++◌}
use lib.Seq.{append_snoc}
use Rattle.text.specs.Texts.{Text, member}
use Rattle.text.proofs.Truths.{never}
use Rattle.listings.specs.Records.{Record, is_kind, fields_where, may_follow, stage_after, declared_in}
use Rattle.listings.specs.Fields.{name_fits, pattern_fits}
use Rattle.listings.specs.Counts.{too_many}
use Rattle.listings.specs.Refusals.{declares_again}
use Rattle.listings.specs.Listings.{constraints_in, listing_in, records_of, listing_of}
use Rattle.listings.proofs.Sound.{Passes}
use Rattle.listings.specs.declared.records.Kind.TheVariants.{Role, Collection, End}
use Rattle.listings.specs.declared.records.Stage.TheVariants.{AfterFirst}
use Rattle.portals.specs.Records.{record_of}
use Rattle.portals.specs.Means.{Means}
use Rattle.portals.specs.Listings.{arranged, written}
use Rattle.portals.specs.Plainly as plain
use Rattle.portals.specs.Plainly.{roles_in}
use Rattle.portals.specs.Demands.{WrittenIsAccepted, WrittenSaysTheFile, EveryListingIsAccepted}
use Rattle.portals.proofs.Definite.{listing_is_accepted}
use Rattle.portals.proofs.Eaches.{Each, each_second, each_more}
use Rattle.portals.proofs.Shapes.{Shaped, Item, declares, constrains, ShapedItem, constrained_by}
use Rattle.portals.proofs.Givings.{items_in, given_items, items_roles, items_constraints}
use Rattle.portals.proofs.Arrangements.{arranged_items}
use Rattle.portals.proofs.Fields.{fields_append}
use Rattle.portals.proofs.Distincts.{Apart, apart_at}
use Rattle.portals.proofs.Fewer.{fewer_few, start_fewer, end_fewer, each_arranged, arranged_fewer}
use Rattle.portals.proofs.Goods.{Fits, Good, good_none, good_given}
use Rattle.portals.proofs.Drawn.{records_for, declared_listed, declared_drawn, declared_given, constraints_drawn}
use Rattle.portals.proofs.Followings.{Follows, last_stage, stage_after_lem, follows_at, Rests, records_follow}
use Rattle.portals.proofs.Writings.{Writable, writable, records_text, Lawful, lawful_accepted}

-- ---- the records of a file
shaped_constraints : (I : List Item) → Each ShapedItem I → Each Shaped (constrained_by I)
unfolding constrained_by
shaped_constraints [] h = tt
shaped_constraints (declares n ∷ I) h = shaped_constraints I h.1
shaped_constraints (constrains k ∷ I) h = (h.0, shaped_constraints I h.1)

module _ (s : Text) (rs : List Record) (m : Means s rs) where
  good : Good rs
  good = good_given m.given good_none

  -- arranged they are those of its roles and constraints
  pub arranged_plainly : arranged rs ≡ records_for (roles_in m.held) (plain.constraints_in m.held)
  arranged_plainly =
      ap arranged (given_items m.held m.given).0 ∙ arranged_items (items_in m.held) ∙ ap₂ records_for (items_roles m.held) (items_constraints m.held)

  declared_plainly : declared_in rs ≡ roles_in m.held
  declared_plainly = ap declared_in (given_items m.held m.given).0 ∙ declared_given (items_in m.held) ∙ items_roles m.held

  -- ---- and break no rule
  shaped : Each Shaped (plain.constraints_in m.held)
  shaped = subst (Each Shaped) (items_constraints m.held) (shaped_constraints (items_in m.held) (given_items m.held m.given).1)

  follows : Follows AfterFirst (arranged rs) × Rests (last_stage AfterFirst (arranged rs))
  follows =
      subst (λ (xs : List Record). Follows AfterFirst xs × Rests (last_stage AfterFirst xs)) (sym arranged_plainly)
      (records_follow (roles_in m.held) (plain.constraints_in m.held) shaped)

  fits : Each Fits (arranged rs)
  fits = each_arranged Fits rs good.fits

  apart : Apart (declared_in (arranged rs))
  apart =
      subst Apart
      (declared_plainly ∙ sym (ap declared_in arranged_plainly ∙ declared_listed (roles_in m.held) (plain.constraints_in m.held))) good.apart

  few : too_many (arranged rs) ≡ false
  few = fewer_few (arranged rs) rs (arranged_fewer rs) good.few

  -- a record behind those before it
  module _ (before after : List Record) (r : Record) (e : arranged rs ≡ before ++ r ∷ after) where
    staged : may_follow (stage_after before) r.kind ≡ true
    staged = rw (stage_after_lem before) (follows_at AfterFirst before after r (subst (Follows AfterFirst) e follows.0))

    fitting : Fits r
    fitting = (each_second Fits before (r ∷ after) (subst (Each Fits) e fits)).0

    once : declares_again before r ≡ false
    unfolding declares_again declared_in fields_where
    once = go (is_kind Role r) refl
      where
        go : (b : Bool) → is_kind Role r ≡ b → b && member r.field (fields_where (is_kind Role) before) ≡ false
        go true f =
            let x : declared_in (arranged rs) ≡ fields_where (is_kind Role) before ++ r.field ∷ fields_where (is_kind Role) after =
            ap declared_in e ∙ fields_append (is_kind Role) before (r ∷ after) ∙ rw f in
            apart_at (fields_where (is_kind Role) before) (fields_where (is_kind Role) after) r.field (subst Apart x apart)
        go false f = refl

    few_so_far : too_many (before ++ r ∷ []) ≡ false
    few_so_far = fewer_few (before ++ r ∷ []) ((before ++ r ∷ []) ++ after) (start_fewer (before ++ r ∷ []) after) (subst (λ (xs : List Record). too_many xs ≡ false) (e ∙ sym (append_snoc before r after)) few)

    passes : Passes before r
    passes = record { stage = staged; name = fitting.name; pattern = fitting.pattern; once = once; few = few_so_far }

  ends : Passes (arranged rs) (record_of End [])
  unfolding name_fits pattern_fits declares_again
  ends = record {
    stage = rw (stage_after_lem (arranged rs)) follows.1.end;
    name = refl;
    pattern = refl;
    once = refl;
    few = fewer_few (arranged rs ++ record_of End [] ∷ []) (arranged rs) (end_fewer (arranged rs)) few;
  }

  writes : (r : Record) → Fits r → Writable r
  writes r f = writable r f.name f.pattern (λ h. f.bare (go (is_kind Collection r) (is_kind End r) refl f.unended h))
    where
      go : (a b : Bool) → is_kind Collection r ≡ a → b ≡ false → a || b ≡ true → is_kind Collection r ≡ true
      go true b d e h = d
      go false b d e h = absurd (never b h e)

  pub lawful : Lawful (arranged rs)
  lawful = record {
    writes = each_more Fits Writable writes (arranged rs) fits;
    unended = each_more Fits (λ (r : Record). is_kind End r ≡ false) (λ r f. f.unended) (arranged rs) fits;
    passes = passes;
    ends = ends;
  }

  -- ---- the records of what is written
  pub records_written : records_of (written rs) ≡ records_for (roles_in m.held) (plain.constraints_in m.held) ++ record_of End [] ∷ []
  unfolding written
  records_written = records_text (arranged rs) lawful.writes ∙ ap (λ (xs : List Record). xs ++ record_of End [] ∷ []) arranged_plainly

-- ---- the theorems
pub written_is_accepted : WrittenIsAccepted
unfolding written
written_is_accepted s rs m h = lawful_accepted (arranged rs) (lawful s rs m) h

pub written_says_the_file : WrittenSaysTheFile
unfolding listing_of listing_in
written_says_the_file s rs m = record {
  roles = ap declared_in (records_written s rs m) ∙ declared_drawn (roles_in m.held) (plain.constraints_in m.held);
  constraints = ap constraints_in (records_written s rs m) ∙ constraints_drawn (roles_in m.held) (plain.constraints_in m.held);
}

-- so what stands in the buffer where nothing is refused is a listing that `budquarry_read` accepts
pub every_listing_accepted : EveryListingIsAccepted
every_listing_accepted = listing_is_accepted written_is_accepted
