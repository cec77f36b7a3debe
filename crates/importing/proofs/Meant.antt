-- The records that a file gives: each can be written, and more than have room make a listing that is too long.
use mathlib.Core.Path.{◌≡◌, refl, ap, ◌∙◌}
use mathlib.Core.Bool.{Bool, true, false, not, ◌||◌}
use mathlib.Core.List.{List, [], ◌∷◌}
use Prim.Native.Nat.{ℕ, ◌≤◌, ◌<◌}
use native.Mathlib.Omega.{arith}
use lib.Dec.{leb}
use lib.ListN.{length}
use borrow.Author.Tests.{leb-true, le-leb}
use Rattle.text.specs.Texts.{Text, bytes, same, all}
use Rattle.text.specs.Bytes.{between, is_text, is_token}
use Rattle.text.proofs.Truths.{never, and_left, and_right, and_both}
use Rattle.text.proofs.Spans.{same_equal}
use Rattle.limits.specs.Limits.{most_bytes}
use Rattle.names.specs.Names.{made_of, is_name, is_role_name, is_star, is_method_name, is_pattern, is_constraint_kind}
use Rattle.listings.specs.Records.{Record}
use Rattle.listings.specs.Fields.{name_fits, pattern_fits}
use Rattle.listings.specs.declared.records.Kind.{Kind}
use Rattle.listings.specs.declared.records.Kind.TheVariants.{Role, Constraint, Allow, Collection, Pattern, Method, Omit, End}
use Rattle.portals.specs.Records.{record_of}
use Rattle.portals.specs.Listings.{allows, written}
use Rattle.portals.specs.Means.{Means}
use Rattle.portals.proofs.Eaches.{Each}
use Rattle.portals.proofs.Arrangements.{no_allows}
use Rattle.portals.proofs.Givings.{items_in, given_items}
use Rattle.portals.proofs.Goods.{Fits, good_none, good_given}
use Rattle.ledger.specs.Ledgers.{most_kept}
use Rattle.ledger.proofs.Sizes.{Lined, past_room}
use Rattle.forming.specs.Formed.{fields_fit}

-- ---- the field of one that breaks no rule has 255 bytes at most
made_short : (class : ℕ → Bool) (lo hi : ℕ) (t : Text) → made_of class lo hi t ≡ true → length t ≤ hi
made_short class lo hi t e = leb-true (length t) hi (and_right (leb lo (length t)) (leb (length t) hi) (and_left (between lo hi (length t)) (all class t) e))

name_short : (t : Text) → is_name t ≡ true → length t ≤ 64
unfolding is_name
name_short t e = made_short is_text 1 64 t (and_left _ _ e)

role_short : (t : Text) → is_role_name t ≡ true → length t ≤ 64
unfolding is_role_name
role_short t e = name_short t (and_left (is_name t) (not (is_star t)) e)

method_short : (t : Text) → is_method_name t ≡ true → length t ≤ 24
unfolding is_method_name
method_short t e = made_short is_token 1 24 t e

pattern_short : (t : Text) → is_pattern t ≡ true → length t ≤ 255
unfolding is_pattern
pattern_short t e = made_short is_text 0 255 t (and_left _ _ e)

kind_short : (t : Text) → is_constraint_kind t ≡ true → length t ≤ 4
unfolding is_constraint_kind
kind_short t e = go (same t (bytes "open")) refl (same t (bytes "auth")) refl e
  where
    go : (a : Bool) → same t (bytes "open") ≡ a → (b : Bool) → same t (bytes "auth") ≡ b → (a || b) ≡ true → length t ≤ 4
    go true p b q h = let l = ap length (same_equal t (bytes "open") p) in omega arith
    go false p true q h = let l = ap length (same_equal t (bytes "auth") q) in omega arith
    go false p false q h = absurd (never false h refl)

field_short : (k : Kind) (t : Text) → Fits (record_of k t) → length t ≤ 255
unfolding name_fits pattern_fits
field_short Role t f = let l = role_short t f.name in omega arith
field_short Constraint t f = let l = kind_short t f.name in omega arith
field_short Allow t f = let l = name_short t f.name in omega arith
field_short Collection t f = let l = ap length (f.bare refl) in omega arith
field_short Pattern t f = pattern_short t f.pattern
field_short Method t f = let l = method_short t f.name in omega arith
field_short Omit t f = let l = method_short t f.name in omega arith
field_short End t f = absurd (never true refl f.unended)

-- ---- all of them
all_short : (rs : List Record) → Each Fits rs → fields_fit rs ≡ true
unfolding fields_fit
all_short [] a = refl
all_short (r ∷ rs) a = and_both (leb (length r.field) 255) (fields_fit rs) (le-leb (length r.field) 255 (field_short r.kind r.field a.0)) (all_short rs a.1)

all_lined : (rs : List Record) → Each Fits rs → Lined rs
all_lined [] a = tt
all_lined (r ∷ rs) a = (a.0.name, a.0.unended, all_lined rs a.1)

module _ (s : Text) (rs : List Record) (m : Means s rs) where
  fitting : Each Fits rs
  fitting = (good_given m.given good_none).fits

  pub meant_fit : fields_fit rs ≡ true
  meant_fit = all_short rs fitting

  pub meant_long : most_kept < length rs → most_bytes < length (written rs)
  meant_long = past_room rs (all_lined rs fitting) (ap allows (given_items m.held m.given).0 ∙ no_allows (items_in m.held))
