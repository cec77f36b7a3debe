-- The listing's order: the records of a file, arranged, are its roles and then constraint by constraint the listing's records of it.
use mathlib.Core.Path.{◌≡◌, refl, sym, ap, ap₂, ◌∙◌}
use mathlib.Core.List.{List, [], ◌∷◌, ◌++◌, flat_map, append_assoc, append-nil}
use Rattle.listings.specs.Records.{Record}
use Rattle.listings.specs.Listings.{Constrained}
use Rattle.listings.specs.declared.records.Kind.TheVariants.{Role, Allow}
use Rattle.portals.specs.Records.{record_of}
use Rattle.portals.specs.Listings.{roles_first, allows, blocks, arranged}
use Rattle.portals.proofs.Eaches.{Each, each_append, each_map}
use Rattle.portals.proofs.Shapes.{of_kind, of_collections, headed, as_given, as_listed, each_collected, Item, declares, constrains, given_by, declared_by, constrained_by}

-- ---- records that are kept, and records that are dropped, whatever follows them
abbrev Kept : (List Record → List Record) → Record → Type 0
Kept F r = (zs : List Record) → F (r ∷ zs) ≡ r ∷ F zs

abbrev Dropped : (List Record → List Record) → Record → Type 0
Dropped F r = (zs : List Record) → F (r ∷ zs) ≡ F zs

module _ (F : List Record → List Record) where
  kept_each : (xs ys : List Record) → Each (Kept F) xs → F (xs ++ ys) ≡ xs ++ F ys
  kept_each [] ys h = refl
  kept_each (x ∷ xs) ys h = h.0 (xs ++ ys) ∙ ap (λ (z : List Record). x ∷ z) (kept_each xs ys h.1)

  dropped_each : (xs ys : List Record) → Each (Dropped F) xs → F (xs ++ ys) ≡ F ys
  dropped_each [] ys h = refl
  dropped_each (x ∷ xs) ys h = h.0 (xs ++ ys) ∙ dropped_each xs ys h.1

module _ (k : Constrained) (ys : List Record) where
  abbrev cs : List Record
  cs = of_collections k.collections

  abbrev ns : List Record
  ns = of_kind Allow k.allowed

  roles_past : roles_first (as_given k ++ ys) ≡ roles_first ys
  unfolding roles_first
  roles_past =
      dropped_each roles_first (cs ++ ns) ys
      (each_append (Dropped roles_first) cs ns (each_collected (Dropped roles_first) (λ z. refl) (λ t z. refl) (λ t z. refl) (λ t z. refl) k.collections)
      (each_map (Dropped roles_first) (record_of Allow) (λ t z. refl) k.allowed))

  -- the allowed names of a constraint, up to the next one
  allows_here : allows ys ≡ [] → allows ((cs ++ ns) ++ ys) ≡ ns
  unfolding allows
  allows_here e =
      ap allows (append_assoc cs ns ys)
      ∙ dropped_each allows cs (ns ++ ys) (each_collected (Dropped allows) (λ z. refl) (λ t z. refl) (λ t z. refl) (λ t z. refl) k.collections)
      ∙ kept_each allows ns ys (each_map (Kept allows) (record_of Allow) (λ t z. refl) k.allowed)
      ∙ ap (λ (z : List Record). ns ++ z) e
      ∙ append-nil ns

  blocks_here : blocks ((cs ++ ns) ++ ys) ≡ cs ++ blocks ys
  unfolding blocks
  blocks_here =
      ap blocks (append_assoc cs ns ys)
      ∙ kept_each blocks cs (ns ++ ys) (each_collected (Kept blocks) (λ z. refl) (λ t z. refl) (λ t z. refl) (λ t z. refl) k.collections)
      ∙ ap (λ (z : List Record). cs ++ z) (dropped_each blocks ns ys (each_map (Dropped blocks) (record_of Allow) (λ t z. refl) k.allowed))

  block_first : allows ys ≡ [] → blocks (as_given k ++ ys) ≡ as_listed k ++ blocks ys
  unfolding blocks
  block_first e =
      ap₂ (λ (a b : List Record). headed k ∷ (a ++ b)) (allows_here e) blocks_here
      ∙ ap (λ (z : List Record). headed k ∷ z) (sym (append_assoc ns cs (blocks ys)))

-- ---- of items; no name is allowed before the first constraint
roles_arranged : (I : List Item) → roles_first (flat_map given_by I) ≡ of_kind Role (declared_by I)
unfolding roles_first flat_map declared_by
roles_arranged [] = refl
roles_arranged (declares n ∷ I) = ap (λ (z : List Record). record_of Role n ∷ z) (roles_arranged I)
roles_arranged (constrains k ∷ I) = roles_past k (flat_map given_by I) ∙ roles_arranged I

pub no_allows : (I : List Item) → allows (flat_map given_by I) ≡ []
unfolding allows flat_map
no_allows [] = refl
no_allows (declares n ∷ I) = no_allows I
no_allows (constrains k ∷ I) = refl

blocks_arranged : (I : List Item) → blocks (flat_map given_by I) ≡ flat_map as_listed (constrained_by I)
unfolding blocks flat_map constrained_by
blocks_arranged [] = refl
blocks_arranged (declares n ∷ I) = blocks_arranged I
blocks_arranged (constrains k ∷ I) = block_first k (flat_map given_by I) (no_allows I) ∙ ap (λ (z : List Record). as_listed k ++ z) (blocks_arranged I)

pub arranged_items : (I : List Item) → arranged (flat_map given_by I) ≡ of_kind Role (declared_by I) ++ flat_map as_listed (constrained_by I)
unfolding arranged
arranged_items I = ap₂ ◌++◌ (roles_arranged I) (blocks_arranged I)
