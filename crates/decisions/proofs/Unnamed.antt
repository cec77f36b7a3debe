-- Methods that a listing does not name are alike to it: one of them stands for all.
use mathlib.Core.Path.{◌≡◌, refl, ap, ap₂}
use mathlib.Core.Bool.{Bool, true, false, cond, ◌&&◌, ◌||◌}
use mathlib.Core.List.{List, [], ◌∷◌, map, Memᴰ}
use mathlib.Core.Option.{Option, none, some}
use Rattle.text.specs.Texts.{Text, member}
use Rattle.listings.specs.Listings.{Collected, Constrained, Listing, covers, patterns_of}
use Rattle.listings.specs.Propers.{Proper}
use Rattle.text.proofs.Truths.{never, not_so}
use Rattle.names.proofs.Plainly.{member_plain}
use Rattle.listings.proofs.Lines.{line_in_lem}
use Rattle.decisions.specs.Matching.{best}
use Rattle.decisions.specs.Paths.{dropped}
use Rattle.decisions.specs.Combining.{Access, access_of}
use Rattle.decisions.specs.Decisions.{is_taken, taken, combine, combined_at, combined_for, answer_to, decide}
use Rattle.decisions.specs.Demands.{UnnamedAlike}

module _ (m n : Text) where
  covers_alike : (c : Collected) → member m c.methods ≡ false → member n c.methods ≡ false → member m c.omitted ≡ false → member n c.omitted ≡ false
      → covers c m ≡ covers c n
  unfolding covers
  covers_alike c a b d e = rw (a, b, d, e)

  module _ (t : Text) where
    -- for a collection that has the pattern text
    abbrev CoverAlike : Collected → Type 0
    CoverAlike c = member t c.patterns ≡ true → covers c m ≡ covers c n

    is_taken_alike : (cs : List Collected) → ((c : Collected) → Memᴰ c cs → CoverAlike c) → is_taken t m cs ≡ is_taken t n cs
    unfolding is_taken
    is_taken_alike [] h = refl
    is_taken_alike (c ∷ cs) h = ap₂ ◌||◌ (go (member t c.patterns) refl (h c (Memᴰ.head refl))) (is_taken_alike cs (λ d i. h d (Memᴰ.tail i)))
      where
        go : (b : Bool) → member t c.patterns ≡ b → CoverAlike c → b && covers c m ≡ b && covers c n
        go true e i = i e
        go false e i = refl

    taken_alike : (ks : List Constrained) → ((k : Constrained) → Memᴰ k ks → (c : Collected) → Memᴰ c k.collections → CoverAlike c) → taken t m ks ≡ taken t n ks
    unfolding taken
    taken_alike [] h = refl
    taken_alike (k ∷ ks) h =
        ap₂ (λ (b : Bool) (xs : List Constrained). cond b (k ∷ xs) xs) (is_taken_alike k.collections (h k (Memᴰ.head refl)))
        (taken_alike ks (λ q i. h q (Memᴰ.tail i)))

  module _ (l : Listing) (P : Proper l) (h : member m l.methods ≡ false) (k : member n l.methods ≡ false) where
    -- the same constraints are taken
    pub unnamed_taken : (t : Text) → taken t m l.constraints ≡ taken t n l.constraints
    unnamed_taken t = taken_alike t l.constraints (λ q i c j e.
        let r = line_in_lem l q c t i j ((member_plain t c.patterns).0 e) in
        covers_alike c
        (not_so (member m c.methods) (λ x. never (member m l.methods) (P.methods_listed _ r m x) h))
        (not_so (member n c.methods) (λ x. never (member n l.methods) (P.methods_listed _ r n x) k))
        (not_so (member m c.omitted) (λ x. never (member m l.methods) (P.omitted_listed _ r m x) h))
        (not_so (member n c.omitted) (λ x. never (member n l.methods) (P.omitted_listed _ r n x) k)))

    -- so they come to the same
    pub unnamed_alike : (b : Option Text) → combined_at l b m ≡ combined_at l b n
    unfolding combined_at
    unnamed_alike none = refl
    unnamed_alike (some t) = ap (λ (ks : List Constrained). combine (map (access_of l.declared) ks)) (unnamed_taken t)

-- ---- so are requests
pub unnamed_same : (l : Listing) → Proper l → UnnamedAlike l
unfolding decide combined_for
unnamed_same l P path m n c h k = ap (λ (a : Access). answer_to a c) (unnamed_alike m n l P h k (best (patterns_of l) (dropped path)))
