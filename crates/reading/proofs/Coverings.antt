-- The sets that the tables keep: how the set of a collection grows with its `method` and `omit` lines, and that of a constraint with `allow`.
use mathlib.Core.Path.{◌≡◌, refl, sym, ap, ◌∙◌}
use mathlib.Core.Bool.{Bool, true, false, not, cond, ◌&&◌, ◌||◌, and-false, or-true, or-false, or_self, or_assoc}
use mathlib.Core.List.{List, [], ◌∷◌, ◌++◌}
use Prim.Native.Nat.{ℕ, ◌≤◌, ◌<◌}
use native.Mathlib.Omega.{arith}
use lib.ListN.{length, get_or, length-append}
use lib.Dec.{eqb, ltb}
use lib.Bits.{bit_or}
use Rattle.text.specs.Texts.{Text, bytes, same, member, index_of, Once}
use Rattle.names.specs.Names.{is_star}
use Rattle.listings.specs.Listings.{Collected, Constrained, is_empty, covers, add_method, add_omitted, add_allowed, new_constraint}
use Rattle.entries.specs.Sets.{set_of, with_member, without_member, everything, lowest}
use Rattle.text.proofs.Spans.{same_equal}
use Rattle.text.proofs.Indices.{stands, stands_named, front_members, Begins}
use Rattle.entries.proofs.Digits.{set_same, set_or, set_none, set_low, set_all, set_with, set_without}
use Rattle.reading.specs.Views.{admits}

-- the methods that a collection covers, of all methods
abbrev pub cover_in : List Text → Collected → ℕ
cover_in methods c = set_of 32 (λ i. covers c (get_or methods i []))

-- the roles that a constraint allows, of all roles
abbrev pub admit_in : List Text → List Text → Constrained → ℕ
admit_in roles declared k = set_of 32 (λ i. ltb i (length roles) && admits declared k (get_or roles i []))

-- ---- a text more
pub empty_snoc : (ts : List Text) (t : Text) → is_empty (ts ++ t ∷ []) ≡ false
empty_snoc [] t = refl
empty_snoc (u ∷ ts) t = refl

member_snoc : (u : Text) (ts : List Text) (t : Text) → member u (ts ++ t ∷ []) ≡ (member u ts || same t u)
unfolding member
member_snoc u [] t = or-false (same t u)
member_snoc u (v ∷ ts) t = ap (λ (b : Bool). same v u || b) (member_snoc u ts t) ∙ sym (or_assoc (same v u) (member u ts) (same t u))

-- ---- collections
-- a new one covers all methods
pub cover_new : (methods : List Text) → everything ≡ cover_in methods (record { patterns = []; methods = []; omitted = [] })
unfolding covers member
cover_new methods = sym set_all

module _ (methods : List Text) (once : Once methods) (few : length methods ≤ 32) (c : Collected) (m : Text) (named : m ≡ [] → ⊥)
    (found : index_of m methods < length methods) where
  at : (i : ℕ) → same m (get_or methods i []) ≡ eqb i (index_of m methods)
  at = stands_named methods once m found named

  -- `method` puts its method in, behind the first `method` line as the only one
  pub cover_method : with_member (cond (is_empty c.methods) 0 (cover_in methods c)) (index_of m methods) ≡ cover_in methods (add_method m c)
  unfolding covers
  cover_method =
      ap (λ (x : ℕ). with_member x (index_of m methods)) (go c.methods)
      ∙ set_with (λ i. member (get_or methods i []) c.methods) (index_of m methods) (omega arith)
      ∙ set_same 32 _ _ (λ i h. rw (empty_snoc c.methods m, member_snoc (get_or methods i []) c.methods m, at i))
    where
      go : (ms : List Text) →
          cond (is_empty ms) 0 (set_of 32 (λ i. cond (is_empty ms) (not (member (get_or methods i []) c.omitted)) (member (get_or methods i []) ms)))
          ≡ set_of 32 (λ i. member (get_or methods i []) ms)
      go [] = sym (set_none 32 (λ i. member (get_or methods i []) []) (λ i. refl))
      go (t ∷ ts) = refl

  -- `omit` takes its method out
  pub cover_omit : is_empty c.methods ≡ true → without_member (cover_in methods c) (index_of m methods) ≡ cover_in methods (add_omitted m c)
  unfolding covers
  cover_omit e =
      rw e
      (set_without (λ i. not (member (get_or methods i []) c.omitted)) (index_of m methods) (omega arith)
      ∙ set_same 32 _ _ (λ i h.
      rw (member_snoc (get_or methods i []) c.omitted m, at i) (go (member (get_or methods i []) c.omitted) (eqb i (index_of m methods)))))
    where
      go : (a b : Bool) → (not a && not b) ≡ not (a || b)
      go true b = refl
      go false b = refl

-- ---- constraints
-- a new one allows no role
pub admit_new : (roles declared : List Text) (word : Text) → 0 ≡ admit_in roles declared (new_constraint word)
unfolding admits member
admit_new roles declared word =
    sym (set_none 32 _ (λ i. rw (and-false (not (same (get_or roles i []) (bytes "*")))) (and-false (ltb i (length roles)))))

module _ (roles : List Text) (once : Once roles) (few : length roles ≤ 32) (declared : List Text) (k : Constrained) (n : Text) where
  -- `allow` with a name puts the role in
  pub admit_name : is_star n ≡ false → index_of n roles < length roles →
      with_member (admit_in roles declared k) (index_of n roles) ≡ admit_in roles declared (add_allowed n k)
  unfolding admits is_star
  admit_name e found =
      set_with (λ i. ltb i (length roles) && admits declared k (get_or roles i [])) (index_of n roles) (omega arith)
      ∙ set_same 32 _ _ (λ i h.
      rw (member_snoc (get_or roles i []) k.allowed n, member_snoc (bytes "*") k.allowed n, e, ← stands roles once n found i)
      (go (ltb i (length roles)) (same (get_or roles i []) (bytes "*")) (member (get_or roles i []) k.allowed) (member (bytes "*") k.allowed)
      (member (get_or roles i []) declared) (same n (get_or roles i [])) (other (get_or roles i []))))
    where
      other : (u : Text) → same n u ≡ true → same u (bytes "*") ≡ false
      other u f = rw (← same_equal n u f) e

      go : (g s a st d b : Bool) → (b ≡ true → s ≡ false) →
          ((g && ((not s && a) || (st && d))) || (g && b)) ≡ (g && ((not s && (a || b)) || ((st || false) && d)))
      go false s a st d b h = refl
      go true s a st d false h = rw (or-false, or-false, or-false)
      go true s a st d true h = rw (h refl, or-true, or-true)

  -- `allow` with `*` all declared ones
  pub admit_star : is_star n ≡ true → Begins declared roles →
      bit_or (admit_in roles declared k) (lowest (length declared)) ≡ admit_in roles declared (add_allowed n k)
  unfolding admits is_star
  admit_star e b =
      ap (bit_or (admit_in roles declared k)) (sym (set_low 32 (length declared) (omega (arith, ap length b.1, length-append declared b.0))))
      ∙ set_or 32 (λ i. ltb i (length roles) && admits declared k (get_or roles i [])) (λ i. ltb i (length declared))
      ∙ set_same 32 _ _ (λ i h.
      rw (member_snoc (get_or roles i []) k.allowed n, member_snoc (bytes "*") k.allowed n, e, ← low i)
      (go (ltb i (length roles)) (same (get_or roles i []) (bytes "*")) (member (get_or roles i []) k.allowed) (member (bytes "*") k.allowed)
      (member (get_or roles i []) declared) (same n (get_or roles i [])) (star (get_or roles i []))))
    where
      low : (i : ℕ) → (ltb i (length roles) && member (get_or roles i []) declared) ≡ ltb i (length declared)
      low i = rw b.1 (front_members declared b.0 (rw b.1 at once) i)

      star : (u : Text) → same n u ≡ true → same u (bytes "*") ≡ true
      star u f = rw (← same_equal n u f) e

      absorbed : (p q d : Bool) → ((p || (q && d)) || d) ≡ (p || d)
      absorbed true q d = refl
      absorbed false true d = or_self d
      absorbed false false d = refl

      go : (g s a st d b : Bool) → (b ≡ true → s ≡ true) →
          ((g && ((not s && a) || (st && d))) || (g && d)) ≡ (g && ((not s && (a || b)) || ((st || true) && d)))
      go false s a st d b h = refl
      go true s a st d false h = rw (or-false, or-true) (absorbed (not s && a) st d)
      go true s a st d true h = rw (h refl, or-true) (absorbed false st d)
