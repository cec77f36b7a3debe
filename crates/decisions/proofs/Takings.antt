-- Which constraints are taken, and which role names they admit: all of them are the listing's.
use mathlib.Core.Path.{◌≡◌, refl}
use mathlib.Core.Bool.{Bool, true, false, cond, ◌&&◌, ◌||◌, or-true}
use mathlib.Core.List.Memᴰ
use mathlib.Core.List.{List, [], ◌∷◌, map, Memᴰ}
use mathlib.Core.Logic.{◌⊎◌, inl, inr, ⊎_elim}
use mathlib.Core.Option.{Option, none, some}
use Rattle.text.specs.Texts.{Text, member}
use Rattle.text.proofs.Truths.{never, and_left, and_right}
use Rattle.names.specs.Names.{is_star}
use Rattle.listings.specs.Listings.{Collected, Constrained, Listing, PatternLine, closes, covers, pattern_lines_of}
use Rattle.listings.specs.Propers.{Proper}
use Rattle.names.proofs.Plainly.{member_plain}
use Rattle.listings.proofs.Lines.{line_in_lem}
use Rattle.decisions.specs.Combining.{closed, free, roles, has_role, roles_of, access_of}
use Rattle.decisions.specs.Decisions.{is_taken, taken, combine, combined_at}
use Rattle.decisions.proofs.Joins.{role_of}

-- ---- taken
-- by a collection that has the pattern text and covers the method
pub record By (t m : Text) (cs : List Collected) : Type 0 where
  pub collection : Collected
  pub listed : Memᴰ collection cs
  pub has_pattern : member t collection.patterns ≡ true
  pub has_method : covers collection m ≡ true

pub taken_by : (t m : Text) (cs : List Collected) → is_taken t m cs ≡ true → By t m cs
unfolding is_taken
taken_by t m [] h = absurd (never false h refl)
taken_by t m (c ∷ cs) h = go (member t c.patterns && covers c m) refl h (taken_by t m cs)
  where
    later : By t m cs → By t m (c ∷ cs)
    later b = record { collection = b.collection; listed = Memᴰ.tail b.listed; has_pattern = b.has_pattern; has_method = b.has_method }

    go : (b : Bool) → member t c.patterns && covers c m ≡ b → b || is_taken t m cs ≡ true → (is_taken t m cs ≡ true → By t m cs) → By t m (c ∷ cs)
    go true e i ih = record {
      collection = c;
      listed = Memᴰ.head refl;
      has_pattern = and_left (member t c.patterns) (covers c m) e;
      has_method = and_right (member t c.patterns) (covers c m) e;
    }
    go false e i ih = later (ih i)

pub by_taken : (t m : Text) (cs : List Collected) (c : Collected) → Memᴰ c cs → member t c.patterns ≡ true → covers c m ≡ true → is_taken t m cs ≡ true
unfolding is_taken
by_taken t m [] c i p h = absurd (Memᴰ.not-nil i)
by_taken t m (d ∷ cs) c i p h =
    ⊎_elim (λ (e : c ≡ d). rw (← e, p, h)) (λ (j : Memᴰ c cs). rw (by_taken t m cs c j p h) (or-true (member t d.patterns && covers d m))) (Memᴰ.cases_cons i)

module _ (t m : Text) where
  pub taken_of : (ks : List Constrained) (k : Constrained) → Memᴰ k (taken t m ks) → Memᴰ k ks × (is_taken t m k.collections ≡ true)
  unfolding taken
  taken_of [] k i = absurd (Memᴰ.not-nil i)
  taken_of (x ∷ xs) k i = go (is_taken t m x.collections) refl i (taken_of xs k)
    where
      later : Memᴰ k xs × (is_taken t m k.collections ≡ true) → Memᴰ k (x ∷ xs) × (is_taken t m k.collections ≡ true)
      later r = (Memᴰ.tail r.0, r.1)

      go : (b : Bool) → is_taken t m x.collections ≡ b → Memᴰ k (cond b (x ∷ taken t m xs) (taken t m xs))
          → (Memᴰ k (taken t m xs) → Memᴰ k xs × (is_taken t m k.collections ≡ true))
          → Memᴰ k (x ∷ xs) × (is_taken t m k.collections ≡ true)
      go true e j ih = ⊎_elim (λ (q : k ≡ x). (Memᴰ.head q, rw q e)) (λ (n : Memᴰ k (taken t m xs)). later (ih n)) (Memᴰ.cases_cons j)
      go false e j ih = later (ih j)

  pub taken_in : (ks : List Constrained) (k : Constrained) → Memᴰ k ks → is_taken t m k.collections ≡ true → Memᴰ k (taken t m ks)
  unfolding taken
  taken_in [] k i h = absurd (Memᴰ.not-nil i)
  taken_in (x ∷ xs) k i h = go (is_taken t m x.collections) refl (Memᴰ.cases_cons i) (λ j. taken_in xs k j h)
    where
      go : (b : Bool) → is_taken t m x.collections ≡ b → (k ≡ x) ⊎ Memᴰ k xs → (Memᴰ k xs → Memᴰ k (taken t m xs))
          → Memᴰ k (cond b (x ∷ taken t m xs) (taken t m xs))
      go true e (inl q) ih = Memᴰ.head q
      go true e (inr j) ih = Memᴰ.tail (ih j)
      go false e (inl q) ih = absurd (never (is_taken t m k.collections) h (rw q e))
      go false e (inr j) ih = ih j

-- ---- the roles that a constraint admits
-- a declared one, or one that it allows by name
roles_plain : (declared ns : List Text) (n : Text) → Memᴰ n (roles_of declared ns) → Memᴰ n declared ⊎ ((is_star n ≡ false) × Memᴰ n ns)
unfolding roles_of
roles_plain declared [] n i = absurd (Memᴰ.not-nil i)
roles_plain declared (a ∷ ns) n i = ⊎_elim (here (is_star a) refl) (λ j. later (roles_plain declared ns n j)) (Memᴰ.append_cases (cond (is_star a) declared (a ∷ [])) i)
  where
    here : (b : Bool) → is_star a ≡ b → Memᴰ n (cond b declared (a ∷ [])) → Memᴰ n declared ⊎ ((is_star n ≡ false) × Memᴰ n (a ∷ ns))
    here true e j = inl j
    here false e j = let q : n ≡ a = Memᴰ.eq_of_singleton j in inr (rw q e, Memᴰ.head q)

    later : Memᴰ n declared ⊎ ((is_star n ≡ false) × Memᴰ n ns) → Memᴰ n declared ⊎ ((is_star n ≡ false) × Memᴰ n (a ∷ ns))
    later (inl j) = inl j
    later (inr j) = inr (j.0, Memᴰ.tail j.1)

-- by what it says
pub access_role : (declared : List Text) (k : Constrained) (n : Text) → has_role (access_of declared k) n ≡ true
    → (member n declared ≡ true) ⊎ ((is_star n ≡ false) × (member n k.allowed ≡ true))
unfolding access_of
access_role declared k n h = go k.is_open (closes k) h
  where
    named : Memᴰ n declared ⊎ ((is_star n ≡ false) × Memᴰ n k.allowed) → (member n declared ≡ true) ⊎ ((is_star n ≡ false) × (member n k.allowed ≡ true))
    named (inl j) = inl ((member_plain n declared).1 j)
    named (inr j) = inr (j.0, (member_plain n k.allowed).1 j.1)

    go : (o e : Bool) → has_role (cond o free (cond e closed (roles (λ x. member x (roles_of declared k.allowed))))) n ≡ true
        → (member n declared ≡ true) ⊎ ((is_star n ≡ false) × (member n k.allowed ≡ true))
    go true e i = absurd (never false i refl)
    go false true i = absurd (never false i refl)
    go false false i = named (roles_plain declared k.allowed n ((member_plain n (roles_of declared k.allowed)).0 i))

-- ---- a role that a listing admits is named in it
-- one that a line's constraint admits
pub line_named : (l : Listing) → Proper l → (n : Text) (r : PatternLine) → Memᴰ r (pattern_lines_of l) → has_role (access_of l.declared r.constraint) n ≡ true
    → member n l.roles ≡ true
line_named l P n r i h =
    ⊎_elim (P.declared_listed n) (λ (x : (is_star n ≡ false) × (member n r.constraint.allowed ≡ true)). P.allowed_listed r i n x.0 x.1)
    (access_role l.declared r.constraint n h)

module _ (l : Listing) (P : Proper l) (m n : Text) where
  access_named : (t : Text) (k : Constrained) → Memᴰ k (taken t m l.constraints) → has_role (access_of l.declared k) n ≡ true → member n l.roles ≡ true
  access_named t k i h =
      let q = taken_of t m l.constraints k i in
      let b = taken_by t m k.collections q.1 in
      line_named l P n _ (line_in_lem l k b.collection t q.0 b.listed ((member_plain t b.collection.patterns).0 b.has_pattern)) h

  combine_named : (t : Text) (ks : List Constrained) → ((k : Constrained) → Memᴰ k ks → Memᴰ k (taken t m l.constraints))
      → has_role (combine (map (access_of l.declared) ks)) n ≡ true → member n l.roles ≡ true
  unfolding combine
  combine_named t [] sub h = absurd (never false h refl)
  combine_named t (k ∷ ks) sub h =
      let r = role_of (map (access_of l.declared) (k ∷ ks)) n h in
      let q = Memᴰ.of_map (access_of l.declared) (k ∷ ks) r.1 in
      access_named t q.0 (sub q.0 q.1) (rw q.2 r.2)

  pub role_named : (b : Option Text) → has_role (combined_at l b m) n ≡ true → member n l.roles ≡ true
  unfolding combined_at
  role_named none h = absurd (never false h refl)
  role_named (some t) h = combine_named t (taken t m l.constraints) (λ k i. i) h
