-- A loop over the `pattern` lines gathers what the constraints that are taken come to: a constraint that stands there by several lines is joined several times,
-- which changes nothing.
use mathlib.Core.Path.{◌≡◌, refl, sym, ap, subst, ◌∙◌}
use mathlib.Core.Bool.{Bool, true, false, cond, ◌||◌, or-false, or-true}
use mathlib.Core.List.Memᴰ
use mathlib.Core.List.{List, [], ◌∷◌, map, Memᴰ}
use mathlib.Core.Logic.{◌⊎◌, inl, inr, ⊎_elim}
use mathlib.Core.Option.{some}
use Rattle.text.specs.Texts.{Text, same, run}
use Rattle.text.proofs.Truths.{never, and_left, and_right, and_both}
use Rattle.text.proofs.Spans.{same_equal, same_self}
use Rattle.listings.specs.Listings.{Constrained, Listing, PatternLine, covers, pattern_lines_of}
use Rattle.names.proofs.Plainly.{member_plain}
use Rattle.listings.proofs.Lines.{line_in_lem, line_of}
use Rattle.decisions.specs.Combining.{Access, join, neutral, together, access_of}
use Rattle.decisions.specs.Decisions.{taken, nothing_taken, combine, combined_at}
use Rattle.decisions.specs.Gatherings.{is_for, Gathered, nothing_gathered, with_line, gathered}
use Rattle.decisions.proofs.Anys.{Within}
use Rattle.decisions.proofs.Joins.{join_laws, combine_same}
use Rattle.decisions.proofs.Takings.{taken_by, by_taken, taken_of, taken_in}

-- ---- a loop joins from the left
neutral_first : (e : Access) → join neutral e ≡ e
neutral_first e = join_laws.order neutral e ∙ join_laws.nothing e

module _ (l : Listing) (t m : Text) where
  -- the constraints of the lines that are for them
  lines_for : List PatternLine → List Constrained
  lines_for [] = []
  lines_for (r ∷ rs) = cond (is_for t m r) (r.constraint ∷ lines_for rs) (lines_for rs)

  is_some : List Constrained → Bool
  is_some [] = false
  is_some (k ∷ ks) = true

  abbrev with : Gathered → List Constrained → Gathered
  with g ks = record { any = g.any || is_some ks; sum = join g.sum (together (map (access_of l.declared) ks)) }

  gathers : (g : Gathered) (rs : List PatternLine) → run (with_line l.declared t m) g rs ≡ with g (lines_for rs)
  unfolding run with_line lines_for is_some together
  gathers g [] = λ i. record { any = sym (or-false g.any) i; sum = sym (join_laws.nothing g.sum) i }
  gathers g (r ∷ rs) = gathers (with_line l.declared t m g r) rs ∙ go (is_for t m r)
    where
      go : (b : Bool) → with (cond b (record { any = true; sum = join g.sum (access_of l.declared r.constraint) }) g) (lines_for rs) ≡ with g (cond b (r.constraint ∷ lines_for rs) (lines_for rs))
      go true = λ i. record {
        any = sym (or-true g.any) i;
        sum = join_laws.grouping g.sum (access_of l.declared r.constraint) (together (map (access_of l.declared) (lines_for rs))) i;
      }
      go false = refl

  -- ---- the constraints of those lines are the ones that are taken
  for_of : (rs : List PatternLine) (k : Constrained) → Memᴰ k (lines_for rs) → (r : PatternLine) × Memᴰ r rs × (is_for t m r ≡ true) × (k ≡ r.constraint)
  unfolding lines_for
  for_of [] k i = absurd (Memᴰ.not-nil i)
  for_of (r ∷ rs) k i = go (is_for t m r) refl i (for_of rs k)
    where
      For : List PatternLine → Type 0
      For us = (q : PatternLine) × Memᴰ q us × (is_for t m q ≡ true) × (k ≡ q.constraint)

      later : For rs → For (r ∷ rs)
      later q = (q.0, Memᴰ.tail q.1, q.2, q.3)

      go : (b : Bool) → is_for t m r ≡ b → Memᴰ k (cond b (r.constraint ∷ lines_for rs) (lines_for rs)) → (Memᴰ k (lines_for rs) → For rs) → For (r ∷ rs)
      go true e j ih = ⊎_elim (λ (q : k ≡ r.constraint). (r, Memᴰ.head refl, e, q)) (λ (n : Memᴰ k (lines_for rs)). later (ih n)) (Memᴰ.cases_cons j)
      go false e j ih = later (ih j)

  for_in : (rs : List PatternLine) (r : PatternLine) → Memᴰ r rs → is_for t m r ≡ true → Memᴰ r.constraint (lines_for rs)
  unfolding lines_for
  for_in [] r i h = absurd (Memᴰ.not-nil i)
  for_in (q ∷ rs) r i h = go (is_for t m q) refl (Memᴰ.cases_cons i) (λ j. for_in rs r j h)
    where
      go : (b : Bool) → is_for t m q ≡ b → (r ≡ q) ⊎ Memᴰ r rs → (Memᴰ r rs → Memᴰ r.constraint (lines_for rs))
          → Memᴰ r.constraint (cond b (q.constraint ∷ lines_for rs) (lines_for rs))
      go true e (inl x) ih = Memᴰ.head (ap (λ (y : PatternLine). y.constraint) x)
      go true e (inr j) ih = Memᴰ.tail (ih j)
      go false e (inl x) ih = absurd (never (is_for t m r) h (rw x e))
      go false e (inr j) ih = ih j

  abbrev ks : List Constrained
  ks = lines_for (pattern_lines_of l)

  lines_taken : Within ks (taken t m l.constraints)
  unfolding is_for
  lines_taken k i =
      let q = for_of (pattern_lines_of l) k i in
      let s = line_of l q.0 q.1 in
      let e : q.0.text ≡ t = same_equal q.0.text t (and_left (same q.0.text t) (covers q.0.collection m) q.2) in
      let h = and_right (same q.0.text t) (covers q.0.collection m) q.2 in
      rw q.3 (taken_in t m l.constraints q.0.constraint s.constraint_in
      (by_taken t m q.0.constraint.collections q.0.collection s.collection_in ((member_plain t q.0.collection.patterns).1 (rw e at s.pattern_in)) h))

  taken_lines : Within (taken t m l.constraints) ks
  unfolding is_for
  taken_lines k i =
      let q = taken_of t m l.constraints k i in
      let b = taken_by t m k.collections q.1 in
      for_in (pattern_lines_of l) _ (line_in_lem l k b.collection t q.0 b.listed ((member_plain t b.collection.patterns).0 b.has_pattern))
      (and_both (same t t) (covers b.collection m) (same_self t) b.has_method)

  -- ---- so the loop gathers what they come to
  accesses_within : (xs ys : List Constrained) → Within xs ys → Within (map (access_of l.declared) xs) (map (access_of l.declared) ys)
  accesses_within xs ys h e i =
      let r = Memᴰ.of_map (access_of l.declared) xs i in
      subst (λ (x : Access). Memᴰ x (map (access_of l.declared) ys)) r.2 (Memᴰ.map (access_of l.declared) (h r.0 r.1))

  combine_some : (xs : List Constrained) → combine (map (access_of l.declared) xs) ≡ cond (is_some xs) (together (map (access_of l.declared) xs)) nothing_taken
  unfolding combine is_some
  combine_some [] = refl
  combine_some (k ∷ ks) = refl

  pub gathered_combined : combined_at l (some t) m ≡ cond (gathered l t m).any (gathered l t m).sum nothing_taken
  unfolding combined_at gathered
  gathered_combined =
      combine_same (map (access_of l.declared) (taken t m l.constraints)) (map (access_of l.declared) ks)
      (accesses_within (taken t m l.constraints) ks taken_lines) (accesses_within ks (taken t m l.constraints) lines_taken)
      ∙ combine_some ks
      ∙ ap (λ (e : Access). cond (is_some ks) e nothing_taken) (sym (neutral_first (together (map (access_of l.declared) ks))))
      ∙ ap (λ (g : Gathered). cond g.any g.sum nothing_taken) (sym (gathers nothing_gathered (pattern_lines_of l)))

-- ---- as a loop meets it
-- a line that is not for the text or the method changes nothing
pub line_past : (declared : List Text) (t m : Text) (g : Gathered) (r : PatternLine) → is_for t m r ≡ false → with_line declared t m g r ≡ g
unfolding with_line
line_past declared t m g r e = rw e

-- one that is for both adds its constraint
pub line_taken : (declared : List Text) (t m : Text) (g : Gathered) (r : PatternLine) → is_for t m r ≡ true
    → with_line declared t m g r ≡ record { any = true; sum = join g.sum (access_of declared r.constraint) }
unfolding with_line
line_taken declared t m g r e = rw e
