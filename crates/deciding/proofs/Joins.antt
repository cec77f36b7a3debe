-- What the code joins of a listing's view, in numbers and sets, is what is gathered from its `pattern` lines: so it comes to Decisions' answer.
use mathlib.Core.Path.{◌≡◌, refl, sym, ap, ap₂, ◌∙◌}
use mathlib.Core.Bool.{Bool, true, false, not, cond, ◌&&◌, ◌||◌, or-false, and-or_distrib_left, and-false}
use mathlib.Core.List.{List, [], ◌∷◌, map, Memᴰ}
use mathlib.Core.Logic.{◌⊎◌, inl, inr, ⊎_elim}
use mathlib.Core.Option.{none, some}
use Prim.Native.Nat.{ℕ, zero, suc, ◌≤◌, ◌<◌}
use native.Mathlib.Decide.{dec_lt}
use native.Mathlib.Numerals.{add-one}
use native.Mathlib.Omega.{arith}
use lib.ListN.{length, take, get_or, length-map, get_or-eq_default}
use lib.Seq.{take-length}
use lib.Dec.{eqb, ltb}
use lib.Bits.{bit_or}
use borrow.Author.Tests.{le-ltb}
use Rattle.text.specs.Texts.{Text, bytes, same, member, run, index_of}
use Rattle.names.specs.Names.{is_star, is_method_name}
use Rattle.listings.specs.Listings.{Constrained, Listing, PatternLine, covers, closes, pattern_lines_of, patterns_of}
use Rattle.listings.specs.Propers.{Proper}
use Rattle.entries.specs.Sets.{set_of, digit}
use Rattle.reading.specs.Views as W
use Rattle.reading.specs.Views.{view_of}
use Rattle.reading.specs.declared.held.Access.TheVariants as K
use Rattle.reading.specs.declared.held.Access.{Access as Said}
use Rattle.text.proofs.Truths.{never, not_so}
use Rattle.text.proofs.Spans.{same_equal}
use Rattle.text.proofs.Indices.{run_step, index_member, index_bound, index_here}
use Rattle.names.proofs.Plainly.{same_swap, member_append}
use Rattle.entries.proofs.Digits.{set_same, digit_set, set_or, set_none}
use Rattle.reading.proofs.Viewings.{texts_of_lem, cover_of, access_of_lem}
use Rattle.decisions.specs.Matching.{best}
use Rattle.decisions.specs.Paths.{dropped}
use Rattle.decisions.specs.Requests.{Caller, nobody, logged_in, request}
use Rattle.decisions.specs.Combining.{Access, closed, free, roles, join, neutral, any_of, roles_of, access_of}
use Rattle.decisions.specs.Decisions.{nothing_taken, combined_at, combined_for, answer_to, decide}
use Rattle.decisions.specs.Gatherings.{is_for, Gathered, nothing_gathered, with_line, gathered}
use Rattle.decisions.specs.declared.answers.Answer.TheVariants.{Open, ByRole, Closed, RoleLacking}
use Rattle.decisions.proofs.Takings.{line_named}
use Rattle.decisions.proofs.Gatherings.{line_past, line_taken, gathered_combined}
use Rattle.matching.specs.Strengths.{leading, best_line}
use Rattle.deciding.specs.Joinings as J
use Rattle.deciding.specs.Joinings.{nothing_joined, join_with, is_line_for, joined_up_to, joined_answer}
use Rattle.deciding.specs.Deciders.{answer_for}
use Rattle.deciding.specs.declared.joining.Joined.{Joined}
use Rattle.matching.proofs.Strengths.{best_line_some, best_line_none}
use Rattle.callers.proofs.Checks.{who_as, role_set_meets}

-- ---- digits
-- a name that is no method of the listing is none of those of a collection
unlisted : (l : Listing) (us : List Text) → ((n : Text) → member n us ≡ true → member n l.methods ≡ true) → (m : Text) → member m l.methods ≡ false
    → member m us ≡ false
unlisted l us h m e = not_so (member m us) (λ q. never (member m l.methods) (h m q) e)

module _ (l : Listing) (P : Proper l) (m : Text) where
  -- nothing is named by no byte
  nameless : member [] l.methods ≡ false
  unfolding is_method_name
  nameless = not_so (member [] l.methods) (λ e. never (is_method_name []) (P.good_methods [] e) refl)

  -- a line covers a method as it covers the one at its index, which is none where the method is not named
  covers_at_lem : (r : PatternLine) → Memᴰ r (pattern_lines_of l) → covers r.collection (get_or l.methods (index_of m l.methods) []) ≡ covers r.collection m
  unfolding covers
  covers_at_lem r i = go (dec_lt (index_of m l.methods) (length l.methods))
    where
      go : Dec (index_of m l.methods < length l.methods) → covers r.collection (get_or l.methods (index_of m l.methods) []) ≡ covers r.collection m
      go (yes h) = ap (covers r.collection) (index_here m l.methods h)
      go (no h) =
          let q : member m l.methods ≡ false = sym (index_member m l.methods) ∙ le-ltb (index_of m l.methods) (length l.methods) (omega arith) in
          rw (
            get_or-eq_default l.methods [] {n = index_of m l.methods} (omega arith),
            unlisted l r.collection.omitted (P.omitted_listed r i) [] nameless,
            unlisted l r.collection.methods (P.methods_listed r i) [] nameless,
            unlisted l r.collection.omitted (P.omitted_listed r i) m q,
            unlisted l r.collection.methods (P.methods_listed r i) m q,
          )

  -- so the digit at the method's index says whether the line covers it
  covers_digit : (r : PatternLine) → Memᴰ r (pattern_lines_of l) → eqb (digit (index_of m l.methods) (W.cover_set l r.collection)) 1 ≡ covers r.collection m
  unfolding W.cover_set
  covers_digit r i =
      ap (λ (x : ℕ). eqb x 1) (digit_set 32 (λ k. covers r.collection (get_or l.methods k [])) (index_of m l.methods)
      (omega (arith, index_bound m l.methods, P.few_methods)))
      ∙ go (covers r.collection (get_or l.methods (index_of m l.methods) []))
      ∙ covers_at_lem r i
    where
      go : (b : Bool) → eqb (cond b 1 0) 1 ≡ b
      go true = refl
      go false = refl

-- ---- a line, by its number
-- what stands at no line
abbrev no_line : PatternLine
no_line = record {
  text = [];
  collection = record { patterns = []; methods = []; omitted = [] };
  constraint = record { is_open = true; allowed = []; collections = [] };
}

-- line k
abbrev line_at : Listing → ℕ → PatternLine
line_at l k = get_or (pattern_lines_of l) k no_line

-- it is one of the lines
line_listed : (rs : List PatternLine) (k : ℕ) → k < length rs → Memᴰ (get_or rs k no_line) rs
line_listed [] k h = absurd (omega arith)
line_listed (r ∷ rs) zero h = Memᴰ.head refl
line_listed (r ∷ rs) (suc k) h = Memᴰ.tail (line_listed rs k (omega arith))

-- what is mapped over a list stands at its indices, whatever would stand behind them
map_at : {A B : Type 0} (f : A → B) (xs : List A) (k : ℕ) (d : A) (z : B) → k < length xs → get_or (map f xs) k z ≡ f (get_or xs k d)
map_at f [] k d z h = absurd (omega arith)
map_at f (x ∷ xs) zero d z h = refl
map_at f (x ∷ xs) (suc k) d z h = map_at f xs k d z (omega arith)

module _ (l : Listing) (P : Proper l) (t m : Text) (k : ℕ) (h : k < length (pattern_lines_of l)) where
  -- line k of the view is for the text and the method where that of the listing is
  line_is_for : is_line_for (view_of l) t (index_of m l.methods) k ≡ is_for t m (line_at l k)
  unfolding is_line_for is_for patterns_of
  line_is_for =
      ap₂ (λ (u : Text) (x : ℕ). same u t && eqb (digit (index_of m l.methods) x) 1)
      (ap (λ (us : List Text). get_or us k []) (texts_of_lem l) ∙ map_at (λ (r : PatternLine). r.text) (pattern_lines_of l) k no_line [] h)
      (cover_of l k ∙ map_at (λ (r : PatternLine). W.cover_set l r.collection) (pattern_lines_of l) k no_line 0 h)
      ∙ ap (λ (b : Bool). same (line_at l k).text t && b) (covers_digit l P m (line_at l k) (line_listed (pattern_lines_of l) k h))

  -- it says what that line's constraint says
  line_access : W.access_at (view_of l) k ≡ W.access_of l (line_at l k).constraint
  line_access = access_of_lem l k ∙ map_at (λ (r : PatternLine). W.access_of l r.constraint) (pattern_lines_of l) k no_line K.Open h

-- there are as many pattern texts as lines
line_count : (l : Listing) → length (patterns_of l) ≡ length (pattern_lines_of l)
unfolding patterns_of
line_count l = length-map (pattern_lines_of l) (λ (r : PatternLine). r.text)

-- ---- what is joined and what is gathered
-- those of the listing's roles that pass, as digits
abbrev pub roles_that : Listing → (Text → Bool) → ℕ
roles_that l f = set_of 32 (λ i. ltb i (length l.roles) && f (get_or l.roles i []))

-- whoever passes has a role of the listing
abbrev pub Listed : Listing → (Text → Bool) → Type 0
Listed l f = (n : Text) → f n ≡ true → member n l.roles ≡ true

-- what is joined shows who may; of what free and roles are it says nothing once something closes, and of roles nothing once something frees
abbrev pub Shows : Listing → Joined → Access → Type 0
Shows l j closed = j.closed ≡ true
Shows l j free = (j.closed ≡ false) × (j.free ≡ true)
Shows l j (roles f) = (j.closed ≡ false) × (j.free ≡ false) × (j.roles ≡ roles_that l f) × Listed l f

-- what the table says of a line is who may by it
abbrev pub Says : Listing → Said → Access → Type 0
Says l K.Open closed = ⊥
Says l K.Open free = Unit {0}
Says l K.Open (roles f) = ⊥
Says l K.Closed closed = Unit {0}
Says l K.Closed free = ⊥
Says l K.Closed (roles f) = ⊥
Says l (K.ByRole x) closed = ⊥
Says l (K.ByRole x) free = ⊥
Says l (K.ByRole x) (roles f) = (x ≡ roles_that l f) × Listed l f

-- sets of roles joined
roles_or : (l : Listing) (f g : Text → Bool) → bit_or (roles_that l f) (roles_that l g) ≡ roles_that l (λ n. f n || g n)
roles_or l f g =
    set_or 32 (λ i. ltb i (length l.roles) && f (get_or l.roles i [])) (λ i. ltb i (length l.roles) && g (get_or l.roles i []))
    ∙ set_same 32 _ _ (λ i h. sym (and-or_distrib_left (ltb i (length l.roles)) (f (get_or l.roles i [])) (g (get_or l.roles i []))))

-- tests that say the same
roles_same : (l : Listing) (f g : Text → Bool) → ((n : Text) → f n ≡ g n) → roles_that l f ≡ roles_that l g
roles_same l f g h = set_same 32 _ _ (λ i q. ap (λ (b : Bool). ltb i (length l.roles) && b) (h (get_or l.roles i [])))

-- of no line
shows_start : (l : Listing) → Shows l nothing_joined neutral
shows_start l = (
  refl,
  refl,
  sym (set_none 32 (λ i. ltb i (length l.roles) && false) (λ i. and-false (ltb i (length l.roles)))),
  λ n e. absurd (never false e refl),
)

-- one constraint more
join_any : (j : Joined) (x : Said) → (join_with j x).any ≡ true
join_any j K.Open = refl
join_any j K.Closed = refl
join_any j (K.ByRole x) = refl

shows_more : (l : Listing) (j : Joined) (a : Access) (x : Said) (b : Access) → Shows l j a → Says l x b → Shows l (join_with j x) (join a b)
shows_more l j a K.Open closed s t = absurd t
shows_more l j closed K.Open free s t = s
shows_more l j free K.Open free s t = (s.0, refl)
shows_more l j (roles f) K.Open free s t = (s.0, refl)
shows_more l j a K.Open (roles g) s t = absurd t
shows_more l j closed K.Closed closed s t = refl
shows_more l j free K.Closed closed s t = refl
shows_more l j (roles f) K.Closed closed s t = refl
shows_more l j a K.Closed free s t = absurd t
shows_more l j a K.Closed (roles g) s t = absurd t
shows_more l j a (K.ByRole x) closed s t = absurd t
shows_more l j a (K.ByRole x) free s t = absurd t
shows_more l j closed (K.ByRole x) (roles g) s t = s
shows_more l j free (K.ByRole x) (roles g) s t = s
shows_more l j (roles f) (K.ByRole x) (roles g) s t = (
  s.0,
  s.1,
  ap₂ bit_or s.2 t.0 ∙ roles_or l f g,
  λ n e. ⊎_elim (s.3 n) (t.1 n) (or_cases (f n) (g n) e),
)
  where
    or_cases : (p q : Bool) → p || q ≡ true → (p ≡ true) ⊎ (q ≡ true)
    or_cases true q h = inl refl
    or_cases false q h = inr h

-- ---- what the table says of a constraint
-- its roles are those that it allows
roles_admit : (declared ns : List Text) (n : Text)
    → member n (roles_of declared ns) ≡ not (same n (bytes "*")) && member n ns || member (bytes "*") ns && member n declared
unfolding roles_of member
roles_admit declared [] n = sym (or-false _ ∙ and-false (not (same n (bytes "*"))))
roles_admit declared (a ∷ ns) n =
    member_append n (cond (is_star a) declared (a ∷ [])) (roles_of declared ns)
    ∙ ap (λ (b : Bool). member n (cond (is_star a) declared (a ∷ [])) || b) (roles_admit declared ns n)
    ∙ go (same a (bytes "*")) refl
  where
    star : (x d m s : Bool) → d || (not x && m || s && d) ≡ not x && (x || m) || d
    star true true m s = refl
    star true false m true = refl
    star true false m false = refl
    star false true true s = refl
    star false true false s = refl
    star false false true s = refl
    star false false false true = refl
    star false false false false = refl

    name : (x e m s : Bool) → (e ≡ true → x ≡ false) → (e || false) || (not x && m || s) ≡ not x && (e || m) || s
    name x true m s h = rw (h refl)
    name x false m s h = refl

    go : (b : Bool) → same a (bytes "*") ≡ b
        → member n (cond b declared (a ∷ [])) || (not (same n (bytes "*")) && member n ns || member (bytes "*") ns && member n declared)
        ≡ not (same n (bytes "*")) && (same a n || member n ns) || (b || member (bytes "*") ns) && member n declared
    go true e =
        let swapped : same a n ≡ same n (bytes "*") = ap (λ (u : Text). same u n) (same_equal a (bytes "*") e) ∙ same_swap (bytes "*") n in
        star (same n (bytes "*")) (member n declared) (member n ns) (member (bytes "*") ns)
        ∙ ap (λ (x : Bool). not (same n (bytes "*")) && (x || member n ns) || member n declared) (sym swapped)
    go false e =
        name (same n (bytes "*")) (same a n) (member n ns) (member (bytes "*") ns && member n declared)
        (λ h. ap (λ (u : Text). same u (bytes "*")) (sym (same_equal a n h)) ∙ e)

-- the roles of a constraint are those that it admits
pub admits_plain : (declared : List Text) (k : Constrained) (n : Text) → member n (roles_of declared k.allowed) ≡ W.admits declared k n
unfolding W.admits
admits_plain declared k n = roles_admit declared k.allowed n

module _ (l : Listing) (P : Proper l) (r : PatternLine) (here : Memᴰ r (pattern_lines_of l)) where
  -- so what is said of a line's constraint is what the constraint says
  line_says : Says l (W.access_of l r.constraint) (access_of l.declared r.constraint)
  unfolding W.access_of W.admit_set access_of
  line_says = go r.constraint.is_open (closes r.constraint) refl
    where
      test : Text → Bool
      test n = member n (roles_of l.declared r.constraint.allowed)

      go : (a b : Bool) → access_of l.declared r.constraint ≡ cond a free (cond b closed (roles test))
          → Says l (cond a K.Open (cond b K.Closed (K.ByRole (W.admit_set l r.constraint)))) (cond a free (cond b closed (roles test)))
      go true b e = tt
      go false true e = tt
      go false false e = (
        roles_same l (W.admits l.declared r.constraint) test (λ n. sym (admits_plain l.declared r.constraint n)),
        λ n h. line_named l P n r here (rw e h),
      )

module _ (l : Listing) (P : Proper l) (t m : Text) where
  -- what is joined and gathered from the first k lines
  joins : ℕ → Joined
  joins k = joined_up_to (view_of l) t (index_of m l.methods) k

  gathers : ℕ → Gathered
  gathers k = run (with_line l.declared t m) nothing_gathered (take k (pattern_lines_of l))

  abbrev Agree : Joined → Gathered → Type 0
  Agree j g = (j.any ≡ g.any) × Shows l j g.sum

  agree_up_to : (k : ℕ) → k ≤ length (pattern_lines_of l) → Agree (joins k) (gathers k)
  unfolding joins gathers joined_up_to run
  agree_up_to zero h = (refl, shows_start l)
  agree_up_to (suc k) h =
      rw (← add-one k, run_step (with_line l.declared t m) nothing_gathered (pattern_lines_of l) k no_line h, line_is_for l P t m k h)
      (go (is_for t m (line_at l k)) refl (agree_up_to k (omega arith)))
    where
      go : (b : Bool) → is_for t m (line_at l k) ≡ b → Agree (joins k) (gathers k)
          → Agree (cond b (join_with (joins k) (W.access_at (view_of l) k)) (joins k)) (with_line l.declared t m (gathers k) (line_at l k))
      go true e A =
          rw (line_taken l.declared t m (gathers k) (line_at l k) e, line_access l P t m k h)
          (join_any (joins k) (W.access_of l (line_at l k).constraint), shows_more l (joins k) (gathers k).sum (W.access_of l (line_at l k).constraint) (access_of l.declared (line_at l k).constraint) A.1 (line_says l P (line_at l k) (line_listed (pattern_lines_of l) k h)))
      go false e A = rw (line_past l.declared t m (gathers k) (line_at l k) e) A

  -- all of them: whether a line is for the text and the method, and what they come to
  pub agree_all : Agree (joined_up_to (view_of l) t (index_of m l.methods) (length (patterns_of l))) (gathered l t m)
  unfolding joins gathers gathered
  agree_all = rw (line_count l) (rw take-length at (agree_up_to (length (pattern_lines_of l)) (omega arith)))

-- ---- the answer
module _ (l : Listing) (P : Proper l) where
  -- by the roles
  roles_answer : (f : Text → Bool) → Listed l f → (c : Caller) → J.role_answer (roles_that l f) (who_as (view_of l) c) ≡ answer_to (roles f) c
  unfolding answer_to view_of
  roles_answer f named nobody = refl
  roles_answer f named (logged_in ns) = rw (role_set_meets (view_of l) P.few_roles f named ns) (go (any_of f ns))
    where
      go : (b : Bool) → cond (not b) RoleLacking ByRole ≡ cond b ByRole RoleLacking
      go true = refl
      go false = refl

  -- what is joined gives the answer of what is gathered
  shows_answer : (j : Joined) (a : Access) (c : Caller) → Shows l j a → cond j.closed Closed (cond j.free Open (J.role_answer j.roles (who_as (view_of l) c))) ≡ answer_to a c
  unfolding answer_to
  shows_answer j closed c s = rw s
  shows_answer j free c s = rw (s.0, s.1)
  shows_answer j (roles f) c s = rw (s.0, s.1, s.2) (roles_answer f s.3 c)

  joined_answer_lem : (j : Joined) (g : Gathered) (c : Caller) → (j.any ≡ g.any) × Shows l j g.sum
      → joined_answer j (who_as (view_of l) c) ≡ answer_to (cond g.any g.sum nothing_taken) c
  unfolding joined_answer answer_to
  joined_answer_lem j g c A = rw A.0 (go g.any)
    where
      go : (b : Bool) → cond (not b) Open (cond j.closed Closed (cond j.free Open (J.role_answer j.roles (who_as (view_of l) c)))) ≡ answer_to (cond b g.sum nothing_taken) c
      go true = shows_answer j g.sum c A.1
      go false = refl

  -- so what the code answers by a listing's view is what the constraints for the path and the method come to
  answer_at : (path m : Text) (c : Caller) → answer_for (view_of l) path m (who_as (view_of l) c) ≡ answer_to (combined_for l path m) c
  unfolding answer_for view_of combined_for combined_at answer_to best_line
  answer_at path m c = rw (texts_of_lem l) (go (eqb (leading (patterns_of l) path).most 0) refl)
    where
      text : Text
      text = get_or (patterns_of l) (leading (patterns_of l) path).at []

      joined : Joined
      joined = joined_up_to (view_of l) text (index_of m l.methods) (length (patterns_of l))

      go : (b : Bool) → eqb (leading (patterns_of l) path).most 0 ≡ b → cond b Open (joined_answer joined (who_as (view_of l) c)) ≡ answer_to (combined_at l (best (patterns_of l) path) m) c
      go true q =
          let b : best (patterns_of l) path ≡ none = (best_line_none (patterns_of l) path P.short_patterns).0 (rw q) in
          rw b
      go false q =
          let b : best (patterns_of l) path ≡ some text = best_line_some (patterns_of l) path P.short_patterns (leading (patterns_of l) path).at (rw q) in
          rw b (joined_answer_lem joined (gathered l text m) c (agree_all l P text m) ∙ ap (λ (a : Access). answer_to a c) (sym (gathered_combined l text m)))

  -- of the path without its parameters: what the listing decides of the path as received
  pub answer_for_lem : (path m : Text) (c : Caller) → answer_for (view_of l) (dropped path) m (who_as (view_of l) c) ≡ decide l (request path m c)
  unfolding decide
  answer_for_lem path m c = answer_at (dropped path) m c
