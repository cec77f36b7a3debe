-- The lines with one text, joined from the first of them on by the table of a side: they come to what all lines come to. The line of a best match is such a first one.
use mathlib.Core.Path.{◌≡◌, refl, sym, ap, ap₂, subst, ◌∙◌}
use mathlib.Core.Bool.{Bool, true, false, cond, ◌&&◌, ◌||◌, and-false}
use mathlib.Core.List.{List, [], ◌∷◌, Memᴰ}
use Prim.Native.Nat.{ℕ, zero, suc, ◌+◌, ◌-◌, ◌/◌, ◌%◌, ◌^◌, ◌≤◌, ◌<◌}
use native.Mathlib.Nat.{zero-add, add-zero, add-suc, zero-div}
use native.Mathlib.Numerals.{add-one}
use native.Mathlib.Omega.{arith}
use native.Mathlib.Decide.{dec_lt}
use lib.ListN.{length, get_or, take, drop, length-drop}
use lib.Seq.{get_or-take, get_or-drop, take-length, length-take-le}
use lib.Dec.{eqb, ltb}
use lib.Bits.{bit_or, or_shr, or_mod}
use borrow.Author.Tests.{lt-ltb, le-ltb}
use Rattle.text.specs.Texts.{Text, same, run, index_of}
use Rattle.entries.specs.Sets.{digit}
use Rattle.reading.specs.Views.{View, texts, cover_at, access_at}
use Rattle.reading.specs.declared.held.Access.{Access}
use Rattle.reading.specs.declared.held.Access.TheVariants.{Open, Closed, ByRole}
use Rattle.text.proofs.Truths.{not_so}
use Rattle.text.proofs.Spans.{same_equal, same_self}
use Rattle.text.proofs.Indices.{index_here, index_bound, run_step}
use Rattle.entries.proofs.Digits.{set_same, set_or, set_none}
use Rattle.deciding.specs.Joinings.{nothing_joined, join_with, is_line_for, joined_up_to}
use Rattle.matching.specs.Strengths.{strength, start_leading, lead, leading}
use Rattle.deciding.specs.declared.joining.Joined.{Joined}
use Rattle.matching.specs.declared.Leading.{Leading}
use Rattle.matching.proofs.Strengths.{leads, at_listed, lead_past, lead_takes}
use Rattle.grants.specs.Sides.{renumbered, seen_joined, access_number, access_roles, gap_at, SideOf, access_from, access_in, joined_along}

-- ---- sets of roles in other numbers
-- a number is in two sets together where it is in one of them
digit_or : (a b i : ℕ) → eqb (digit i (bit_or a b)) 1 ≡ eqb (digit i a) 1 || eqb (digit i b) 1
digit_or a b i =
    ap (λ (x : ℕ). eqb (x % 2) 1) (or_shr a b i)
    ∙ ap (λ (x : ℕ). eqb x 1) (or_mod (a / 2 ^ i) (b / 2 ^ i) 1)
    ∙ go (digit i a) (digit i b) (omega arith) (omega arith)
  where
    go : (x y : ℕ) → x < 2 → y < 2 → eqb (bit_or x y) 1 ≡ eqb x 1 || eqb y 1
    go zero zero h k = refl
    go zero (suc zero) h k = refl
    go zero (suc (suc y)) h k = absurd (omega arith)
    go (suc zero) zero h k = refl
    go (suc zero) (suc zero) h k = refl
    go (suc zero) (suc (suc y)) h k = absurd (omega arith)
    go (suc (suc x)) y h k = absurd (omega arith)

module _ (ns os : List Text) where
  -- the set x of the roles os has name i
  abbrev has : ℕ → ℕ → Bool
  has x i = ltb i (length ns) && (ltb (index_of (get_or ns i []) os) (length os) && eqb (digit (index_of (get_or ns i []) os) x) 1)

  -- two sets together
  renumbered_or : (x y : ℕ) → bit_or (renumbered ns os x) (renumbered ns os y) ≡ renumbered ns os (bit_or x y)
  unfolding renumbered
  renumbered_or x y =
      set_or 32 (has x) (has y)
      ∙ set_same 32 (λ i. has x i || has y i) (has (bit_or x y)) (λ i h.
      rw (digit_or x y (index_of (get_or ns i []) os)) (go (ltb i (length ns)) (ltb (index_of (get_or ns i []) os) (length os)) _ _))
    where
      go : (a b p q : Bool) → (a && (b && p)) || (a && (b && q)) ≡ a && (b && (p || q))
      go true true p q = refl
      go true false p q = refl
      go false b p q = refl

  -- the empty set
  renumbered_none : renumbered ns os 0 ≡ 0
  unfolding renumbered
  renumbered_none = set_none 32 (has 0) (λ i. rw (zero-div (2 ^ index_of (get_or ns i []) os), and-false (ltb (index_of (get_or ns i []) os) (length os))) (and-false (ltb i (length ns))))

-- ---- texts before a text's index are others
index_before : (t : Text) (us : List Text) (j : ℕ) → j < index_of t us → same (get_or us j []) t ≡ false
unfolding index_of
index_before t [] j h = absurd (omega arith)
index_before t (u ∷ us) j h = go (same u t) refl j h (index_before t us)
  where
    go : (b : Bool) → same u t ≡ b → (j : ℕ) → j < cond b 0 (suc (index_of t us)) → ((i : ℕ) → i < index_of t us → same (get_or us i []) t ≡ false)
        → same (get_or (u ∷ us) j []) t ≡ false
    go true e j h again = absurd (omega arith)
    go false e zero h again = e
    go false e (suc j) h again = again j (omega arith)

-- ---- along the lines with one text
module _ (ns : List Text) (v : View) (side : List ℕ) (S : SideOf ns v side) (t : Text) (m : ℕ) where
  -- lines with other texts change nothing
  joined_over : (k d : ℕ) → ((j : ℕ) → j < d → same (get_or (texts v) (k + j) []) t ≡ false) → joined_up_to v t m (k + d) ≡ joined_up_to v t m k
  unfolding joined_up_to is_line_for
  joined_over k zero h = ap (joined_up_to v t m) (add-zero k)
  joined_over k (suc d) h =
      ap (joined_up_to v t m) (add-suc k d)
      ∙ ap (λ (b : Bool). cond (b && eqb (digit m (cover_at v (k + d))) 1) (join_with (joined_up_to v t m (k + d)) (access_at v (k + d))) (joined_up_to v t m (k + d)))
      (h d (omega arith))
      ∙ joined_over k d (λ j i. h j (omega arith))

  -- what the table joins for a line is what the line says
  joined_one : (j : Joined) (a : Access) → join_with (seen_joined ns v j) (access_from (access_number a) (renumbered ns v.roles (access_roles a))) ≡ seen_joined ns v (join_with j a)
  joined_one j Open = refl
  joined_one j Closed = refl
  joined_one j (ByRole x) =
      ap (λ (y : ℕ). record { any = true; closed = j.closed; free = j.free; roles = y }) (renumbered_or ns v.roles j.roles x)

  -- a line with the text
  joined_step : (k : ℕ) → k < length (texts v) → get_or (texts v) k [] ≡ t
      → cond (eqb (digit m (get_or side k 0)) 1) (join_with (seen_joined ns v (joined_up_to v t m k)) (access_in side k)) (seen_joined ns v (joined_up_to v t m k))
      ≡ seen_joined ns v (joined_up_to v t m (k + 1))
  unfolding joined_up_to is_line_for
  joined_step k h e =
      rw (add-one k, (S.lines k h).cover, (S.lines k h).access, (S.lines k h).roles, e, same_self t) (go (eqb (digit m (cover_at v k)) 1))
    where
      j : Joined
      j = joined_up_to v t m k

      go : (b : Bool) → cond b (join_with (seen_joined ns v j) (access_from (access_number (access_at v k)) (renumbered ns v.roles (access_roles (access_at v k))))) (seen_joined ns v j)
          ≡ seen_joined ns v (cond b (join_with j (access_at v k)) j)
      go true = joined_one j (access_at v k)
      go false = refl

  -- from one line with the text to the next, to the end
  along : (f k : ℕ) → k ≤ length (texts v) → length (texts v) ≤ f + k → (k < length (texts v) → get_or (texts v) k [] ≡ t)
      → joined_along f side (length (texts v)) m k (seen_joined ns v (joined_up_to v t m k)) ≡ seen_joined ns v (joined_up_to v t m (length (texts v)))
  unfolding joined_along gap_at
  along zero k a b here = ap (λ (x : ℕ). seen_joined ns v (joined_up_to v t m x)) (omega arith)
  along (suc f) k a b here = go (dec_lt k (length (texts v))) (along f)
    where
      n : ℕ
      n = length (texts v)

      -- the rest behind line k, and where the text stands in it
      rest : List Text
      rest = drop (k + 1) (texts v)

      next : ℕ
      next = k + 1 + index_of t rest

      go : Dec (k < n) → ((i : ℕ) → i ≤ n → n ≤ f + i → (i < n → get_or (texts v) i [] ≡ t)
          → joined_along f side n m i (seen_joined ns v (joined_up_to v t m i)) ≡ seen_joined ns v (joined_up_to v t m n))
          → joined_along (suc f) side n m k (seen_joined ns v (joined_up_to v t m k)) ≡ seen_joined ns v (joined_up_to v t m n)
      go (no h) again = rw (le-ltb k n (omega arith)) (ap (λ (x : ℕ). seen_joined ns v (joined_up_to v t m x)) (omega arith))
      go (yes h) again =
          let size : length rest ≡ n - (k + 1) = length-drop (k + 1) (texts v) in
          let gap : get_or side (384 + k) 0 ≡ index_of t rest = (S.lines k h).gap ∙ ap (λ (u : Text). index_of u rest) (here h) in
          rw (lt-ltb k n h)
          (ap₂ (λ (x : ℕ) (j : Joined). joined_along f side n m (k + 1 + x) j) gap (joined_step k h (here h))
          ∙ ap (λ (j : Joined). joined_along f side n m next (seen_joined ns v j))
          (sym (joined_over (k + 1) (index_of t rest) (λ j i. ap (λ (u : Text). same u t) (sym (get_or-drop (k + 1) (texts v) j [])) ∙ index_before t rest j i)))
          ∙ again next (omega (arith, index_bound t rest)) (omega arith)
          (λ i. sym (get_or-drop (k + 1) (texts v) (index_of t rest) []) ∙ index_here t rest (omega arith)))

  -- from the first line with the text
  pub along_first : (k : ℕ) → k < length (texts v) → get_or (texts v) k [] ≡ t → ((j : ℕ) → j < k → same (get_or (texts v) j []) t ≡ false)
      → joined_along (length (texts v)) side (length (texts v)) m k nothing_joined ≡ seen_joined ns v (joined_up_to v t m (length (texts v)))
  unfolding joined_up_to
  along_first k h here others = ap (joined_along n side n m k) (start ∙ ap (seen_joined ns v) (sym before)) ∙ along n k (omega arith) (omega arith) (λ i. here)
    where
      n : ℕ
      n = length (texts v)

      before : joined_up_to v t m k ≡ nothing_joined
      before = ap (joined_up_to v t m) (sym (zero-add k)) ∙ joined_over 0 k (λ j i. ap (λ (x : ℕ). same (get_or (texts v) x []) t) (zero-add j) ∙ others j i)

      start : nothing_joined ≡ seen_joined ns v nothing_joined
      start = ap (λ (x : ℕ). record { any = false; closed = false; free = false; roles = x }) (sym (renumbered_none ns v.roles))

-- ---- the line of the best match is the first with its text
module _ (ts : List Text) (path : Text) where
  -- one text more
  leading_step : (k : ℕ) → k < length ts → leading (take (suc k) ts) path ≡ lead path (leading (take k ts) path) (get_or ts k [])
  unfolding leading
  leading_step k h = rw (← add-one k) (run_step (lead path) start_leading ts k [] h)

  -- none
  leading_none : leading (take 0 ts) path ≡ start_leading
  unfolding leading run
  leading_none = refl

  -- the lines before the leading one are weaker
  weaker : (k : ℕ) → k ≤ length ts → (j : ℕ) → j < (leading (take k ts) path).at → strength (get_or ts j []) path < (leading (take k ts) path).most
  weaker zero h j i = absurd (omega (arith, ap (λ (x : Leading). x.at) leading_none))
  weaker (suc k) h j i = rw (leading_step k h) (go (dec_lt x.most (strength t path)) (weaker k (omega arith)) (rw (leading_step k h) at i))
    where
      x : Leading
      x = leading (take k ts) path

      t : Text
      t = get_or ts k []

      go : Dec (x.most < strength t path) → ((i : ℕ) → i < x.at → strength (get_or ts i []) path < x.most)
          → j < (lead path x t).at → strength (get_or ts j []) path < (lead path x t).most
      go (yes q) again i =
          let size : length (take k ts) ≡ k = length-take-le k ts (omega arith) in
          let seen : x.seen ≡ k = (leads (take k ts) path).all_seen ∙ size in
          let first : j < x.seen = subst (λ (y : Leading). j < y.at) (lead_takes path x t q) i in
          let here : Memᴰ (get_or ts j []) (take k ts) =
          subst (λ (u : Text). Memᴰ u (take k ts)) (get_or-take k ts j [] (omega arith)) (at_listed (take k ts) j (omega arith)) in
          let most = (leads (take k ts) path).none_stronger (get_or ts j []) here in
          subst (λ (y : Leading). strength (get_or ts j []) path < y.most) (sym (lead_takes path x t q)) (omega arith)
      go (no q) again i =
          let e : lead path x t ≡ record { seen = x.seen + 1; at = x.at; most = x.most } = lead_past path x t (omega arith) in
          subst (λ (y : Leading). strength (get_or ts j []) path < y.most) (sym e) (again j (subst (λ (y : Leading). j < y.at) e i))

  -- so they have other texts
  pub leader_first : 0 < (leading ts path).most → (j : ℕ) → j < (leading ts path).at → same (get_or ts j []) (get_or ts (leading ts path).at []) ≡ false
  leader_first h j i =
      not_so _ (λ e.
      let w : strength (get_or ts j []) path < (leading ts path).most =
      subst (λ (us : List Text). j < (leading us path).at → strength (get_or ts j []) path < (leading us path).most) (take-length ts) (weaker (length ts) (omega arith) j) i in
      let s : strength (get_or ts j []) path ≡ (leading ts path).most = ap (λ (u : Text). strength u path) (same_equal _ _ e) ∙ ((leads ts path).leader h).1 in
      omega arith)
