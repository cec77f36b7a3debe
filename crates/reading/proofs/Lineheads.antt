-- How a line begins, and what it comes to: the code looks for a record's name and the byte behind it, and scans the field alone.
use mathlib.Core.Path.{◌≡◌, refl, sym, ap, subst, ◌∙◌}
use mathlib.Core.Bool.{Bool, true, false, not, cond}
use mathlib.Core.List.{List, [], ◌∷◌, ◌++◌}
use Prim.Native.Nat.{ℕ, suc, ◌+◌, ◌≤◌, ◌<◌}
use native.Mathlib.Nat.{add-sub_cancel_left, add-zero}
use native.Mathlib.Omega.{arith}
use native.Mathlib.Decide.{dec_lt}
use lib.ListN.{length, take, drop, get_or, length-drop, length-append}
use lib.Seq.{get_or-drop, drop-cons, append_snoc, take-append_seam, get_or-append_seam}
use lib.Dec.{eqb}
use borrow.Author.Tests.{ne_eqb, eq-eqb, eqb-true, eqb-false, not-true}
use Rattle.text.specs.Texts.{Text, bytes, tab, newline, part, same, all, starts_with}
use Rattle.text.specs.Lines.{lines_of, to_field_end}
use Rattle.listings.specs.Records.{Named, alone, with_field, record_named}
use Rattle.listings.specs.Heads.{head_of_part, head_of}
use Rattle.entries.specs.Tables.{Tables}
use Rattle.reading.specs.Fillings.{Lining, bad, line_with, line_from, LineOutcome}
use Rattle.reading.specs.Cuts.{kind_in, from_in}
use Rattle.listings.specs.declared.records.Kind.{Kind}
use Rattle.listings.specs.declared.records.Kind.TheVariants.{Role, Constraint, Allow, Collection, Pattern, Method, Omit, End}
use Rattle.listings.specs.declared.answers.Fault.{Fault}
use Rattle.std.specs.Prelude.{Option, Some, None, Result, Err}
use Rattle.listings.specs.declared.records.Headed.{Headed}
use Rattle.reading.specs.declared.reader.Cursor.{Cursor}
use Rattle.reading.specs.declared.reader.Lined.{Lined}
use Rattle.listings.specs.declared.answers.Fault.TheVariants.{BadForm}
use Rattle.text.proofs.Truths.{never, and_left, and_right}
use Rattle.reading.proofs.Walks.{line_bad, line_by}
use Rattle.reading.proofs.Cuts.{stops, Field, none_left, one_more_lem, field_cut, field_newline, field_tabbed, part_none, line_unended, line_alone, line_unended_second, line_two, line_third}

-- ---- a name and the byte that stops it
-- a text without a tab and a byte 10 is a field
field_is : (n : Text) → all (λ (x : ℕ). not (stops x)) n ≡ true → Field n
unfolding all
field_is [] h = none_left
field_is (x ∷ xs) h =
    one_more_lem (not-true (stops x) (and_left (not (stops x)) (all (λ (y : ℕ). not (stops y)) xs) h))
    (field_is xs (and_right (not (stops x)) (all (λ (y : ℕ). not (stops y)) xs) h))

-- a field ends where a byte stops it
field_ends : {n : Text} → Field n → (c : ℕ) (r : Text) → stops c ≡ true → to_field_end (n ++ c ∷ r) ≡ length n
unfolding to_field_end
field_ends none_left c r e = rw e
field_ends (one_more_lem k f) c r e = rw k (ap suc (field_ends f c r e))

-- what stops a field is no byte of one
stop_apart : (c x : ℕ) → stops c ≡ true → stops x ≡ false → c ≡ x → ⊥
stop_apart c x h k e = never (stops x) (rw (← e) h) k

-- equal either way round
eqb_swap : (x y : ℕ) → eqb x y ≡ eqb y x
eqb_swap x y = go (eqb x y) refl
  where
    go : (b : Bool) → eqb x y ≡ b → eqb x y ≡ eqb y x
    go true e = e ∙ sym (eq-eqb y x (sym (eqb-true x y e)))
    go false e = e ∙ sym (ne_eqb y x (λ q. eqb-false x y e (sym q)))

-- two names are the same where one begins the other's line, with the byte that stops both
starts_name : {f n : Text} → Field f → Field n → (c : ℕ) (r : Text) → stops c ≡ true → starts_with (n ++ c ∷ []) (f ++ c ∷ r) ≡ same f n
unfolding starts_with same
starts_name none_left none_left c r e = rw (eq-eqb c c refl)
starts_name none_left (one_more_lem {x = y} k h) c r e = rw (ne_eqb y c (λ z. stop_apart c y e k (sym z)))
starts_name (one_more_lem {x} k h) none_left c r e = rw (ne_eqb c x (stop_apart c x e k))
starts_name (one_more_lem {x} k h) (one_more_lem {x = y} l i) c r e = rw (eqb_swap y x, starts_name h i c r e)

-- what a text starts with stands first in it
starts_split : (p t : Text) → starts_with p t ≡ true → t ≡ p ++ drop (length p) t
unfolding starts_with
starts_split [] t e = refl
starts_split (x ∷ xs) [] e = absurd (never false e refl)
starts_split (x ∷ xs) (y ∷ ys) e =
    rw (eqb-true x y (and_left (eqb x y) (starts_with xs ys) e)) (ap (λ (l : Text). y ∷ l) (starts_split xs ys (and_right (eqb x y) (starts_with xs ys) e)))

-- ---- what a line that begins at `at` comes to, where its field begins at a and its name says n
record Begun (s : Text) (at a : ℕ) (n : Named) : Type 0 where
  unended : (T : Tables) (e : ℕ) → e ≡ a + to_field_end (drop a s) → length s ≤ e → line_from T (lines_of (drop at s)) ≡ bad BadForm
  tabbed : (T : Tables) (e : ℕ) → e ≡ a + to_field_end (drop a s) → e < length s → (get_or s e 0 ≡ 10 → ⊥) → line_from T (lines_of (drop at s)) ≡ bad BadForm
  whole : (T : Tables) (e : ℕ) → e ≡ a + to_field_end (drop a s) → e < length s → get_or s e 0 ≡ 10
      → line_from T (lines_of (drop at s)) ≡ line_with T (record_named n (part a e s)) (lines_of (drop (e + 1) s))

-- where a name n stands first, and c behind it
module _ (s : Text) (at : ℕ) (n : Text) (f : Field n) (c : ℕ) (stop : stops c ≡ true) (starts : starts_with (n ++ c ∷ []) (drop at s) ≡ true) where
  abbrev behind : Text
  behind = drop (length (n ++ c ∷ [])) (drop at s)

  name_first : drop at s ≡ n ++ c ∷ behind
  name_first = starts_split (n ++ c ∷ []) (drop at s) starts ∙ append_snoc n c behind

  name_end : at + length n ≡ at + to_field_end (drop at s)
  name_end = ap (λ (k : ℕ). at + k) (sym (ap to_field_end name_first ∙ field_ends f c behind stop))

  name_within : at + length n < length s
  name_within = omega (arith, length-drop at s, ap length name_first, length-append n (c ∷ behind))

  name_stop : get_or s (at + length n) 0 ≡ c
  name_stop = sym (get_or-drop at s (length n) 0) ∙ ap (λ (l : Text). get_or l (length n) 0) name_first ∙ get_or-append_seam n c behind 0

  name_is : part at (at + length n) s ≡ n
  name_is = rw add-sub_cancel_left (ap (take (length n)) name_first ∙ take-append_seam n (c ∷ behind))

-- a name and a tab
begun_tab : (s : Text) (at : ℕ) (n : Text) (k : Kind) (size : ℕ) → Field n → with_field n ≡ Some k → size ≡ length n + 1
    → starts_with (n ++ tab ∷ []) (drop at s) ≡ true → Begun s at (at + size) (Some k)
begun_tab s at n k size f known long starts = record {
  unended = λ T e q g. line_unended_second s at p e ends within other (along e q) T g;
  tabbed = λ T e q g m. line_third s at p e ends within other (along e q) T g m;
  whole = λ T e q g z. line_two s at p e ends within other (along e q) T g z ∙ rw (name_is s at n f tab refl starts, known, ← next);
}
  where
    p : ℕ
    p = at + length n

    ends : p ≡ at + to_field_end (drop at s)
    ends = name_end s at n f tab refl starts

    within : p < length s
    within = name_within s at n f tab refl starts

    other : get_or s p 0 ≡ 10 → ⊥
    other z = let y = name_stop s at n f tab refl starts in omega arith

    next : at + size ≡ p + 1
    next = omega arith

    along : (e : ℕ) → e ≡ at + size + to_field_end (drop (at + size) s) → e ≡ p + 1 + to_field_end (drop (p + 1) s)
    along e q = q ∙ ap (λ (a : ℕ). a + to_field_end (drop a s)) next

-- before a byte 10 stands no field
none_before : (s : Text) (p : ℕ) → p < length s → get_or s p 0 ≡ 10 → to_field_end (drop p s) ≡ 0
unfolding to_field_end
none_before s p h e = rw (drop-cons s p 0 h, e)

-- a name and a byte 10
begun_newline : (s : Text) (at : ℕ) (n : Text) (k : Kind) (size : ℕ) → at < length s → Field n → alone n ≡ Some k → size ≡ length n
    → starts_with (n ++ newline ∷ []) (drop at s) ≡ true → Begun s at (at + size) (Some k)
begun_newline s at n k size h f known long starts = record {
  unended = λ T e q g. let y = here e q in absurd (omega (arith, within));
  tabbed = λ T e q g m. absurd (m (rw (here e q) stop));
  whole = λ T e q g z. line_alone s at p ends T h within stop ∙ rw (name_is s at n f newline refl starts, known, here e q, long, part_none s p);
}
  where
    p : ℕ
    p = at + length n

    ends : p ≡ at + to_field_end (drop at s)
    ends = name_end s at n f newline refl starts

    within : p < length s
    within = name_within s at n f newline refl starts

    stop : get_or s p 0 ≡ 10
    stop = name_stop s at n f newline refl starts

    here : (e : ℕ) → e ≡ at + size + to_field_end (drop (at + size) s) → e ≡ p
    here e q = q ∙ rw (long, none_before s p within stop) (add-zero p)

-- no name that 01 has: then the first field is none of them either
module _ (s : Text) (at e : ℕ) (q : e ≡ at + to_field_end (drop at s)) (g : e < length s) where
  other_alone : get_or s e 0 ≡ 10 → (u : Text) → Field u → starts_with (u ++ newline ∷ []) (drop at s) ≡ false → same (part at e s) u ≡ false
  other_alone n u f x = sym (starts_name (field_cut s at e q) f newline (drop (e + 1) s) refl) ∙ rw (← field_newline s at e q g n) x

  other_paired : (get_or s e 0 ≡ 10 → ⊥) → (u : Text) → Field u → starts_with (u ++ tab ∷ []) (drop at s) ≡ false → same (part at e s) u ≡ false
  other_paired n u f x = sym (starts_name (field_cut s at e q) f tab (drop (e + 1) s) refl) ∙ rw (← field_tabbed s at e q g n) x

  unknown_alone : get_or s e 0 ≡ 10 → starts_with (bytes "collection\n") (drop at s) ≡ false → starts_with (bytes "end\n") (drop at s) ≡ false
      → alone (part at e s) ≡ None
  unfolding alone all
  unknown_alone n y z = rw (other_alone n (bytes "collection") (field_is _ refl) y, other_alone n (bytes "end") (field_is _ refl) z)

  unknown_paired : (get_or s e 0 ≡ 10 → ⊥)
      → starts_with (bytes "method\t") (drop at s) ≡ false → starts_with (bytes "omit\t") (drop at s) ≡ false → starts_with (bytes "pattern\t") (drop at s) ≡ false
      → starts_with (bytes "allow\t") (drop at s) ≡ false → starts_with (bytes "role\t") (drop at s) ≡ false → starts_with (bytes "constraint\t") (drop at s) ≡ false
      → with_field (part at e s) ≡ None
  unfolding with_field all
  unknown_paired n m o p l r c =
      rw (
        other_paired n (bytes "method") (field_is _ refl) m,
        other_paired n (bytes "omit") (field_is _ refl) o,
        other_paired n (bytes "pattern") (field_is _ refl) p,
        other_paired n (bytes "allow") (field_is _ refl) l,
        other_paired n (bytes "role") (field_is _ refl) r,
        other_paired n (bytes "constraint") (field_is _ refl) c,
      )

  -- whatever stands behind its tab
  unpaired : (get_or s e 0 ≡ 10 → ⊥) → with_field (part at e s) ≡ None → (T : Tables) → line_from T (lines_of (drop at s)) ≡ bad BadForm
  unpaired n u T = go (e + 1 + to_field_end (drop (e + 1) s)) refl
    where
      go : (d : ℕ) → d ≡ e + 1 + to_field_end (drop (e + 1) s) → line_from T (lines_of (drop at s)) ≡ bad BadForm
      go d k = how (dec_lt d (length s)) (eqb (get_or s d 0) 10) refl
        where
          how : Dec (d < length s) → (b : Bool) → eqb (get_or s d 0) 10 ≡ b → line_from T (lines_of (drop at s)) ≡ bad BadForm
          how (no i) b j = line_unended_second s at e d q g n k T (omega arith)
          how (yes i) true j = line_two s at e d q g n k T i (eqb-true (get_or s d 0) 10 j) ∙ rw u
          how (yes i) false j = line_third s at e d q g n k T i (eqb-false (get_or s d 0) 10 j)

begun_unknown : (s : Text) (at : ℕ) → at < length s
    → starts_with (bytes "method\t") (drop at s) ≡ false → starts_with (bytes "omit\t") (drop at s) ≡ false → starts_with (bytes "pattern\t") (drop at s) ≡ false
    → starts_with (bytes "allow\t") (drop at s) ≡ false → starts_with (bytes "role\t") (drop at s) ≡ false → starts_with (bytes "constraint\t") (drop at s) ≡ false
    → starts_with (bytes "collection\n") (drop at s) ≡ false → starts_with (bytes "end\n") (drop at s) ≡ false → Begun s at at None
begun_unknown s at h m o p l r c y z = record {
  unended = λ T e q g. line_unended s at e q T h g;
  tabbed = λ T e q g n. unpaired s at e q g n (unknown_paired s at e q g n m o p l r c) T;
  whole = λ T e q g n. line_alone s at e q T h g n ∙ rw (unknown_alone s at e q g n y z);
}

-- ---- the head's ladder
abbrev BegunBy : Text → ℕ → Option Headed → Type 0
BegunBy s at d = Begun s at (from_in at d) (kind_in d)

begun_by : (s : Text) (at : ℕ) (b : Bool) (x y : Option Headed) → (b ≡ true → BegunBy s at x) → (b ≡ false → BegunBy s at y) → BegunBy s at (cond b x y)
begun_by s at true x y h k = h refl
begun_by s at false x y h k = k refl

begun : (s : Text) (at : ℕ) → at < length s → BegunBy s at (head_of (drop at s))
unfolding head_of head_of_part all with_field alone
begun s at h =
    begun_by s at _ _ _ (begun_tab s at (bytes "method") Method 7 (field_is _ refl) refl refl)
    (λ m. begun_by s at _ _ _ (begun_tab s at (bytes "omit") Omit 5 (field_is _ refl) refl refl)
    (λ o. begun_by s at _ _ _ (begun_tab s at (bytes "pattern") Pattern 8 (field_is _ refl) refl refl)
    (λ p. begun_by s at _ _ _ (begun_tab s at (bytes "allow") Allow 6 (field_is _ refl) refl refl)
    (λ l. begun_by s at _ _ _ (begun_tab s at (bytes "role") Role 5 (field_is _ refl) refl refl)
    (λ r. begun_by s at _ _ _ (begun_tab s at (bytes "constraint") Constraint 11 (field_is _ refl) refl refl)
    (λ c. begun_by s at _ _ _ (begun_newline s at (bytes "collection") Collection 10 h (field_is _ refl) refl refl)
    (λ y. begun_by s at _ _ _ (begun_newline s at (bytes "end") End 3 h (field_is _ refl) refl refl)
    (λ z. begun_unknown s at h m o p l r c y z))))))))

-- ---- the line at the cursor, by its head and where its field ends
module _ (s : Text) (c : Cursor) (T : Tables) (h : c.at < length s) (w : List ℕ) where
  abbrev due : Lining
  due = line_from T (lines_of (drop c.at s))

  -- no record, wherever its field ends
  pub head_none : head_of (drop c.at s) ≡ None → LineOutcome s c due (Err BadForm) w
  head_none q = line_bad s c due BadForm w (how (dec_lt e (length s)) (eqb (get_or s e 0) 10) refl)
    where
      begins : Begun s c.at c.at None
      begins = subst (BegunBy s c.at) q (begun s c.at h)

      e : ℕ
      e = c.at + to_field_end (drop c.at s)

      how : Dec (e < length s) → (b : Bool) → eqb (get_or s e 0) 10 ≡ b → due ≡ bad BadForm
      how (no i) b j = begins.unended T e refl (omega arith)
      how (yes i) true j = begins.whole T e refl i (eqb-true (get_or s e 0) 10 j)
      how (yes i) false j = begins.tabbed T e refl i (eqb-false (get_or s e 0) 10 j)

  module _ (d : Option Headed) (e : ℕ) (q : d ≡ head_of (drop c.at s)) (k : e ≡ from_in c.at d + to_field_end (drop (from_in c.at d) s)) where
    begins : BegunBy s c.at d
    begins = subst (BegunBy s c.at) (sym q) (begun s c.at h)

    pub head_unended : length s ≤ e → LineOutcome s c due (Err BadForm) w
    head_unended g = line_bad s c due BadForm w (begins.unended T e k g)

    pub head_tabbed : e < length s → (get_or s e 0 ≡ 10 → ⊥) → LineOutcome s c due (Err BadForm) w
    head_tabbed g m = line_bad s c due BadForm w (begins.tabbed T e k g m)

    pub head_whole : (r : Result Lined Fault) → e < length s → get_or s e 0 ≡ 10
        → LineOutcome s c (line_with T (record_named (kind_in d) (part (from_in c.at d) e s)) (lines_of (drop (e + 1) s))) r w
        → LineOutcome s c due r w
    head_whole r g z o = line_by s c due _ r w (begins.whole T e k g z) o
