-- How the names of a caller are read, one after the other: laws in the shape of the code.
use mathlib.Core.Path.{◌≡◌, refl, sym, ap, ◌∙◌}
use mathlib.Core.Bool.{Bool, true, false, not, cond, ◌||◌, and-false}
use mathlib.Core.List.{List, [], ◌∷◌}
use Prim.Native.Nat.{ℕ, zero, suc, ◌+◌, ◌-◌, ◌*◌, ◌%◌, ◌^◌, ◌≤◌, ◌<◌}
use native.Mathlib.Nat.{mod-eq_of_lt, one-mul}
use native.Mathlib.Numerals.{add-one}
use native.Mathlib.Omega.{arith}
use native.Mathlib.Decide.{dec_lt}
use lib.ListN.{length, take, drop, get_or, length-drop, drop_of_length-le, get_or-eq_default}
use lib.Seq.{get_or-drop, drop-drop}
use lib.Pow.{pow-lt}
use lib.Dec.{eqb, ltb}
use lib.Bits.{bit_or}
use borrow.Author.Tests.{eqb-true, eq-eqb, lt-ltb, le-ltb, le-leb, lt-leb, not-true, not-false}
use Rattle.std.specs.Prelude.{Option, Some, None}
use Rattle.text.specs.Texts.{Text, tab, newline, all, part, index_of}
use Rattle.text.specs.Bytes.{between, is_text}
use Rattle.text.specs.Lines.{Line, before, lines_of, to_field_end}
use Rattle.names.specs.Names.{is_name, is_role_name}
use Rattle.reading.specs.Views.{View, ProperView}
use Rattle.text.proofs.Truths.{never, or_right}
use Rattle.callers.specs.RoleSets.{with_role, check_names, check_caller}
use Rattle.callers.specs.declared.Who.{Who}
use Rattle.callers.specs.declared.Who.TheVariants.{Nobody, Roles}

-- ---- a role put in
module _ (v : View) (P : ProperView v) (x : ℕ) (n : Text) (i k : ℕ)
    (e : i ≡ index_of n v.roles) (f : k ≡ length v.roles) where
  -- a name that is a role: the code's shift is the power
  pub role_in : i < k → bit_or x (1 * 2 ^ (i % 64) % 18446744073709551616) ≡ with_role v x n
  unfolding with_role
  role_in h =
      let j : i < 64 = omega (arith, P.few_roles) in
      let q : ltb (index_of n v.roles) (length v.roles) ≡ true = rw (← e, ← f) (lt-ltb i k h) in
      rw (mod-eq_of_lt j, one-mul (2 ^ i), q, ← e) (ap (bit_or x) (mod-eq_of_lt (pow-lt j)))

  -- another name
  pub role_out : k ≤ i → x ≡ with_role v x n
  unfolding with_role
  role_out h =
      let q : ltb (index_of n v.roles) (length v.roles) ≡ false = rw (← e, ← f) (le-ltb i k h) in
      rw q

-- ---- the first line of a text, by how its first field ends
-- a line that its byte 10 ends, and one that lacks it
abbrev whole : Text → Line
whole t = record { bytes = t; ended = true }

abbrev lacking : Text → Line
lacking t = record { bytes = t; ended = false }

abbrev stops : ℕ → Bool
stops x = eqb x tab || eqb x newline

-- by a byte 10: it is the field
abbrev EndsAt : Text → ℕ → Type 0
EndsAt t e = lines_of t ≡ whole (take e t) ∷ lines_of (drop (suc e) t)

line_ended : (t : Text) → to_field_end t < length t → get_or t (to_field_end t) 0 ≡ 10 → EndsAt t (to_field_end t)
unfolding to_field_end lines_of before
line_ended [] h e = absurd (omega arith)
line_ended (x ∷ xs) h e = go (stops x) refl h e (line_ended xs)
  where
    go : (b : Bool) → stops x ≡ b → cond b 0 (suc (to_field_end xs)) < suc (length xs) → get_or (x ∷ xs) (cond b 0 (suc (to_field_end xs))) 0 ≡ 10
        → (to_field_end xs < length xs → get_or xs (to_field_end xs) 0 ≡ 10 → EndsAt xs (to_field_end xs)) → EndsAt (x ∷ xs) (cond b 0 (suc (to_field_end xs)))
    go true k h e again = rw e
    go false k h e again = rw (or_right (eqb x tab) (eqb x newline) k, again (omega arith) e)

-- by a tab: it has a byte that is no text byte
abbrev Unclean : List Line → Type 0
Unclean ls = (k : Line) × (ks : List Line) × (ls ≡ k ∷ ks) × (all is_text k.bytes ≡ false)

unclean_before : (x : ℕ) (ls : List Line) → is_text x ≡ false → Unclean (before x ls)
unfolding before all
unclean_before x [] e = (lacking (x ∷ []), [], refl, rw e)
unclean_before x (l ∷ ls) e = (record { bytes = x ∷ l.bytes; ended = l.ended }, ls, refl, rw e)

before_unclean : (x : ℕ) (ls : List Line) → Unclean ls → Unclean (before x ls)
unfolding before all
before_unclean x ls (k, ks, e, f) = (record { bytes = x ∷ k.bytes; ended = k.ended }, ks, rw e, rw f (and-false (is_text x)))

tab_unclean : is_text tab ≡ false
unfolding is_text
tab_unclean = refl

line_tabbed : (t : Text) → to_field_end t < length t → (get_or t (to_field_end t) 0 ≡ 10 → ⊥) → Unclean (lines_of t)
unfolding to_field_end lines_of
line_tabbed [] h n = absurd (omega arith)
line_tabbed (x ∷ xs) h n = go (eqb x tab) (eqb x newline) refl refl h n (line_tabbed xs)
  where
    go : (a b : Bool) → eqb x tab ≡ a → eqb x newline ≡ b
        → cond (a || b) 0 (suc (to_field_end xs)) < suc (length xs) → (get_or (x ∷ xs) (cond (a || b) 0 (suc (to_field_end xs))) 0 ≡ 10 → ⊥)
        → (to_field_end xs < length xs → (get_or xs (to_field_end xs) 0 ≡ 10 → ⊥) → Unclean (lines_of xs)) → Unclean (cond b (whole [] ∷ lines_of xs) (before x (lines_of xs)))
    go true true p q h n again = absurd (n (eqb-true x newline q))
    go false true p q h n again = absurd (n (eqb-true x newline q))
    go true false p q h n again = unclean_before x (lines_of xs) (rw (eqb-true x tab p) tab_unclean)
    go false false p q h n again = before_unclean x (lines_of xs) (again (omega arith) n)

-- by nothing: it is all there is, and lacks its byte 10
line_open : (t : Text) → 0 < length t → length t ≤ to_field_end t → lines_of t ≡ lacking t ∷ []
unfolding to_field_end lines_of before
line_open [] h k = absurd (omega arith)
line_open (x ∷ xs) h k = go (stops x) refl k (line_open xs)
  where
    rest : (ys : Text) → (0 < length ys → lines_of ys ≡ lacking ys ∷ []) → before x (lines_of ys) ≡ lacking (x ∷ ys) ∷ []
    rest [] again = refl
    rest (y ∷ ys) again = rw (again (omega arith))

    go : (b : Bool) → stops x ≡ b → suc (length xs) ≤ cond b 0 (suc (to_field_end xs))
        → (0 < length xs → length xs ≤ to_field_end xs → lines_of xs ≡ lacking xs ∷ []) → lines_of (x ∷ xs) ≡ lacking (x ∷ xs) ∷ []
    go true e k again = absurd (omega arith)
    go false e k again = rw (or_right (eqb x tab) (eqb x newline) e) (rest xs (λ l. again l (omega arith)))

-- ---- a line with such a byte is no name
unclean_name : (t : Text) → all is_text t ≡ false → is_role_name t ≡ false
unfolding is_role_name is_name
unclean_name t f = rw (f, and-false (between 1 64 (length t)))

unclean_bad : (view : View) (k x : ℕ) (ls : List Line) → Unclean ls → check_names view k x ls ≡ None
unfolding check_names
unclean_bad view k x ls (n, ns, e, f) = rw (e, unclean_name n.bytes f, and-false n.ended)

-- ---- the loop
-- the names from offset `at` on are still to come, behind k names whose roles are x
pub record Naming (view : View) (s : Text) (k x at : ℕ) : Type 0 where
  pub due : check_names view 0 0 (lines_of s) ≡ check_names view k x (lines_of (drop at s))

-- the field at `at` stops at p, before the text's end
module _ (s : Text) (at p : ℕ) (q : p ≡ at + to_field_end (drop at s)) (h : p < length s) where
  inside : to_field_end (drop at s) < length (drop at s)
  inside = rw (length-drop at s) (omega arith)

  stop : get_or (drop at s) (to_field_end (drop at s)) 0 ≡ get_or s p 0
  stop = get_or-drop at s (to_field_end (drop at s)) 0 ∙ sym (rw q)

  ended_line : get_or s p 0 ≡ 10 → lines_of (drop at s) ≡ whole (part at p s) ∷ lines_of (drop (p + 1) s)
  ended_line e =
      let a : to_field_end (drop at s) ≡ p - at = omega arith in
      let b : at + suc (p - at) ≡ p + 1 = omega arith in
      line_ended (drop at s) inside (stop ∙ e) ∙ rw (a, drop-drop (suc (p - at)) at s, b)

  tabbed_line : (get_or s p 0 ≡ 10 → ⊥) → Unclean (lines_of (drop at s))
  tabbed_line n = line_tabbed (drop at s) inside (λ e. n (sym stop ∙ e))

-- a byte 10 stands at p, so p is in the text
ended_at : (s : Text) (p : ℕ) (e : Bool) → e ≡ eqb (get_or s p 0) 10 → not e ≡ false → (p < length s) × (get_or s p 0 ≡ 10)
ended_at s p e e-is n = go (dec_lt p (length s))
  where
    z : get_or s p 0 ≡ 10
    z = eqb-true (get_or s p 0) 10 (sym e-is ∙ not-false e n)

    go : Dec (p < length s) → (p < length s) × (get_or s p 0 ≡ 10)
    go (yes h) = (h, z)
    go (no h) = let d : get_or s p 0 ≡ 0 = get_or-eq_default s 0 (omega arith) in absurd (omega (arith, z))

-- the first name
pub names_begin : (view : View) (s : Text) → Naming view s 0 0 0
names_begin view s = record { due = refl }

module _ (view : View) (s : Text) (k x at : ℕ) (v : Naming view s k x at) where
  -- no more names
  pub names_end : length s ≤ at → Some (Roles x) ≡ check_names view 0 0 (lines_of s)
  unfolding check_names lines_of
  names_end h = sym (v.due ∙ rw (drop_of_length-le s h))

  module _ (p : ℕ) (q : p ≡ at + to_field_end (drop at s)) where
    -- the next name lacks its byte 10
    pub name_open : at < length s → length s ≤ p → None ≡ check_names view 0 0 (lines_of s)
    unfolding check_names
    name_open h g =
        let n : 0 < length (drop at s) = rw (length-drop at s) (omega arith) in
        let m : length (drop at s) ≤ to_field_end (drop at s) = rw (length-drop at s) (omega arith) in
        sym (v.due ∙ rw (line_open (drop at s) n m))

    -- it has a tab
    pub name_tabbed : p < length s → (get_or s p 0 ≡ 10 → ⊥) → None ≡ check_names view 0 0 (lines_of s)
    name_tabbed h n = sym (v.due ∙ unclean_bad view k x (lines_of (drop at s)) (tabbed_line s at p q h n))

    -- no byte 10 ends it
    pub name_unended : (e : Bool) → at < length s → e ≡ eqb (get_or s p 0) 10 → not e ≡ true → None ≡ check_names view 0 0 (lines_of s)
    name_unended e h e-is n = go (dec_lt p (length s))
      where
        go : Dec (p < length s) → None ≡ check_names view 0 0 (lines_of s)
        go (yes l) = name_tabbed l (λ z. never e (e-is ∙ eq-eqb (get_or s p 0) 10 z) (not-true e n))
        go (no l) = name_open h (omega arith)

    -- it is no role name
    pub name_wrong : (e r : Bool) → e ≡ eqb (get_or s p 0) 10 → not e ≡ false → r ≡ is_role_name (part at p s) → not r ≡ true → None ≡ check_names view 0 0 (lines_of s)
    unfolding check_names
    name_wrong e r e-is m i n = let z = ended_at s p e e-is m in sym (v.due ∙ rw (ended_line s at p q z.0 z.1, ← i, not-true r n))

    -- it is one too many
    pub name_past : (e r : Bool) → e ≡ eqb (get_or s p 0) 10 → not e ≡ false → r ≡ is_role_name (part at p s) → not r ≡ false → 32 ≤ k → None ≡ check_names view 0 0 (lines_of s)
    unfolding check_names
    name_past e r e-is o i n m = let z = ended_at s p e e-is o in sym (v.due ∙ rw (ended_line s at p q z.0 z.1, ← i, not-false r n, le-leb 32 k m))

-- it is read, and its role put in; the result that says that it is a role name comes first, for a search to be told of it
pub name_read : (e r : Bool) (view : View) (s : Text) (k x y at p : ℕ) → Naming view s k x at → p ≡ at + to_field_end (drop at s) → e ≡ eqb (get_or s p 0) 10 → not e ≡ false
    → r ≡ is_role_name (part at p s) → not r ≡ false → k < 32 → y ≡ with_role view x (part at p s) → Naming view s (k + 1) y (p + 1)
unfolding check_names
name_read e r view s k x y at p v q e-is o i n m f =
    let z = ended_at s p e e-is o in
    record { due = v.due ∙ rw (ended_line s at p q z.0 z.1, ← i, not-false r n, lt-leb 32 k m, f, add-one k) }

-- ---- the caller of a login number
module _ (view : View) (t : Text) where
  -- logged in
  pub login_one : (login : ℕ) (r : Option Who) → login ≡ 1 → r ≡ check_names view 0 0 (lines_of t) → r ≡ check_caller view login t
  unfolding check_caller
  login_one login r e f = rw e f

  -- a number that says nothing
  pub login_other : (login : ℕ) → (login ≡ 1 → ⊥) → (login ≡ 0 → ⊥) → None ≡ check_caller view login t
  unfolding check_caller
  login_other zero n m = absurd (m refl)
  login_other (suc zero) n m = absurd (n refl)
  login_other (suc (suc k)) n m = refl

-- not logged in, with names
pub login_named : (view : View) (t : Text) (login : ℕ) → login ≡ 0 → 0 < length t → None ≡ check_caller view login t
unfolding check_caller
login_named view [] login e h = absurd (omega arith)
login_named view (x ∷ xs) login e h = rw e

-- not logged in
pub login_none : (view : View) (t : Text) (login : ℕ) → login ≡ 0 → length t ≤ 0 → Some Nobody ≡ check_caller view login t
unfolding check_caller
login_none view [] login e h = rw e
login_none view (x ∷ xs) login e h = absurd (omega arith)
