-- A text cut at its tabs and bytes 10: what the next line is, and its record.
-- Assumes nothing.
use mathlib.Core.Path.{◌≡◌, refl, sym, ap, ◌∙◌}
use mathlib.Core.Bool.{Bool, true, false, ◌||◌}
use mathlib.Core.List.{List, [], ◌∷◌, ◌++◌, append-nil}
use mathlib.Core.Option.{Option, none}
use Prim.Native.Nat.{ℕ, suc, ◌+◌, ◌-◌, ◌≤◌, ◌<◌}
use native.Mathlib.Nat.{add-sub_cancel_left}
use native.Mathlib.Numerals.{add-one}
use native.Mathlib.Omega.{arith}
use lib.ListN.{length, take, drop, get_or, length-drop, take-append-drop, drop_of_length-le}
use lib.Seq.{get_or-drop, drop-cons, drop-drop}
use lib.Dec.{eqb}
use borrow.Author.Tests.{ne_eqb, eqb-true}
use Rattle.text.specs.Texts.{Text, tab, newline, part}
use Rattle.text.specs.Lines.{Line, before, lines_of, in_first, fields_of, to_field_end}
use Rattle.listings.specs.declared.answers.Fault.TheVariants.{BadForm}
use Rattle.entries.specs.Tables.{Tables}
use Rattle.reading.specs.Fillings.{bad, line_with, line_from}
use Rattle.listings.specs.Records.{Record, alone, with_field, record_named, record_of, formed}
use Rattle.text.proofs.Truths.{never, or_left, or_right}

-- neither a tab nor a byte 10
abbrev pub stops : ℕ → Bool
stops x = eqb x tab || eqb x newline

-- a field: no byte of it stops it
pub data Field : Text → Type 0 where
  none_left : Field []
  one_more_lem : {x : ℕ} {xs : Text} → stops x ≡ false → Field xs → Field (x ∷ xs)

-- bytes put before the first line
glue : Text → List Line → List Line
glue [] ls = ls
glue (x ∷ xs) ls = before x (glue xs ls)

lines_nil : lines_of [] ≡ []
unfolding lines_of
lines_nil = refl

-- ---- a field and what follows it
lines_glue : {f : Text} → Field f → (r : Text) → lines_of (f ++ r) ≡ glue f (lines_of r)
unfolding lines_of glue
lines_glue none_left r = refl
lines_glue (one_more_lem {x} {xs} k h) r = rw (or_right (eqb x tab) (eqb x newline) k, lines_glue h r)

glue_cons : (f : Text) (l : Line) (ls : List Line) → glue f (l ∷ ls) ≡ record { bytes = f ++ l.bytes; ended = l.ended } ∷ ls
unfolding glue before
glue_cons [] l ls = refl
glue_cons (x ∷ xs) l ls = rw (glue_cons xs l ls)

glue_none : (x : ℕ) (f : Text) → glue (x ∷ f) [] ≡ record { bytes = x ∷ f; ended = false } ∷ []
unfolding glue before
glue_none x [] = refl
glue_none x (y ∷ f) = rw (glue_none y f)

field_alone : {f : Text} → Field f → fields_of f ≡ f ∷ []
unfolding fields_of in_first
field_alone none_left = refl
field_alone (one_more_lem {x} {xs} k h) = rw (or_left (eqb x tab) (eqb x newline) k, field_alone h)

field_tab : {f : Text} → Field f → (r : Text) → fields_of (f ++ tab ∷ r) ≡ f ∷ fields_of r
unfolding fields_of in_first
field_tab none_left r = refl
field_tab (one_more_lem {x} {xs} k h) r = rw (or_left (eqb x tab) (eqb x newline) k, field_tab h r)

fields_some : (t : Text) → (f : Text) × (fs : List Text) × (fields_of t ≡ f ∷ fs)
unfolding fields_of in_first
fields_some [] = ([], [], refl)
fields_some (x ∷ xs) = go (eqb x tab) refl (fields_some xs)
  where
    go : (b : Bool) → eqb x tab ≡ b → (f : Text) × (fs : List Text) × (fields_of xs ≡ f ∷ fs) → (f : Text) × (fs : List Text) × (fields_of (x ∷ xs) ≡ f ∷ fs)
    go true e (f, fs, h) = ([], fields_of xs, rw e)
    go false e (f, fs, h) = (x ∷ f, fs, rw (e, h))

-- ---- the next line, by how its fields end
-- one field, and a byte 10
line_of_one : {f : Text} → Field f → (r : Text) → lines_of (f ++ newline ∷ r) ≡ record { bytes = f; ended = true } ∷ lines_of r
unfolding lines_of
line_of_one {f} h r = lines_glue h (newline ∷ r) ∙ glue_cons f (record { bytes = []; ended = true }) (lines_of r) ∙ rw (append-nil f)

-- one field, and nothing
line_of_none : {f : Text} → Field f → 0 < length f → lines_of f ≡ record { bytes = f; ended = false } ∷ []
unfolding lines_of
line_of_none none_left p = absurd (omega arith)
line_of_none (one_more_lem {x} {xs} k h) p = ap lines_of (sym (append-nil (x ∷ xs))) ∙ lines_glue (one_more_lem k h) [] ∙ glue_none x xs

-- a tab behind the first field
lines_tab : {f : Text} → Field f → (r : Text) (l : Line) (ls : List Line) → lines_of r ≡ l ∷ ls
    → lines_of (f ++ tab ∷ r) ≡ record { bytes = f ++ tab ∷ l.bytes; ended = l.ended } ∷ ls
unfolding lines_of before
lines_tab {f} h r l ls e = lines_glue h (tab ∷ r) ∙ rw e (glue_cons f (record { bytes = tab ∷ l.bytes; ended = l.ended }) ls)

lines_tab_none : {f : Text} → Field f → (r : Text) → lines_of r ≡ [] → lines_of (f ++ tab ∷ r) ≡ record { bytes = f ++ tab ∷ []; ended = false } ∷ []
unfolding lines_of before
lines_tab_none {f} h r e = lines_glue h (tab ∷ r) ∙ rw e (glue_cons f (record { bytes = tab ∷ []; ended = false }) [])

-- ---- its record
formed_one : {f : Text} → Field f → formed (record { bytes = f; ended = true }) ≡ record_named (alone f) []
unfolding formed record_of
formed_one h = rw (field_alone h)

formed_two : {f g : Text} → Field f → Field g → formed (record { bytes = f ++ tab ∷ g; ended = true }) ≡ record_named (with_field f) g
unfolding formed record_of
formed_two {f} {g} h k = rw (field_tab h g, field_alone k)

formed_unended : (t : Text) → formed (record { bytes = t; ended = false }) ≡ none
unfolding formed
formed_unended t = refl

formed_third : {f g : Text} → Field f → Field g → (t : Text) (b : Bool) → formed (record { bytes = f ++ tab ∷ (g ++ tab ∷ t); ended = b }) ≡ none
unfolding formed record_of
formed_third {f} {g} h k t true = let s = fields_some t in rw (field_tab h (g ++ tab ∷ t), field_tab k t, s.2)
formed_third h k t false = refl

-- what the first line comes to
line_is : (T : Tables) (t : Text) (l : Line) (ls : List Line) (r : Option Record) → lines_of t ≡ l ∷ ls → formed l ≡ r → line_from T (lines_of t) ≡ line_with T r ls
unfolding line_from
line_is T t l ls r e f = ap (line_from T) e ∙ ap (λ (x : Option Record). line_with T x ls) f

-- ---- the field at an offset of the text
-- where a field stops, a byte stops it
stop_byte : (t : Text) → to_field_end t < length t → stops (get_or t (to_field_end t) 0) ≡ true
unfolding to_field_end
stop_byte [] h = absurd (omega arith)
stop_byte (x ∷ xs) h = go (stops x) refl h (stop_byte xs)
  where
    go : (b : Bool) → stops x ≡ b → to_field_end (x ∷ xs) < length (x ∷ xs) → (to_field_end xs < length xs → stops (get_or xs (to_field_end xs) 0) ≡ true) → stops (get_or (x ∷ xs) (to_field_end (x ∷ xs)) 0) ≡ true
    go true e k ih = rw e e
    go false e k ih =
        let m : suc (to_field_end xs) < suc (length xs) = rw e at k in
        rw e (ih (omega arith))

field_taken : (t : Text) → Field (take (to_field_end t) t)
unfolding to_field_end
field_taken [] = none_left
field_taken (x ∷ xs) = go (stops x) refl (field_taken xs)
  where
    go : (b : Bool) → stops x ≡ b → Field (take (to_field_end xs) xs) → Field (take (to_field_end (x ∷ xs)) (x ∷ xs))
    go true e h = rw e none_left
    go false e h = rw e (one_more_lem e h)

module _ (s : Text) (at p : ℕ) (q : p ≡ at + to_field_end (drop at s)) where
  pub field_cut : Field (part at p s)
  field_cut = rw (q, add-sub_cancel_left) (field_taken (drop at s))

  field_then : drop at s ≡ part at p s ++ drop p s
  field_then = sym (rw (q, add-sub_cancel_left, ← drop-drop (to_field_end (drop at s)) at s) (take-append-drop (to_field_end (drop at s)) (drop at s)))

  field_stop : p < length s → stops (get_or s p 0) ≡ true
  field_stop h =
      let k : to_field_end (drop at s) < length (drop at s) = rw (length-drop at s) (omega arith) in
      rw (q, ← get_or-drop at s (to_field_end (drop at s)) 0) (stop_byte (drop at s) k)

  -- a byte that stops a field and isn't 10 is a tab
  field_tab_stop : p < length s → (get_or s p 0 ≡ 10 → ⊥) → get_or s p 0 ≡ 9
  field_tab_stop h n = go (eqb (get_or s p 0) tab) refl (rw (ne_eqb (get_or s p 0) 10 n) at (field_stop h))
    where
      go : (b : Bool) → eqb (get_or s p 0) tab ≡ b → (eqb (get_or s p 0) tab || false) ≡ true → get_or s p 0 ≡ 9
      go true e k = eqb-true (get_or s p 0) tab e
      go false e k = absurd (never false (rw e at k) refl)

  pub field_newline : p < length s → get_or s p 0 ≡ 10 → drop at s ≡ part at p s ++ newline ∷ drop (p + 1) s
  field_newline h e = field_then ∙ rw (drop-cons s p 0 h, e, add-one p)

  pub field_tabbed : p < length s → (get_or s p 0 ≡ 10 → ⊥) → drop at s ≡ part at p s ++ tab ∷ drop (p + 1) s
  field_tabbed h n = field_then ∙ rw (drop-cons s p 0 h, field_tab_stop h n, add-one p)

  field_last : length s ≤ p → drop at s ≡ part at p s
  field_last h = field_then ∙ rw (drop_of_length-le s h) (append-nil (part at p s))

  -- ---- the line at an offset of the text
  module _ (T : Tables) (h : at < length s) where
    pub line_unended : length s ≤ p → line_from T (lines_of (drop at s)) ≡ bad BadForm
    line_unended g =
        let k : 0 < length (drop at s) = rw (length-drop at s) (omega arith) in
        let l : 0 < length (part at p s) = omega (arith, ap length (field_last g)) in
        line_is T (drop at s) (record { bytes = part at p s; ended = false }) [] none (ap lines_of (field_last g) ∙ line_of_none field_cut l) (formed_unended (part at p s))

    pub line_alone : p < length s → get_or s p 0 ≡ 10 → line_from T (lines_of (drop at s)) ≡ line_with T (record_named (alone (part at p s)) []) (lines_of (drop (p + 1) s))
    line_alone g e =
        line_is T (drop at s) (record { bytes = part at p s; ended = true }) (lines_of (drop (p + 1) s)) (record_named (alone (part at p s)) [])
        (ap lines_of (field_newline g e) ∙ line_of_one field_cut (drop (p + 1) s)) (formed_one field_cut)

-- an empty part
pub part_none : (s : Text) (p : ℕ) → part p p s ≡ []
part_none s p = let z : p - p ≡ 0 = omega arith in rw z

-- ---- the line at an offset of the text, with a tab behind its first field
module _ (s : Text) (at p e : ℕ) (q : p ≡ at + to_field_end (drop at s)) (h : p < length s) (n : get_or s p 0 ≡ 10 → ⊥) (k : e ≡ p + 1 + to_field_end (drop (p + 1) s)) (T : Tables) where
  first_field : Field (part at p s)
  first_field = field_cut s at p q

  second_field : Field (part (p + 1) e s)
  second_field = field_cut s (p + 1) e k

  pub line_unended_second : length s ≤ e → line_from T (lines_of (drop at s)) ≡ bad BadForm
  line_unended_second g = go (part (p + 1) e s) refl
    where
      go : (f : Text) → part (p + 1) e s ≡ f → line_from T (lines_of (drop at s)) ≡ bad BadForm
      go [] z =
          line_is T (drop at s) (record { bytes = part at p s ++ tab ∷ []; ended = false }) [] none
          (ap lines_of (field_tabbed s at p q h n) ∙ lines_tab_none first_field (drop (p + 1) s) (ap lines_of (field_last s (p + 1) e k g ∙ z) ∙ lines_nil))
          (formed_unended (part at p s ++ tab ∷ []))
      go (x ∷ xs) z =
          let l : 0 < length (part (p + 1) e s) = rw z (omega arith) in
          line_is T (drop at s) (record { bytes = part at p s ++ tab ∷ part (p + 1) e s; ended = false }) [] none
          (ap lines_of (field_tabbed s at p q h n) ∙ lines_tab first_field (drop (p + 1) s) (record { bytes = part (p + 1) e s; ended = false }) [] (ap lines_of (field_last s (p + 1) e k g) ∙ line_of_none second_field l))
          (formed_unended (part at p s ++ tab ∷ part (p + 1) e s))

  pub line_two : e < length s → get_or s e 0 ≡ 10 → line_from T (lines_of (drop at s)) ≡ line_with T (record_named (with_field (part at p s)) (part (p + 1) e s)) (lines_of (drop (e + 1) s))
  line_two g z =
      line_is T (drop at s) (record { bytes = part at p s ++ tab ∷ part (p + 1) e s; ended = true }) (lines_of (drop (e + 1) s)) (record_named (with_field (part at p s)) (part (p + 1) e s))
      (ap lines_of (field_tabbed s at p q h n) ∙ lines_tab first_field (drop (p + 1) s) (record { bytes = part (p + 1) e s; ended = true }) (lines_of (drop (e + 1) s)) (ap lines_of (field_newline s (p + 1) e k g z) ∙ line_of_one second_field (drop (e + 1) s)))
      (formed_two first_field second_field)

  -- a second tab
  pub line_third : e < length s → (get_or s e 0 ≡ 10 → ⊥) → line_from T (lines_of (drop at s)) ≡ bad BadForm
  line_third g m =
      let rest : Text = drop (e + 1) s in
      go (lines_of rest) refl
    where
      go : (ls : List Line) → lines_of (drop (e + 1) s) ≡ ls → line_from T (lines_of (drop at s)) ≡ bad BadForm
      go [] z =
          line_is T (drop at s) (record { bytes = part at p s ++ tab ∷ (part (p + 1) e s ++ tab ∷ []); ended = false }) [] none
          (ap lines_of (field_tabbed s at p q h n) ∙ lines_tab first_field (drop (p + 1) s) (record { bytes = part (p + 1) e s ++ tab ∷ []; ended = false }) [] (ap lines_of (field_tabbed s (p + 1) e k g m) ∙ lines_tab_none second_field (drop (e + 1) s) z))
          (formed_third first_field second_field [] false)
      go (l ∷ ls) z =
          line_is T (drop at s) (record { bytes = part at p s ++ tab ∷ (part (p + 1) e s ++ tab ∷ l.bytes); ended = l.ended }) ls none
          (ap lines_of (field_tabbed s at p q h n) ∙ lines_tab first_field (drop (p + 1) s) (record { bytes = part (p + 1) e s ++ tab ∷ l.bytes; ended = l.ended }) ls (ap lines_of (field_tabbed s (p + 1) e k g m) ∙ lines_tab second_field (drop (e + 1) s) l ls z))
          (formed_third first_field second_field l.bytes l.ended)
