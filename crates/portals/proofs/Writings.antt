-- The text of a listing and its records: each record is the record of its line, and a listing whose records break no rule is accepted.
use mathlib.Core.Path.{◌≡◌, refl, sym, ap, ◌∙◌}
use mathlib.Core.Bool.{Bool, true, false, not, cond, ◌||◌}
use mathlib.Core.List.{List, [], ◌∷◌, ◌++◌, map, append_assoc, append-nil}
use mathlib.Core.Option.{none, some}
use Prim.Native.Nat.{ℕ, suc, ◌≤◌}
use lib.ListN.{length, drop}
use lib.Seq.{append_snoc}
use lib.Dec.{eqb}
use borrow.Author.Tests.{eqb-true, le-ltb}
use Rattle.text.specs.Texts.{Text, bytes, tab, newline, same, all}
use Rattle.text.specs.Bytes.{between, is_text, is_token}
use Rattle.text.specs.Lines.{Line, before, lines_of, in_first, fields_of}
use Rattle.text.proofs.Truths.{never, not_so, and_left, and_right}
use Rattle.text.proofs.Spans.{same_equal}
use Rattle.names.specs.Names.{made_of, is_name, is_role_name, is_method_name, is_pattern, is_constraint_kind, is_star}
use Rattle.limits.specs.Limits.{most_bytes}
use Rattle.listings.specs.Records.{Record, alone, with_field, formed, is_kind}
use Rattle.listings.specs.Records as records
use Rattle.listings.specs.Fields.{name_fits, pattern_fits}
use Rattle.listings.specs.Refusals.{accepted, first_line, first_broken, after_end, read_from, read_lines, reading_of}
use Rattle.listings.specs.Listings.{records_in, records_of}
use Rattle.listings.proofs.Sound.{Passes, first_broken_lem}
use Rattle.listings.specs.declared.records.Kind.{Kind}
use Rattle.listings.specs.declared.records.Kind.TheVariants.{Role, Constraint, Allow, Collection, Pattern, Method, Omit, End}
use Rattle.portals.specs.Records.{record_of}
use Rattle.portals.specs.Listings.{head_of, line_of, lines_text, listing_text}
use Rattle.portals.proofs.Eaches.{Each}

-- ---- texts without tabs and bytes 10
abbrev IsClean : ℕ → Type 0
IsClean x = (eqb x tab ≡ false) × (eqb x newline ≡ false)

abbrev pub Clean : Text → Type 0
Clean t = Each IsClean t

-- bytes of a class that has neither
clean_class : (class : ℕ → Bool) → class 9 ≡ false → class 10 ≡ false → (t : Text) → all class t ≡ true → Clean t
unfolding all
clean_class class e f [] h = tt
clean_class class e f (x ∷ xs) h =
    ((without 9 e, without 10 f), clean_class class e f xs (and_right (class x) (all class xs) h))
  where
    without : (n : ℕ) → class n ≡ false → eqb x n ≡ false
    without n g = not_so (eqb x n) (λ d. never (class x) (and_left (class x) (all class xs) h) (ap class (eqb-true x n d) ∙ g))

clean_made : (class : ℕ → Bool) → class 9 ≡ false → class 10 ≡ false → (lo hi : ℕ) (t : Text) → made_of class lo hi t ≡ true → Clean t
clean_made class e f lo hi t h = clean_class class e f t (and_right (between lo hi (length t)) (all class t) h)

name_clean : (t : Text) → is_name t ≡ true → Clean t
unfolding is_name is_text
name_clean t h = clean_made is_text refl refl 1 64 t (and_left (made_of is_text 1 64 t) _ h)

method_clean : (t : Text) → is_method_name t ≡ true → Clean t
unfolding is_method_name is_token
method_clean t h = clean_made is_token refl refl 1 24 t h

pattern_clean : (t : Text) → is_pattern t ≡ true → Clean t
unfolding is_pattern is_text
pattern_clean t h = clean_made is_text refl refl 0 255 t (and_left (made_of is_text 0 255 t) _ h)

kind_clean : (t : Text) → is_constraint_kind t ≡ true → Clean t
unfolding is_constraint_kind
kind_clean t h = go (same t (bytes "open")) (same t (bytes "auth")) refl refl h
  where
    go : (a b : Bool) → same t (bytes "open") ≡ a → same t (bytes "auth") ≡ b → a || b ≡ true → Clean t
    go true b d e g = rw (same_equal t (bytes "open") d) ((refl, refl), ((refl, refl), ((refl, refl), ((refl, refl), tt))))
    go false true d e g = rw (same_equal t (bytes "auth") e) ((refl, refl), ((refl, refl), ((refl, refl), ((refl, refl), tt))))
    go false false d e g = absurd (never false g refl)

-- ---- records that a line can hold
-- a field that a line can hold; and no field behind `collection` and `end`
pub record Writable (r : Record) : Type 0 where
  pub clean : Clean r.field
  pub bare : is_kind Collection r || is_kind End r ≡ true → r.field ≡ []

-- good names and patterns are such fields
pub writable : (r : Record) → name_fits r ≡ true → pattern_fits r ≡ true → (is_kind Collection r || is_kind End r ≡ true → r.field ≡ []) → Writable r
unfolding name_fits pattern_fits is_role_name
writable r n p b = record { clean = go r.kind r.field n p b; bare = b }
  where
    go : (k : Kind) (f : Text) → name_fits (record_of k f) ≡ true → pattern_fits (record_of k f) ≡ true
        → (is_kind Collection (record_of k f) || is_kind End (record_of k f) ≡ true → f ≡ []) → Clean f
    go Role f n p b = name_clean f (and_left (is_name f) (not (is_star f)) n)
    go Constraint f n p b = kind_clean f n
    go Allow f n p b = name_clean f n
    go Collection f n p b = rw (b refl) tt
    go Pattern f n p b = pattern_clean f p
    go Method f n p b = method_clean f n
    go Omit f n p b = method_clean f n
    go End f n p b = rw (b refl) tt

pub end_writable : Writable (record_of End [])
end_writable = record { clean = tt; bare = λ e. refl }

-- ---- the line of a record
abbrev line_for : Record → Line
line_for r = record { bytes = head_of r.kind ++ r.field; ended = true }

-- has the record
field_alone : (t : Text) → Clean t → fields_of t ≡ t ∷ []
unfolding fields_of in_first
field_alone [] c = refl
field_alone (x ∷ xs) c = rw (c.0.0, field_alone xs c.1)

formed_line : (r : Record) → Writable r → formed (line_for r) ≡ some r
unfolding formed records.record_of alone with_field fields_of in_first same
formed_line r w = go r.kind r.field w.clean w.bare
  where
    go : (k : Kind) (f : Text) → Clean f → (is_kind Collection (record_of k f) || is_kind End (record_of k f) ≡ true → f ≡ []) → formed (line_for (record_of k f)) ≡ some (record_of k f)
    go Role f c b = rw (field_alone f c)
    go Constraint f c b = rw (field_alone f c)
    go Allow f c b = rw (field_alone f c)
    go Collection f c b = rw (b refl)
    go Pattern f c b = rw (field_alone f c)
    go Method f c b = rw (field_alone f c)
    go Omit f c b = rw (field_alone f c)
    go End f c b = rw (b refl)

-- ---- the lines of a listing
-- a line and what follows it
line_ended : (u t : Text) → Clean u → lines_of (u ++ newline ∷ t) ≡ record { bytes = u; ended = true } ∷ lines_of t
unfolding lines_of before
line_ended [] t c = refl
line_ended (x ∷ xs) t c = rw (c.0.1, line_ended xs t c.1)

head_newline : (k : Kind) (f t : Text) → Clean f → lines_of (head_of k ++ f ++ newline ∷ t) ≡ record { bytes = head_of k ++ f; ended = true } ∷ lines_of t
unfolding lines_of before
head_newline Role f t c = rw (line_ended f t c)
head_newline Constraint f t c = rw (line_ended f t c)
head_newline Allow f t c = rw (line_ended f t c)
head_newline Collection f t c = rw (line_ended f t c)
head_newline Pattern f t c = rw (line_ended f t c)
head_newline Method f t c = rw (line_ended f t c)
head_newline Omit f t c = rw (line_ended f t c)
head_newline End f t c = rw (line_ended f t c)

lines_listed : (rs : List Record) → Each Writable rs → lines_of (lines_text rs ++ bytes "end\n") ≡ map line_for rs ++ line_for (record_of End []) ∷ []
unfolding lines_text line_of lines_of before
lines_listed [] h = refl
lines_listed (r ∷ rs) h =
    ap lines_of (append_assoc (line_of r) (lines_text rs) (bytes "end\n") ∙ append_snoc (head_of r.kind ++ r.field) newline (lines_text rs ++ bytes "end\n"))
    ∙ head_newline r.kind r.field (lines_text rs ++ bytes "end\n") h.0.clean
    ∙ ap (λ (ls : List Line). line_for r ∷ ls) (lines_listed rs h.1)

-- all of them
pub lines_text_lem : (rs : List Record) → Each Writable rs
    → lines_of (listing_text rs) ≡ record { bytes = first_line; ended = true } ∷ (map line_for rs ++ line_for (record_of End []) ∷ [])
unfolding listing_text lines_of before
lines_text_lem rs h = ap (λ (ls : List Line). record { bytes = first_line; ended = true } ∷ ls) (lines_listed rs h)

-- ---- its records
record_first : (l : Line) (ls : List Line) (r : Record) → formed l ≡ some r → records_in (l ∷ ls) ≡ r ∷ records_in ls
unfolding records_in
record_first l ls r e = rw (e, records_in)

records_of_lines : (rs : List Record) → Each Writable rs → records_in (map line_for rs ++ line_for (record_of End []) ∷ []) ≡ rs ++ record_of End [] ∷ []
unfolding records_in
records_of_lines [] h = record_first (line_for (record_of End [])) [] (record_of End []) (formed_line (record_of End []) end_writable)
records_of_lines (r ∷ rs) h = record_first (line_for r) (map line_for rs ++ line_for (record_of End []) ∷ []) r (formed_line r h.0) ∙ ap (λ (x : List Record). r ∷ x) (records_of_lines rs h.1)

-- the records of the text are those that it was made of, and `end`
pub records_text : (rs : List Record) → Each Writable rs → records_of (listing_text rs) ≡ rs ++ record_of End [] ∷ []
unfolding records_of
records_text rs h = ap (λ (ls : List Line). records_in (drop 1 ls)) (lines_text_lem rs h) ∙ records_of_lines rs h

-- ---- it is accepted
-- records that a line can hold, none of them `end`, each of which breaks no rule behind those before it, nor does `end` behind them all
pub record Lawful (rs : List Record) : Type 0 where
  pub writes : Each Writable rs
  pub unended : Each (λ (r : Record). is_kind End r ≡ false) rs
  pub passes : (before after : List Record) (r : Record) → rs ≡ before ++ r ∷ after → Passes before r
  pub ends : Passes rs (record_of End [])

passes_none : (before : List Record) (r : Record) → Passes before r → first_broken before r ≡ none
passes_none before r p = first_broken_lem before r ∙ rw (p.stage, p.name, p.pattern, p.once, p.few)

-- a line whose record breaks no rule
read_line : (before : List Record) (n : ℕ) (l : Line) (ls : List Line) (r : Record) → formed l ≡ some r → first_broken before r ≡ none
    → read_from before n (l ∷ ls) ≡ cond (is_kind End r) (after_end (suc n) ls) (read_from (before ++ r ∷ []) (suc n) ls)
unfolding read_from
read_line before n l ls r e f = rw (e, f, read_from)

read_end : (before : List Record) (n : ℕ) → Passes before (record_of End []) → read_from before n (line_for (record_of End []) ∷ []) ≡ accepted
read_end before n p =
    read_line before n (line_for (record_of End [])) [] (record_of End []) (formed_line (record_of End []) end_writable) (passes_none before (record_of End []) p)

read_next : (before : List Record) (n : ℕ) (r : Record) (ls : List Line) → Writable r → is_kind End r ≡ false → Passes before r
    → read_from before n (line_for r ∷ ls) ≡ read_from (before ++ r ∷ []) (suc n) ls
read_next before n r ls w e p =
    read_line before n (line_for r) ls r (formed_line r w) (passes_none before r p)
    ∙ ap (λ (b : Bool). cond b (after_end (suc n) ls) (read_from (before ++ r ∷ []) (suc n) ls)) e

read_on_lem : (rs before after : List Record) → Lawful rs → rs ≡ before ++ after → Each Writable after → Each (λ (r : Record). is_kind End r ≡ false) after → (n : ℕ)
    → read_from before n (map line_for after ++ line_for (record_of End []) ∷ []) ≡ accepted
read_on_lem rs before [] l e w u n =
    let f : rs ≡ before = e ∙ append-nil before in
    read_end before n (rw f at l.ends)
read_on_lem rs before (r ∷ after) l e w u n =
    read_next before n r _ w.0 u.0 (l.passes before after r e)
    ∙ read_on_lem rs (before ++ r ∷ []) after l (e ∙ sym (append_snoc before r after)) w.1 u.1 (suc n)

pub lawful_accepted : (rs : List Record) → Lawful rs → length (listing_text rs) ≤ most_bytes → reading_of (listing_text rs) ≡ accepted
unfolding reading_of read_lines same
lawful_accepted rs l h =
    rw (le-ltb most_bytes (length (listing_text rs)) h, lines_text_lem rs l.writes) (read_on_lem rs [] rs l refl l.writes l.unended 2)
