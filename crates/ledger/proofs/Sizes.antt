-- How long the listing of the records is: each takes 7 bytes of it at least, so that more of them than have room make a listing that is too long.
use mathlib.Core.Path.{◌≡◌, refl, ap, ◌∙◌}
use mathlib.Core.Bool.{Bool, true, false}
use mathlib.Core.List.{List, [], ◌∷◌, ◌++◌}
use Prim.Native.Nat.{ℕ, suc, ◌+◌, ◌*◌, ◌≤◌, ◌<◌}
use native.Mathlib.Omega.{arith}
use lib.ListN.{length, length-append}
use lib.Dec.{leb}
use borrow.Author.Tests.{leb-true}
use Rattle.text.specs.Texts.{Text, bytes, newline, all}
use Rattle.text.specs.Bytes.{is_text, is_token, between}
use Rattle.text.proofs.Truths.{never, and_left}
use Rattle.text.proofs.Indices.{length_snoc}
use Rattle.limits.specs.Limits.{most_bytes}
use Rattle.names.specs.Names.{made_of, is_name, is_role_name, is_method_name}
use Rattle.listings.specs.Records.{Record, is_kind}
use Rattle.listings.specs.Fields.{name_fits}
use Rattle.listings.specs.declared.records.Kind.{Kind}
use Rattle.listings.specs.declared.records.Kind.TheVariants.{Role, Constraint, Allow, Collection, Pattern, Method, Omit, End}
use Rattle.portals.specs.Records.{record_of}
use Rattle.portals.specs.Listings.{roles_first, allows, blocks, arranged, head_of, line_of, lines_text, listing_text, written}
use Rattle.ledger.specs.Ledgers.{most_kept}

-- ---- one line
made_full : (class : ℕ → Bool) (hi : ℕ) (t : Text) → made_of class 1 hi t ≡ true → 1 ≤ length t
made_full class hi t y = leb-true 1 (length t) (and_left (leb 1 (length t)) (leb (length t) hi) (and_left (between 1 hi (length t)) (all class t) y))

line_length : (k : Kind) (t : Text) → length (line_of (record_of k t)) ≡ length (head_of k) + (length t + 1)
unfolding line_of
line_length k t =
    let a : length (line_of (record_of k t)) ≡ suc (length (head_of k ++ t)) = length_snoc (head_of k ++ t) newline in
    let b = length-append (head_of k) t in
    omega arith

line_long : (k : Kind) (t : Text) → name_fits (record_of k t) ≡ true → is_kind End (record_of k t) ≡ false → 7 ≤ length (line_of (record_of k t))
unfolding name_fits is_role_name is_name is_method_name
line_long Role t h e = rw (line_length Role t) (let l = made_full is_text 64 t (and_left _ _ (and_left (is_name t) _ h)) in omega arith)
line_long Constraint t h e = rw (line_length Constraint t) (omega arith)
line_long Allow t h e = rw (line_length Allow t) (let l = made_full is_text 64 t (and_left _ _ h) in omega arith)
line_long Collection t h e = rw (line_length Collection t) (omega arith)
line_long Pattern t h e = rw (line_length Pattern t) (omega arith)
line_long Method t h e = rw (line_length Method t) (omega arith)
line_long Omit t h e = rw (line_length Omit t) (let l = made_full is_token 24 t h in omega arith)
line_long End t h e = absurd (never true refl e)

-- ---- all lines
-- records that have lines: each name is good, and none ends the listing
abbrev pub Lined : List Record → Type 0
Lined [] = Unit {0}
Lined (r ∷ rs) = (name_fits r ≡ true) × (is_kind End r ≡ false) × Lined rs

abbrev size : List Record → ℕ
size rs = length (lines_text rs)

size_cons : (r : Record) (rs : List Record) → size (r ∷ rs) ≡ length (line_of r) + size rs
unfolding lines_text
size_cons r rs = length-append (line_of r) (lines_text rs)

size_append : (rs qs : List Record) → size (rs ++ qs) ≡ size rs + size qs
unfolding lines_text
size_append [] qs = omega arith
size_append (r ∷ rs) qs = size_cons r (rs ++ qs) ∙ (let e = size_append rs qs in let f = size_cons r rs in omega arith)

-- roles go first, the allowed names up to the next constraint go before all else, and nothing is lost
sizes : (rs : List Record) → Lined rs → 7 * length rs ≤ size (roles_first rs) + (size (allows rs) + size (blocks rs))
unfolding roles_first allows blocks
sizes [] l = omega arith
sizes (r ∷ rs) l = go r.kind r.field l.0 l.1 (sizes rs l.2)
  where
    go : (k : Kind) (t : Text) → name_fits (record_of k t) ≡ true → is_kind End (record_of k t) ≡ false → 7 * length rs ≤ size (roles_first rs) + (size (allows rs) + size (blocks rs))
        → 7 * suc (length rs) ≤ size (roles_first (record_of k t ∷ rs)) + (size (allows (record_of k t ∷ rs)) + size (blocks (record_of k t ∷ rs)))
    go Role t h e again = let a = line_long Role t h e in let b = size_cons (record_of Role t) (roles_first rs) in omega arith
    go Constraint t h e again =
        let a = line_long Constraint t h e in
        let b = size_cons (record_of Constraint t) (allows rs ++ blocks rs) in
        let c = size_append (allows rs) (blocks rs) in
        omega arith
    go Allow t h e again = let a = line_long Allow t h e in let b = size_cons (record_of Allow t) (allows rs) in omega arith
    go Collection t h e again = let a = line_long Collection t h e in let b = size_cons (record_of Collection t) (blocks rs) in omega arith
    go Pattern t h e again = let a = line_long Pattern t h e in let b = size_cons (record_of Pattern t) (blocks rs) in omega arith
    go Method t h e again = let a = line_long Method t h e in let b = size_cons (record_of Method t) (blocks rs) in omega arith
    go Omit t h e again = let a = line_long Omit t h e in let b = size_cons (record_of Omit t) (blocks rs) in omega arith
    go End t h e again = absurd (never true refl e)

-- no name is allowed before the first constraint
pub listing_long : (rs : List Record) → Lined rs → allows rs ≡ [] → 7 * length rs ≤ length (written rs)
unfolding written listing_text arranged lines_text
listing_long rs l e =
    let a = sizes rs l in
    let b = size_append (roles_first rs) (blocks rs) in
    let c : size (allows rs) ≡ 0 = ap size e in
    rw (length-append (bytes "constraints\t1" ++ newline ∷ []) (lines_text (arranged rs) ++ bytes "end\n"), length-append (lines_text (arranged rs)) (bytes "end\n")) (omega arith)

-- more records than have room are over 24,576 bytes
pub past_room : (rs : List Record) → Lined rs → allows rs ≡ [] → most_kept < length rs → most_bytes < length (written rs)
past_room rs l e h = let a = listing_long rs l e in omega arith
