-- How long a listing can be.
use mathlib.Core.Path.{◌≡◌, sym, ap, ◌∙◌}
use mathlib.Core.Bool.{true}
use mathlib.Core.List.{List, [], ◌∷◌, ◌++◌, append_assoc}
use Prim.Native.Nat.{ℕ, suc, ◌+◌, ◌*◌, ◌≤◌}
use native.Mathlib.Omega.{arith}
use lib.Dec.{leb}
use borrow.Author.Tests.{leb-true}
use lib.ListN.{length, length-append}
use lib.Seq.{sets}
use Rattle.text.specs.Texts.{Text, bytes, newline}
use Rattle.text.proofs.Truths.{and_left, and_right}
use Rattle.writing.proofs.Puts.{sets_then}
use Rattle.listings.specs.Records.{Record}
use Rattle.listings.specs.Refusals.{first_line}
use Rattle.listings.specs.declared.records.Kind.{Kind}
use Rattle.listings.specs.declared.records.Kind.TheVariants.{Role, Constraint, Allow, Collection, Pattern, Method, Omit, End}
use Rattle.portals.specs.Records.{record_of}
use Rattle.portals.specs.Listings.{head_of, line_of, lines_text, roles_first, allows, blocks, arranged, listing_text, written}
use Rattle.ledger.specs.Places.{records_at}
use Rattle.forming.specs.Formed.{fields_fit, Formed}
use Rattle.forming.proofs.Pieces.{head_short, line_is}
use Rattle.forming.proofs.Orders.{record_count, lines_append}

-- a line has 267 bytes at most
line_short : (r : Record) → length r.field ≤ 255 → length (line_of r) ≤ 267
line_short r h =
    let l = head_short r.kind in
    let i = ap length (line_is r) in
    let p = length-append (head_of r.kind) (r.field ++ newline ∷ []) in
    let q = length-append r.field (newline ∷ []) in
    omega arith

-- each record stands once at most
abbrev all_of : List Record → ℕ
all_of rs = length (lines_text (roles_first rs)) + length (lines_text (allows rs)) + length (lines_text (blocks rs))

fits_first : (r : Record) (rs : List Record) → fields_fit (r ∷ rs) ≡ true → length r.field ≤ 255
unfolding fields_fit
fits_first r rs e = leb-true (length r.field) 255 (and_left (leb (length r.field) 255) (fields_fit rs) e)

fits_rest : (r : Record) (rs : List Record) → fields_fit (r ∷ rs) ≡ true → fields_fit rs ≡ true
unfolding fields_fit
fits_rest r rs e = and_right (leb (length r.field) 255) (fields_fit rs) e

one_more_lem : (rs : List Record) (k : Kind) (f : Text) → length (line_of (record_of k f)) ≤ 267 → all_of rs ≤ 267 * length rs → all_of (record_of k f ∷ rs) ≤ 267 * suc (length rs)
unfolding lines_text roles_first allows blocks
one_more_lem rs Role f l i = let p = length-append (line_of (record_of Role f)) (lines_text (roles_first rs)) in omega arith
one_more_lem rs Constraint f l i =
    let p = length-append (line_of (record_of Constraint f)) (lines_text (allows rs ++ blocks rs)) in
    let q : length (lines_text (allows rs ++ blocks rs)) ≡ length (lines_text (allows rs)) + length (lines_text (blocks rs)) = ap length (lines_append (allows rs) (blocks rs)) ∙ length-append (lines_text (allows rs)) (lines_text (blocks rs)) in
    omega arith
one_more_lem rs Allow f l i = let p = length-append (line_of (record_of Allow f)) (lines_text (allows rs)) in omega arith
one_more_lem rs Collection f l i = let p = length-append (line_of (record_of Collection f)) (lines_text (blocks rs)) in omega arith
one_more_lem rs Pattern f l i = let p = length-append (line_of (record_of Pattern f)) (lines_text (blocks rs)) in omega arith
one_more_lem rs Method f l i = let p = length-append (line_of (record_of Method f)) (lines_text (blocks rs)) in omega arith
one_more_lem rs Omit f l i = let p = length-append (line_of (record_of Omit f)) (lines_text (blocks rs)) in omega arith
one_more_lem rs End f l i = omega arith

lines_short : (rs : List Record) → fields_fit rs ≡ true → all_of rs ≤ 267 * length rs
unfolding lines_text roles_first allows blocks
lines_short [] e = omega arith
lines_short (r ∷ rs) e = one_more_lem rs r.kind r.field (line_short r (fits_first r rs e)) (lines_short rs (fits_rest r rs e))

-- ---- the whole listing
written_is : (rs : List Record) → written rs ≡ (first_line ++ newline ∷ []) ++ (lines_text (roles_first rs) ++ (lines_text (blocks rs) ++ bytes "end\n"))
unfolding written listing_text arranged
written_is rs =
    append_assoc (first_line ++ newline ∷ []) (lines_text (roles_first rs ++ blocks rs)) (bytes "end\n")
    ∙ ap (λ (t : Text). (first_line ++ newline ∷ []) ++ (t ++ bytes "end\n")) (lines_append (roles_first rs) (blocks rs))
    ∙ ap (λ (t : Text). (first_line ++ newline ∷ []) ++ t) (append_assoc (lines_text (roles_first rs)) (lines_text (blocks rs)) (bytes "end\n"))

module _ (s : Text) (n : ℕ) (w : List ℕ) (F : Formed s n w) where
  abbrev rs : List Record
  rs = records_at s n w

  all_short : all_of rs ≤ 961200
  all_short = let l = lines_short rs F.fit in let c = record_count s n w F in let f = F.few in omega arith

  module _ (a : ℕ) (p : a ≡ 14) where
    pub roles_room : a + length (lines_text (roles_first rs)) ≤ 999000
    roles_room = let l = all_short in omega arith

    module _ (b : ℕ) (q : b ≡ a + length (lines_text (roles_first rs))) where
      pub blocks_room : b + length (lines_text (blocks rs)) ≤ 999000
      blocks_room = let l = all_short in omega arith

      module _ (c : ℕ) (r : c ≡ b + length (lines_text (blocks rs))) where
        pub end_low : c ≤ 1000000
        end_low = let l = all_short in omega arith

        pub listing_size : (z : ℕ) → z ≡ c + 4 → z ≡ length (written rs)
        listing_size z e =
            let l = ap length (written_is rs) in
            let x = length-append (first_line ++ newline ∷ []) (lines_text (roles_first rs) ++ (lines_text (blocks rs) ++ bytes "end\n")) in
            let y = length-append (lines_text (roles_first rs)) (lines_text (blocks rs) ++ bytes "end\n") in
            let v = length-append (lines_text (blocks rs)) (bytes "end\n") in
            omega arith

        pub listing_bytes : (out d₁ d₂ d₃ d₄ : Text) → d₁ ≡ sets out 0 (bytes "constraints\t1\n") → d₂ ≡ sets d₁ a (lines_text (roles_first rs))
            → d₃ ≡ sets d₂ b (lines_text (blocks rs)) → d₄ ≡ sets d₃ c (bytes "end\n") → d₄ ≡ sets out 0 (written rs)
        listing_bytes out d₁ d₂ d₃ d₄ x y u v =
            sets_then out d₁ d₄ (first_line ++ newline ∷ []) (lines_text (roles_first rs) ++ (lines_text (blocks rs) ++ bytes "end\n")) 0 a p x
            (sets_then d₁ d₂ d₄ (lines_text (roles_first rs)) (lines_text (blocks rs) ++ bytes "end\n") a b q y
            (sets_then d₂ d₃ d₄ (lines_text (blocks rs)) (bytes "end\n") b c r u v))
            ∙ ap (sets out 0) (sym (written_is rs))
