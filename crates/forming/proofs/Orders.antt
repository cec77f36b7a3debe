-- The records one after the other, and what each puts in the listing's order.
use mathlib.Core.Path.{◌≡◌, refl, sym, ap, ap₂, subst, ◌∙◌}
use mathlib.Core.Bool.{Bool, true, false, not, cond, ◌&&◌, ◌||◌}
use mathlib.Core.List.{List, [], ◌∷◌, ◌++◌, map, append_assoc, append-nil}
use Prim.Native.Nat.{ℕ, zero, suc, ◌+◌, ◌-◌, ◌%◌, ◌≤◌, ◌<◌}
use native.Mathlib.Numerals.{add-one}
use native.Mathlib.Omega.{arith}
use lib.Dec.{eqb, leb, ltb}
use lib.ListN.{length, take, drop, get_or, length-append, length-drop, length-map, get_or-map, drop_of_length-le}
use lib.Seq.{sets, length-take-le, drop-cons, get_or-take, get_or-drop, take_all}
use borrow.Author.Tests.{leb-true, ltb-false}
use Rattle.text.specs.Texts.{Text}
use Rattle.text.proofs.Truths.{and_left, and_right, never}
use Rattle.writing.proofs.Puts.{sets_then}
use Rattle.listings.specs.Records.{Record, is_kind, kind_number}
use Rattle.listings.specs.declared.records.Kind.{Kind}
use Rattle.listings.specs.declared.records.Kind.TheVariants.{Role, Constraint, Allow, Collection, Pattern, Method, Omit, End}
use Rattle.portals.specs.Records.{record_of}
use Rattle.portals.specs.Listings.{roles_first, allows, blocks, line_of, lines_text}
use Rattle.ledger.specs.Ledgers.{least, most_kept}
use Rattle.ledger.specs.Places.{kind_by, record_at, records_at}
use Rattle.forming.specs.Formed.{fields_fit, Writable, Formed, is_constraint, chosen, begun}
use Rattle.forming.proofs.Lefts.{Left, left_behind, left_low}

-- ---- texts put, by what they are
pub put_place : (t u : Text) (r at : ℕ) → u ≡ t → r ≡ at + length t → r ≡ at + length u
put_place t u r at e p = p ∙ ap (λ (x : Text). at + length x) (sym e)

pub put_bytes : (t u out d : Text) (at : ℕ) → u ≡ t → d ≡ sets out at t → d ≡ sets out at u
put_bytes t u out d at e p = p ∙ ap (sets out at) (sym e)

pub nothing_place : (u : Text) (at : ℕ) → u ≡ [] → at ≡ at + length u
nothing_place u at e = let l : length u ≡ 0 = ap length e in omega arith

pub nothing_bytes : (u out : Text) (at : ℕ) → u ≡ [] → out ≡ sets out at u
nothing_bytes u out at e = ap (sets out at) (sym e)

-- ---- the records of the table
few_kept : (n : ℕ) → n ≤ most_kept → least n most_kept ≡ n
few_kept n h = go (ltb n most_kept) refl
  where
    go : (b : Bool) → ltb n most_kept ≡ b → cond b n most_kept ≡ n
    go true e = refl
    go false e = let l = ltb-false n most_kept e in omega arith

module _ (s : Text) (n : ℕ) (w : List ℕ) (F : Formed s n w) where
  records_are : records_at s n w ≡ map (record_at s) (take n w)
  unfolding records_at
  records_are = ap (λ (k : ℕ). map (record_at s) (take k w)) (few_kept n F.few)

  pub record_count : length (records_at s n w) ≡ n
  record_count = ap length records_are ∙ length-map (take n w) (record_at s) ∙ length-take-le n w F.within

  pub record_here : (i : ℕ) → i < n → drop i (records_at s n w) ≡ record_at s (get_or w i 0) ∷ drop (i + 1) (records_at s n w)
  record_here i h =
      let l = record_count in
      drop-cons (records_at s n w) i (record_at s 0) (omega arith)
      ∙ ap₂ (λ (r : Record) (rs : List Record). r ∷ rs)
      (ap (λ (rs : List Record). get_or rs i (record_at s 0)) records_are ∙ get_or-map (record_at s) (take n w) i 0 ∙ ap (record_at s) (get_or-take n w i 0 h))
      (ap (λ (k : ℕ). drop k (records_at s n w)) (sym (add-one i)))

  pub records_over : (i : ℕ) → n ≤ i → drop i (records_at s n w) ≡ []
  records_over i h = let l = record_count in drop_of_length-le (records_at s n w) {i = i} (omega arith)

  -- their fields fit
  fit_behind : (rs : List Record) (i : ℕ) → fields_fit rs ≡ true → fields_fit (drop i rs) ≡ true
  unfolding fields_fit
  fit_behind rs zero e = e
  fit_behind [] (suc i) e = refl
  fit_behind (r ∷ rs) (suc i) e = fit_behind rs i (and_right (leb (length r.field) 255) (fields_fit rs) e)

  fits_here : (i : ℕ) → i < n → length (record_at s (get_or w i 0)).field ≤ 255
  unfolding fields_fit
  fits_here i h =
      let e : fields_fit (record_at s (get_or w i 0) ∷ drop (i + 1) (records_at s n w)) ≡ true = ap fields_fit (sym (record_here i h)) ∙ fit_behind (records_at s n w) i F.fit in
      let l : leb (length (record_at s (get_or w i 0)).field) 255 ≡ true = and_left (leb (length (record_at s (get_or w i 0)).field) 255) (fields_fit (drop (i + 1) (records_at s n w))) e in
      leb-true (length (record_at s (get_or w i 0)).field) 255 l

  pub record_writable : (i e : ℕ) → i < n → e ≤ 999000 → Writable s (get_or w i 0) e
  record_writable i e h l = record { short = F.short; fits = fits_here i h; low = l }

  -- among those from i to n
  module _ (i k : ℕ) (a : i ≤ n) (h : k < length (take (n - i) (drop i w))) where
    behind_count : length (take (n - i) (drop i w)) ≡ n - i
    behind_count = length-take-le (n - i) (drop i w) (let l = length-drop i w in let f = F.within in omega arith)

    pub behind_low : i + k < n
    behind_low = let l = behind_count in omega arith

    pub behind_is : get_or (take (n - i) (drop i w)) k 0 ≡ get_or w (i + k) 0
    behind_is = get_or-take (n - i) (drop i w) k 0 (let l = behind_count in omega arith) ∙ get_or-drop i w k 0

    pub record_behind : (e : ℕ) → e ≤ 999000 → Writable s (get_or (take (n - i) (drop i w)) k 0) e
    record_behind e l = rw behind_is (record_writable (i + k) e behind_low l)

-- ---- the first n numbers of a table, lent
module _ (s : Text) (n : ℕ) (w : List ℕ) (F : Formed s n w) where
  lent_count : length (take n w) ≡ n
  lent_count = length-take-le n w F.within

  pub lent_records : records_at s (length (take n w)) (take n w) ≡ records_at s n w
  unfolding records_at
  lent_records =
      ap (λ (k : ℕ). map (record_at s) (take (least k most_kept) (take n w))) lent_count
      ∙ ap (λ (k : ℕ). map (record_at s) (take k (take n w))) (few_kept n F.few)
      ∙ ap (map (record_at s)) (take_all n (take n w) (let c = lent_count in omega arith))
      ∙ sym (records_are s n w F)

  pub lent_formed : Formed s (length (take n w)) (take n w)
  lent_formed = record {
    short = F.short;
    few = (let c = lent_count in let f = F.few in omega arith);
    within = omega arith;
    fit = ap fields_fit lent_records ∙ F.fit;
  }

-- ---- what one record puts
pub lines_append : (a b : List Record) → lines_text (a ++ b) ≡ lines_text a ++ lines_text b
unfolding lines_text
lines_append [] b = refl
lines_append (r ∷ a) b = ap (λ (t : Text). line_of r ++ t) (lines_append a b) ∙ sym (append_assoc (line_of r) (lines_text a) (lines_text b))

one_line : (r : Record) → lines_text (r ∷ []) ≡ line_of r
unfolding lines_text
one_line r = append-nil (line_of r)

roles_then : (r : Record) (rs : List Record) → roles_first (r ∷ rs) ≡ roles_first (r ∷ []) ++ roles_first rs
unfolding roles_first
roles_then r rs = go (is_kind Role r)
  where
    go : (b : Bool) → cond b (r ∷ roles_first rs) (roles_first rs) ≡ cond b (r ∷ []) [] ++ roles_first rs
    go true = refl
    go false = refl

allows_then : (r : Record) (rs : List Record) → is_kind Constraint r ≡ false → allows (r ∷ rs) ≡ allows (r ∷ []) ++ allows rs
unfolding allows
allows_then r rs e = rw e (go (is_kind Allow r))
  where
    go : (b : Bool) → cond b (r ∷ allows rs) (allows rs) ≡ cond b (r ∷ []) [] ++ allows rs
    go true = refl
    go false = refl

blocks_then : (r : Record) (rs : List Record) → blocks (r ∷ rs) ≡ begun (r ∷ rs) ++ blocks rs
unfolding blocks begun
blocks_then r rs = go r.kind r.field
  where
    go : (k : Kind) (f : Text) → blocks (record_of k f ∷ rs) ≡ begun (record_of k f ∷ rs) ++ blocks rs
    go Role f = refl
    go Constraint f = refl
    go Allow f = refl
    go Collection f = refl
    go Pattern f = refl
    go Method f = refl
    go Omit f = refl
    go End f = refl

-- by the number of its kind
eight : (P : ℕ → Type 0) → P 0 → P 1 → P 2 → P 3 → P 4 → P 5 → P 6 → P 7 → (k : ℕ) → k < 8 → P k
eight P a b c d e f g h zero l = a
eight P a b c d e f g h (suc zero) l = b
eight P a b c d e f g h (suc (suc zero)) l = c
eight P a b c d e f g h (suc (suc (suc zero))) l = d
eight P a b c d e f g h (suc (suc (suc (suc zero)))) l = e
eight P a b c d e f g h (suc (suc (suc (suc (suc zero))))) l = f
eight P a b c d e f g h (suc (suc (suc (suc (suc (suc zero)))))) l = g
eight P a b c d e f g h (suc (suc (suc (suc (suc (suc (suc zero))))))) l = h
eight P a b c d e f g h (suc (suc (suc (suc (suc (suc (suc (suc k)))))))) l = absurd (omega (arith, l))

module _ (s : Text) (x : ℕ) where
  small : x % 8 < 8
  small = omega arith

  abbrev its : Record
  its = record_at s x

  constraint_is : is_kind Constraint its ≡ is_constraint x
  constraint_is = eight (λ k. eqb (kind_number (kind_by k)) 1 ≡ (eqb k 1 || eqb k 2)) refl refl refl refl refl refl refl refl (x % 8) small

  roles_are : roles_first (its ∷ []) ≡ cond (eqb (x % 8) 0) (its ∷ []) []
  unfolding roles_first
  roles_are = ap (λ (b : Bool). cond b (its ∷ []) []) (eight (λ k. eqb (kind_number (kind_by k)) 0 ≡ eqb k 0) refl refl refl refl refl refl refl refl (x % 8) small)

  allows_are : allows (its ∷ []) ≡ cond (eqb (x % 8) 3) (its ∷ []) []
  unfolding allows
  allows_are = go (x % 8) its.field small
    where
      go : (k : ℕ) (f : Text) → k < 8 → allows (record_of (kind_by k) f ∷ []) ≡ cond (eqb k 3) (record_of (kind_by k) f ∷ []) []
      go k f l = eight (λ k. allows (record_of (kind_by k) f ∷ []) ≡ cond (eqb k 3) (record_of (kind_by k) f ∷ []) []) refl refl refl refl refl refl refl refl k l

  blocks_are : is_constraint x ≡ false → blocks (its ∷ []) ≡ chosen (not (eqb (x % 8) 0) && not (eqb (x % 8) 3)) its
  unfolding blocks
  blocks_are e = go (x % 8) its.field small e
    where
      go : (k : ℕ) (f : Text) → k < 8 → (eqb k 1 || eqb k 2) ≡ false → blocks (record_of (kind_by k) f ∷ []) ≡ chosen (not (eqb k 0) && not (eqb k 3)) (record_of (kind_by k) f)
      go k f l e =
          eight (λ k. (eqb k 1 || eqb k 2) ≡ false → blocks (record_of (kind_by k) f ∷ []) ≡ chosen (not (eqb k 0) && not (eqb k 3)) (record_of (kind_by k) f))
          (λ z. refl) (λ z. absurd (never true refl z)) (λ z. absurd (never true refl z)) (λ z. refl) (λ z. refl) (λ z. refl) (λ z. refl) (λ z. refl) k l e

  -- the line of a record that is wanted, and none
  module _ (b : Bool) where
    pub line_wanted : b ≡ true → lines_text (chosen b (record_at s x)) ≡ line_of (record_at s x)
    line_wanted e = ap (λ (c : Bool). lines_text (chosen c its)) e ∙ one_line its

    pub none_wanted : b ≡ false → lines_text (chosen b (record_at s x)) ≡ []
    unfolding lines_text
    none_wanted e = ap (λ (c : Bool). lines_text (chosen c its)) e

-- ---- the turns of the loops
module _ (s : Text) (n : ℕ) (w : List ℕ) (F : Formed s n w) (i : ℕ) where
  abbrev rs : List Record
  rs = records_at s n w

  roles_here : i < n → lines_text (roles_first (drop i rs)) ≡ lines_text (roles_first (record_at s (get_or w i 0) ∷ [])) ++ lines_text (roles_first (drop (i + 1) rs))
  roles_here h =
      ap (λ (l : List Record). lines_text (roles_first l)) (record_here s n w F i h)
      ∙ ap lines_text (roles_then (record_at s (get_or w i 0)) (drop (i + 1) rs))
      ∙ lines_append (roles_first (record_at s (get_or w i 0) ∷ [])) (roles_first (drop (i + 1) rs))

  pub roles_over : n ≤ i → lines_text (roles_first (drop i rs)) ≡ []
  unfolding lines_text roles_first
  roles_over h = ap (λ (l : List Record). lines_text (roles_first l)) (records_over s n w F i h)

  allows_here : i < n → is_constraint (get_or w i 0) ≡ false
      → lines_text (allows (drop i rs)) ≡ lines_text (allows (record_at s (get_or w i 0) ∷ [])) ++ lines_text (allows (drop (i + 1) rs))
  allows_here h c =
      ap (λ (l : List Record). lines_text (allows l)) (record_here s n w F i h)
      ∙ ap lines_text (allows_then (record_at s (get_or w i 0)) (drop (i + 1) rs) (constraint_is s (get_or w i 0) ∙ c))
      ∙ lines_append (allows (record_at s (get_or w i 0) ∷ [])) (allows (drop (i + 1) rs))

  stop_here : i < n → (b : Bool) → b ≡ is_constraint (get_or w i 0) → b ≡ true → lines_text (allows (drop i rs)) ≡ []
  unfolding lines_text allows
  stop_here h b e y =
      ap (λ (l : List Record). lines_text (allows l)) (record_here s n w F i h)
      ∙ ap (λ (b : Bool). lines_text (cond b [] (cond (is_kind Allow (record_at s (get_or w i 0))) (record_at s (get_or w i 0) ∷ allows (drop (i + 1) rs)) (allows (drop (i + 1) rs)))))
      (constraint_is s (get_or w i 0) ∙ sym e ∙ y)

  pub allows_over : n ≤ i → lines_text (allows (drop i rs)) ≡ []
  unfolding lines_text allows
  allows_over h = ap (λ (l : List Record). lines_text (allows l)) (records_over s n w F i h)

  blocks_here : i < n → lines_text (blocks (drop i rs)) ≡ lines_text (begun (drop i rs)) ++ lines_text (blocks (drop (i + 1) rs))
  blocks_here h =
      ap (λ (l : List Record). lines_text (blocks l)) (record_here s n w F i h)
      ∙ ap lines_text (blocks_then (record_at s (get_or w i 0)) (drop (i + 1) rs))
      ∙ lines_append (begun (record_at s (get_or w i 0) ∷ drop (i + 1) rs)) (blocks (drop (i + 1) rs))
      ∙ ap (λ (l : List Record). lines_text (begun l) ++ lines_text (blocks (drop (i + 1) rs))) (sym (record_here s n w F i h))

  pub blocks_over : n ≤ i → lines_text (blocks (drop i rs)) ≡ []
  unfolding lines_text blocks
  blocks_over h = ap (λ (l : List Record). lines_text (blocks l)) (records_over s n w F i h)

  -- what a constraint puts, and what another record puts
  pub begun_constraint : i < n → is_constraint (get_or w i 0) ≡ true
      → lines_text (begun (drop i rs)) ≡ line_of (record_at s (get_or w i 0)) ++ lines_text (allows (drop (i + 1) rs))
  unfolding begun lines_text
  begun_constraint h c =
      ap (λ (l : List Record). lines_text (begun l)) (record_here s n w F i h)
      ∙ ap (λ (b : Bool). lines_text (cond b (record_at s (get_or w i 0) ∷ allows (drop (i + 1) rs)) (blocks (record_at s (get_or w i 0) ∷ [])))) (constraint_is s (get_or w i 0) ∙ c)

  pub begun_part : i < n → is_constraint (get_or w i 0) ≡ false → lines_text (begun (drop i rs)) ≡ lines_text (blocks (record_at s (get_or w i 0) ∷ []))
  unfolding begun
  begun_part h c =
      ap (λ (l : List Record). lines_text (begun l)) (record_here s n w F i h)
      ∙ ap (λ (b : Bool). lines_text (cond b (record_at s (get_or w i 0) ∷ allows (drop (i + 1) rs)) (blocks (record_at s (get_or w i 0) ∷ [])))) (constraint_is s (get_or w i 0) ∙ c)

  module _ (first : Text) (at : ℕ) (whole out : Text) (e : ℕ) where
    pub turn_low : (t : Text) → Left first at whole out e t → at + length whole ≤ 999000 → e ≤ 999000
    turn_low t L h = let l = left_low first at whole out e 999000 t L h in omega arith

    pub role_turn : (e' : ℕ) (out' : Text) → i < n → Left first at whole out e (lines_text (roles_first (drop i rs)))
        → (b : Bool) → b ≡ eqb (get_or w i 0 % 8) 0
        → e' ≡ e + length (lines_text (chosen b (record_at s (get_or w i 0)))) → out' ≡ sets out e (lines_text (chosen b (record_at s (get_or w i 0))))
        → Left first at whole out' e' (lines_text (roles_first (drop (i + 1) rs)))
    role_turn e' out' h L b q p d =
        left_behind first at whole out e _ (lines_text (chosen b (record_at s (get_or w i 0)))) _
        (roles_here h
        ∙ ap (λ (t : Text). t ++ lines_text (roles_first (drop (i + 1) rs))) (ap lines_text (roles_are s (get_or w i 0)) ∙ ap (λ (c : Bool). lines_text (chosen c (record_at s (get_or w i 0)))) (sym q)))
        L e' out' p d

    turn_here : (e' : ℕ) (out' : Text) → i < n → (b : Bool) → b ≡ is_constraint (get_or w i 0) → b ≡ false → Left first at whole out e (lines_text (allows (drop i rs)))
        → (a : Bool) → a ≡ eqb (get_or w i 0 % 8) 3
        → e' ≡ e + length (lines_text (chosen a (record_at s (get_or w i 0)))) → out' ≡ sets out e (lines_text (chosen a (record_at s (get_or w i 0))))
        → Left first at whole out' e' (lines_text (allows (drop (i + 1) rs)))
    turn_here e' out' h t is c L a q p b =
        left_behind first at whole out e _ (lines_text (chosen a (record_at s (get_or w i 0)))) _
        (allows_here h (sym is ∙ c)
        ∙ ap (λ (t : Text). t ++ lines_text (allows (drop (i + 1) rs))) (ap lines_text (allows_are s (get_or w i 0)) ∙ ap (λ (c : Bool). lines_text (chosen c (record_at s (get_or w i 0)))) (sym q)))
        L e' out' p b

    pub block_turn : (e' : ℕ) (out' : Text) → i < n → Left first at whole out e (lines_text (blocks (drop i rs)))
        → e' ≡ e + length (lines_text (begun (drop i rs))) → out' ≡ sets out e (lines_text (begun (drop i rs)))
        → Left first at whole out' e' (lines_text (blocks (drop (i + 1) rs)))
    block_turn e' out' h L p b = left_behind first at whole out e _ (lines_text (begun (drop i rs))) _ (blocks_here h) L e' out' p b

    pub block_room : i < n → Left first at whole out e (lines_text (blocks (drop i rs))) → at + length whole ≤ 999000 → e + length (lines_text (begun (drop i rs))) ≤ 999000
    block_room h L l =
        let a = left_low first at whole out e 999000 _ L l in
        let b : length (lines_text (blocks (drop i rs))) ≡ length (lines_text (begun (drop i rs))) + length (lines_text (blocks (drop (i + 1) rs)))
        = ap length (blocks_here h) ∙ length-append (lines_text (begun (drop i rs))) (lines_text (blocks (drop (i + 1) rs))) in
        omega arith

-- ---- the names that are allowed from record i on: k of the records are behind
module _ (s : Text) (n : ℕ) (w : List ℕ) (F : Formed s n w) (i k : ℕ) where
  pub allows_stop : i ≤ n → k < length (take (n - i) (drop i w)) → (b : Bool) → b ≡ is_constraint (get_or (take (n - i) (drop i w)) k 0) → b ≡ true
      → lines_text (allows (drop (i + k) (records_at s n w))) ≡ []
  allows_stop a h b e y = stop_here s n w F (i + k) (behind_low s n w F i k a h) b (e ∙ ap is_constraint (behind_is s n w F i k a h)) y

  pub allow_turn : (first : Text) (at : ℕ) (whole out : Text) (e e' : ℕ) (out' : Text) → i ≤ n → k < length (take (n - i) (drop i w))
      → (b : Bool) → b ≡ is_constraint (get_or (take (n - i) (drop i w)) k 0) → b ≡ false → Left first at whole out e (lines_text (allows (drop (i + k) (records_at s n w))))
      → (c : Bool) → c ≡ eqb (get_or (take (n - i) (drop i w)) k 0 % 8) 3
      → e' ≡ e + length (lines_text (chosen c (record_at s (get_or (take (n - i) (drop i w)) k 0)))) → out' ≡ sets out e (lines_text (chosen c (record_at s (get_or (take (n - i) (drop i w)) k 0))))
      → Left first at whole out' e' (lines_text (allows (drop (i + (k + 1)) (records_at s n w))))
  allow_turn first at whole out e e' out' a h b is f L c q p d =
      subst (λ (j : ℕ). Left first at whole out' e' (lines_text (allows (drop j (records_at s n w))))) next
      (turn_here s n w F (i + k) first at whole out e e' out' (behind_low s n w F i k a h) b (is ∙ ap is_constraint here) f L c (q ∙ ap (λ (y : ℕ). eqb (y % 8) 3) here)
      (p ∙ ap (λ (y : ℕ). e + length (lines_text (chosen c (record_at s y)))) here) (d ∙ ap (λ (y : ℕ). sets out e (lines_text (chosen c (record_at s y)))) here))
    where
      here : get_or (take (n - i) (drop i w)) k 0 ≡ get_or w (i + k) 0
      here = behind_is s n w F i k a h

      next : i + k + 1 ≡ i + (k + 1)
      next = omega arith

-- ---- a constraint and the names that it allows
module _ (s : Text) (n : ℕ) (w : List ℕ) (F : Formed s n w) (i at e : ℕ) (h : i < n)
    (t : Bool) (is : t ≡ is_constraint (get_or w i 0)) (yes : t ≡ true) (p : e ≡ at + length (line_of (record_at s (get_or w i 0)))) where
  its_length : length (lines_text (begun (drop i (records_at s n w)))) ≡ length (line_of (record_at s (get_or w i 0))) + length (lines_text (allows (drop (i + 1) (records_at s n w))))
  its_length = ap length (begun_constraint s n w F i h (sym is ∙ yes)) ∙ length-append (line_of (record_at s (get_or w i 0))) (lines_text (allows (drop (i + 1) (records_at s n w))))

  pub allows_room : at + length (lines_text (begun (drop i (records_at s n w)))) ≤ 999000 → e + length (lines_text (allows (drop (i + 1) (records_at s n w)))) ≤ 999000
  allows_room l = let q = its_length in omega arith

  pub constraint_place : (r : ℕ) → r ≡ e + length (lines_text (allows (drop (i + 1) (records_at s n w)))) → r ≡ at + length (lines_text (begun (drop i (records_at s n w))))
  constraint_place r q = let l = its_length in omega arith

  pub constraint_bytes : (out d d' : Text) → d ≡ sets out at (line_of (record_at s (get_or w i 0))) → d' ≡ sets d e (lines_text (allows (drop (i + 1) (records_at s n w))))
      → d' ≡ sets out at (lines_text (begun (drop i (records_at s n w))))
  constraint_bytes out d d' a b =
      sets_then out d d' (line_of (record_at s (get_or w i 0))) (lines_text (allows (drop (i + 1) (records_at s n w)))) at e p a b
      ∙ ap (sets out at) (sym (begun_constraint s n w F i h (sym is ∙ yes)))

module _ (s : Text) (n : ℕ) (w : List ℕ) (F : Formed s n w) (i at : ℕ) where
  pub block_writable : i < n → at + length (lines_text (begun (drop i (records_at s n w)))) ≤ 999000 → Writable s (get_or w i 0) at
  block_writable h l = record_writable s n w F i at h (omega arith)

  -- another record
  module _ (h : i < n) (t : Bool) (is : t ≡ is_constraint (get_or w i 0)) (no : t ≡ false) where
    pub no_constraint : is_constraint (get_or w i 0) ≡ false
    no_constraint = sym is ∙ no

    pub part_begun : (a c : Bool) → a ≡ eqb (get_or w i 0 % 8) 0 → c ≡ eqb (get_or w i 0 % 8) 3
        → lines_text (begun (drop i (records_at s n w))) ≡ lines_text (chosen (not a && not c) (record_at s (get_or w i 0)))
    part_begun a c e f =
        begun_part s n w F i h no_constraint
        ∙ ap lines_text (blocks_are s (get_or w i 0) no_constraint)
        ∙ ap₂ (λ (a c : Bool). lines_text (chosen (not a && not c) (record_at s (get_or w i 0)))) (sym e) (sym f)
