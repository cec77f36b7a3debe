-- The trial methods by their numbers among old's methods and among new's: laws in the shape of the code.
use mathlib.Core.Path.{◌≡◌, refl, sym, ap, ◌∙◌}
use mathlib.Core.Bool.{Bool, true, false, cond}
use mathlib.Core.List.{List, [], ◌∷◌, ◌++◌, append_assoc, append-nil}
use Prim.Native.Nat.{ℕ, ◌+◌, ◌≤◌, ◌<◌}
use native.Mathlib.Decide.{dec_lt}
use native.Mathlib.Numerals.{add-one}
use native.Mathlib.Omega.{arith}
use lib.ListN.{length, get_or, set, take, length-set, get_or-append}
use lib.Seq.{get_or-set_same, get_or-set_other, get_or-append_seam, take-suc, length-take-le}
use borrow.Author.Tests.{ltb-false, lt-ltb, le-ltb}
use Rattle.text.specs.Texts.{Text, member, index_of, Once}
use Rattle.trials.specs.Fillers.{filler_method}
use Rattle.trials.specs.Trials.{further, joined, methods_tried}
use Rattle.grants.specs.Sides.{PairsOf, PairedUp}
use Rattle.trials.proofs.Bounds.{unnamed_in_both}
use Rattle.text.proofs.Indices.{index_member, length_snoc, index_bound}

-- ---- one pair more
-- the numbers a, b of a text put behind those of the texts ms
abbrev pub with_pair : ℕ → ℕ → ℕ → List ℕ → List ℕ
with_pair n a b pairs = set (set pairs n a) (64 + n) b

module _ (us ms : List Text) (t : Text) (pairs : List ℕ) (a b n : ℕ) (z : length pairs ≡ 128) (n-is : n ≡ length ms) (few : n ≤ 62) where
  -- the first numbers
  more_firsts : a ≡ index_of t us → ((i : ℕ) → i < length ms → get_or pairs i 0 ≡ index_of (get_or ms i []) us)
      → (i : ℕ) → i < length (ms ++ t ∷ []) → get_or (with_pair n a b pairs) i 0 ≡ index_of (get_or (ms ++ t ∷ []) i []) us
  more_firsts e f i h = get_or-set_other (set pairs n a) (64 + n) i b 0 (λ q. omega (arith, length_snoc ms t)) ∙ go (dec_lt i (length ms))
    where
      go : Dec (i < length ms) → get_or (set pairs n a) i 0 ≡ index_of (get_or (ms ++ t ∷ []) i []) us
      go (yes l) = get_or-set_other pairs n i a 0 (λ q. omega arith) ∙ f i l ∙ ap (λ (u : Text). index_of u us) (sym (get_or-append ms (t ∷ []) [] i l))
      go (no l) =
          let q : i ≡ length ms = omega (arith, length_snoc ms t) in
          rw (q, n-is, get_or-append_seam ms t [] []) (get_or-set_same pairs (length ms) a 0 (omega arith) ∙ e)

  -- the second ones
  more_seconds : b ≡ index_of t us → ((i : ℕ) → i < length ms → get_or pairs (64 + i) 0 ≡ index_of (get_or ms i []) us)
      → (i : ℕ) → i < length (ms ++ t ∷ []) → get_or (with_pair n a b pairs) (64 + i) 0 ≡ index_of (get_or (ms ++ t ∷ []) i []) us
  more_seconds e f i h = go (dec_lt i (length ms))
    where
      go : Dec (i < length ms) → get_or (with_pair n a b pairs) (64 + i) 0 ≡ index_of (get_or (ms ++ t ∷ []) i []) us
      go (yes l) =
          get_or-set_other (set pairs n a) (64 + n) (64 + i) b 0 (λ q. omega arith) ∙ get_or-set_other pairs n (64 + i) a 0 (λ q. omega arith)
          ∙ f i l ∙ ap (λ (u : Text). index_of u us) (sym (get_or-append ms (t ∷ []) [] i l))
      go (no l) =
          let q : i ≡ length ms = omega (arith, length_snoc ms t) in
          rw (q, n-is, get_or-append_seam ms t [] []) (get_or-set_same (set pairs (length ms) a) (64 + length ms) b 0 (omega (arith, length-set pairs (length ms) a)) ∙ e)

module _ (os ns ms : List Text) (t : Text) (pairs : List ℕ) (a b n : ℕ) (U : PairedUp os ns ms pairs) (n-is : n ≡ length ms) (p : a ≡ index_of t os) (q : b ≡ index_of t ns) where
  -- the table stays as long
  pair_size : length (with_pair n a b pairs) ≡ 128
  pair_size = length-set (set pairs n a) (64 + n) b ∙ length-set pairs n a ∙ U.size

  -- and holds one method more
  pair_more : n ≤ 61 → PairedUp os ns (ms ++ t ∷ []) (with_pair n a b pairs)
  pair_more h = record {
    size = pair_size;
    few = omega (arith, length_snoc ms t);
    olds = more_firsts os ms t pairs a b n U.size n-is (omega arith) p U.olds;
    news = more_seconds ns ms t pairs a b n U.size n-is (omega arith) q U.news;
  }

-- a text that is none of them has their number for its index
unfound : (t : Text) (us : List Text) → length us ≤ index_of t us → length us ≡ index_of t us
unfound t us h = omega (arith, index_bound t us)

-- ---- those of new
-- the first i of them are paired
pub record PairedNew (os ns : List Text) (n i : ℕ) (pairs : List ℕ) : Type 0 where
  pub up : PairedUp os ns (take i ns) pairs
  pub so_far : i ≤ n
  pub few : n ≤ 31
  pub size : length pairs ≡ 128

module _ (os ns : List Text) (n : ℕ) (n-is : n ≡ length ns) (pairs : List ℕ) where
  module _ (i : ℕ) (P : PairedNew os ns n i pairs) where
    -- one more
    pub new_more : Once ns → (m : Text) (b : ℕ) → i < n → m ≡ get_or ns i [] → b ≡ index_of m os → PairedNew os ns n (i + 1) (with_pair i b i pairs)
    new_more once m b h e q =
        let l : i < length ns = omega arith in
        let z : i ≡ length (take i ns) = sym (length-take-le i ns (omega arith)) in
        let U = pair_more os ns (take i ns) (get_or ns i []) pairs b i i P.up z (rw e at q) (sym (once i l)) (omega (arith, P.few)) in
        record {
          up = rw (add-one i, take-suc ns i [] l) U;
          so_far = omega arith;
          few = P.few;
          size = U.size;
        }

-- ---- further ones of old
-- one text more, that is one of the first list, and one that isn't
further_more : (us ts : List Text) (t : Text) → further us (ts ++ t ∷ []) ≡ further us ts ++ cond (member t us) [] (t ∷ [])
unfolding further
further_more us [] t = refl
further_more us (v ∷ ts) t = go (member v us) (further_more us ts t)
  where
    go : (b : Bool) → further us (ts ++ t ∷ []) ≡ further us ts ++ cond (member t us) [] (t ∷ [])
        → cond b (further us (ts ++ t ∷ [])) (v ∷ further us (ts ++ t ∷ [])) ≡ cond b (further us ts) (v ∷ further us ts) ++ cond (member t us) [] (t ∷ [])
    go true e = e
    go false e = ap (λ (l : List Text). v ∷ l) e

-- the same for the two lists joined
joined_more : (us ts : List Text) (t : Text) → joined us (ts ++ t ∷ []) ≡ joined us ts ++ cond (member t us) [] (t ∷ [])
unfolding joined
joined_more us ts t = ap (λ (l : List Text). us ++ l) (further_more us ts t) ∙ sym (append_assoc us (further us ts) (cond (member t us) [] (t ∷ [])))

-- the methods of new, and further ones of the first j of old
pub record PairedOld (os ns : List Text) (own n count j : ℕ) (pairs : List ℕ) : Type 0 where
  pub up : PairedUp os ns (joined ns (take j os)) pairs
  pub count_is : count ≡ length (joined ns (take j os))
  pub so_far : j ≤ n
  pub few : (count ≤ own + j) × (own ≤ 31) × (n ≤ 31)
  pub size : length pairs ≡ 128

-- old has nothing to add
joined_none : (us : List Text) → joined us [] ≡ us
unfolding joined further
joined_none us = append-nil us

module _ (os ns : List Text) where
  module _ (own n : ℕ) (own_is : own ≡ length ns) (n-is : n ≡ length os) (pairs : List ℕ) where
    -- the methods of new
    pub old_start : length os ≤ 31 → length ns ≤ 31 → PairedUp os ns ns pairs → PairedOld os ns own n own 0 pairs
    old_start h l U = record {
      up = rw (joined_none ns) U;
      count_is = rw (joined_none ns) own_is;
      so_far = omega arith;
      few = (omega arith, omega arith, omega arith);
      size = U.size;
    }

    module _ (count j : ℕ) (P : PairedOld os ns own n count j pairs) where
      module _ (h : j < n) (m : Text) (e : m ≡ get_or os j []) (i : ℕ) (i-is : i ≡ index_of m ns) where
        here : j < length os
        here = omega arith

        -- with the next of old
        next : joined ns (take (j + 1) os) ≡ joined ns (take j os) ++ cond (member m ns) [] (m ∷ [])
        next = rw (add-one j, take-suc os j [] here, e) (joined_more ns (take j os) (get_or os j []))

        -- new has it
        pub old_known : i < own → PairedOld os ns own n count (j + 1) pairs
        old_known l =
            let k : member m ns ≡ true = sym (index_member m ns) ∙ lt-ltb (index_of m ns) (length ns) (omega arith) in
            let d : joined ns (take (j + 1) os) ≡ joined ns (take j os) = next ∙ rw k (append-nil (joined ns (take j os))) in
            record {
              up = rw d P.up;
              count_is = rw d P.count_is;
              so_far = omega arith;
              few = (omega (arith, P.few.0), P.few.1, P.few.2);
              size = P.size;
            }

        -- new hasn't it
        pub old_more : Once os → own ≤ i → PairedOld os ns own n (count + 1) (j + 1) (with_pair count j own pairs)
        old_more once l =
            let k : member m ns ≡ false = sym (index_member m ns) ∙ le-ltb (index_of m ns) (length ns) (omega arith) in
            let d : joined ns (take (j + 1) os) ≡ joined ns (take j os) ++ m ∷ [] = next ∙ rw k in
            let U = pair_more os ns (joined ns (take j os)) m pairs j own count P.up P.count_is
            (rw e (sym (once j here))) (own_is ∙ unfound m ns (omega arith)) (omega (arith, P.few.0, P.few.1, P.few.2)) in
            record {
              up = rw d U;
              count_is = rw d (omega (arith, P.count_is, length_snoc (joined ns (take j os)) m));
              so_far = omega arith;
              few = (omega (arith, P.few.0), P.few.1, P.few.2);
              size = U.size;
            }

  -- ---- and the filler method
  abbrev filler : Text
  filler = filler_method (ns ++ os)

  -- where it is not named it has the number of the methods for its index
  filler_index : (us : List Text) → member filler us ≡ false → length us ≡ index_of filler us
  filler_index us e = unfound filler us (ltb-false (index_of filler us) (length us) (index_member filler us ∙ e))

  -- it stands last
  pub all_paired : length os ≤ 31 → length ns ≤ 31 → (a b : ℕ) → a ≡ length os → b ≡ length ns → (pairs : List ℕ) (count : ℕ) → PairedUp os ns (joined ns os) pairs
      → count ≡ length (joined ns os) → PairsOf os ns (with_pair count a b pairs) (count + 1)
  unfolding methods_tried
  all_paired h l a b a-is b-is pairs count U c =
      let u = unnamed_in_both os ns h l in
      let p : a ≡ index_of filler os = a-is ∙ filler_index os u.1 in
      let q : b ≡ index_of filler ns = b-is ∙ filler_index ns u.0 in
      let z : count + 1 ≡ length (joined ns os ++ filler ∷ []) = omega (arith, length_snoc (joined ns os) filler) in
      record {
        size = pair_size os ns (joined ns os) filler pairs a b count U c p q;
        all = z;
        few = omega (arith, U.few);
        olds = λ i h. more_firsts os (joined ns os) filler pairs a b count U.size c (omega (arith, U.few)) p U.olds i (omega arith);
        news = λ i h. more_seconds ns (joined ns os) filler pairs a b count U.size c (omega (arith, U.few)) q U.news i (omega arith);
      }
