-- The trial methods in the scratch: laws in the shape of the code.
use mathlib.Core.Path.{◌≡◌, sym, ap, subst, ◌∙◌}
use mathlib.Core.List.{List, []}
use Prim.Native.Nat.{ℕ, ◌+◌, ◌-◌, ◌≤◌, ◌<◌}
use native.Mathlib.Omega.{arith}
use lib.ListN.{length, get_or, set, drop}
use lib.Seq.{take-set-lt, drop-set-add}
use Rattle.text.specs.Texts.{Text, index_of, part}
use Rattle.reading.specs.Views.{View}
use Rattle.text.proofs.Indices.{index_bound}
use Rattle.grants.specs.Sides.{PairedUp}
use Rattle.firsts.specs.Keeping.{Kept}
use Rattle.numbers.specs.Writes.{BothLent, PairsWritten, MethodsWritten, put_pair}
use Rattle.firsts.proofs.Keepings.{kept_all, kept_set, kept_then}
use Rattle.trials.specs.Trials.{joined}
use Rattle.numbers.proofs.Pairings.{with_pair, PairedNew, PairedOld, new_more, old_start, old_known, old_more, all_paired}

-- ---- one pair
-- a number stored in a region
part_set : (a e i v : ℕ) (w : List ℕ) → a + i < e → part a e (set w (a + i) v) ≡ set (part a e w) i v
part_set a e i v w h = rw (drop-set-add a w i v) (take-set-lt (e - a) (drop a w) i v (omega arith))

-- a pair is put into the region
pair_part : (at n a b : ℕ) (w : List ℕ) → n < 64 → part at (at + 128) (put_pair at n a b w) ≡ with_pair n a b (part at (at + 128) w)
pair_part at n a b w h =
    let e : at + 64 + n ≡ at + (64 + n) = omega arith in
    rw e (part_set at (at + 128) (64 + n) b (set w (at + n) a) (omega arith) ∙ ap (λ (x : List ℕ). set x (64 + n) b) (part_set at (at + 128) n a w (omega arith)))

-- and nothing else changes
pair_kept : (at n a b : ℕ) (w₀ w : List ℕ) → n < 64 → Kept at (at + 128) w₀ w → Kept at (at + 128) w₀ (put_pair at n a b w)
pair_kept at n a b w₀ w h K =
    kept_set at (at + 128) w₀ (set w (at + n) a) (at + 64 + n) b (kept_set at (at + 128) w₀ w (at + n) a K (omega arith) (omega arith)) (omega arith) (omega arith)

-- there is still room for all of them
pub both_still : (old new : View) (at z a e : ℕ) (w₀ w : List ℕ) → BothLent old new at z w₀ → Kept a e w₀ w → BothLent old new at z w
both_still old new at z a e w₀ w B K = record { olds = B.olds; news = B.news; room = omega (arith, B.room, K.size) }

module _ (old new : View) (at : ℕ) where
  abbrev os : List Text
  os = old.methods

  abbrev ns : List Text
  ns = new.methods

  -- ---- those of new
  -- the first i of n are paired
  pub record PairingNew (n i : ℕ) (w₀ w : List ℕ) : Type 0 where
    pub all : n ≡ length ns
    pub lent : BothLent old new at 128 w
    pub kept : Kept at (at + 128) w₀ w
    pub up : PairedNew os ns n i (part at (at + 128) w)

  module _ (n : ℕ) where
    module _ (i : ℕ) (w₀ w : List ℕ) (P : PairingNew n i w₀ w) where
      -- one more
      pub pairing_more : (m : Text) (b : ℕ) (v : List ℕ) → i < n → m ≡ get_or ns i [] → b ≡ index_of m os → v ≡ put_pair at i b i w → PairingNew n (i + 1) w₀ v
      pairing_more m b v h e q p =
          let few : i < 64 = omega (arith, P.up.few) in
          let U = new_more os ns n P.all (part at (at + 128) w) i P.up P.lent.news.methods_once m b h e q in
          subst (PairingNew n (i + 1) w₀) (sym p) (record {
            all = P.all;
            lent = both_still old new at 128 at (at + 128) w (put_pair at i b i w) P.lent (pair_kept at i b i w w few (kept_all at (at + 128) w));
            kept = pair_kept at i b i w₀ w few P.kept;
            up = rw (pair_part at i b i w few) U;
          })

      -- there is room for it
      pub pairing_room : i < n → i < 64
      pairing_room h = omega (arith, P.up.few)

      -- its number is small
      pub pairing_small : (m : Text) (b : ℕ) → b ≡ index_of m os → b < 4294967296
      pairing_small m b q = omega (arith, P.lent.olds.few_methods, index_bound m os)

  -- ---- further ones of old
  -- those of the first j of n are paired behind new's own
  pub record PairingOld (own n count j : ℕ) (w₀ w : List ℕ) : Type 0 where
    pub own_all : own ≡ length ns
    pub all : n ≡ length os
    pub lent : BothLent old new at 128 w
    pub kept : Kept at (at + 128) w₀ w
    pub up : PairedOld os ns own n count j (part at (at + 128) w)

  module _ (own n : ℕ) where
    -- none yet
    pub further_start : (w : List ℕ) → own ≡ length ns → n ≡ length os → BothLent old new at 128 w → PairedUp os ns ns (part at (at + 128) w) → PairingOld own n own 0 w w
    further_start w d e B U = record {
      own_all = d;
      all = e;
      lent = B;
      kept = kept_all at (at + 128) w;
      up = old_start os ns own n d e (part at (at + 128) w) B.olds.few_methods B.news.few_methods U;
    }

    module _ (count j : ℕ) (w₀ w : List ℕ) (P : PairingOld own n count j w₀ w) where
      module _ (h : j < n) (m : Text) (e : m ≡ get_or os j []) (i : ℕ) (i-is : i ≡ index_of m ns) where
        -- new has it
        pub further_known : i < own → PairingOld own n count (j + 1) w₀ w
        further_known l = record {
          own_all = P.own_all;
          all = P.all;
          lent = P.lent;
          kept = P.kept;
          up = old_known os ns own n P.own_all P.all (part at (at + 128) w) count j P.up h m e i i-is l;
        }

        -- new hasn't it
        pub further_more : (v : List ℕ) → own ≤ i → v ≡ put_pair at count j own w → PairingOld own n (count + 1) (j + 1) w₀ v
        further_more v l p =
            let few : count < 64 = omega (arith, P.up.few.0, P.up.few.1, P.up.few.2) in
            let U = old_more os ns own n P.own_all P.all (part at (at + 128) w) count j P.up h m e i i-is P.lent.olds.methods_once l in
            subst (PairingOld own n (count + 1) (j + 1) w₀) (sym p) (record {
              own_all = P.own_all;
              all = P.all;
              lent = both_still old new at 128 at (at + 128) w (put_pair at count j own w) P.lent (pair_kept at count j own w w few (kept_all at (at + 128) w));
              kept = pair_kept at count j own w₀ w few P.kept;
              up = rw (pair_part at count j own w few) U;
            })

  -- ---- and the filler method
  module _ (w : List ℕ) (B : BothLent old new at 128 w) where
    -- the numbers of methods are small
    pub olds_small : (a : ℕ) → a ≡ length os → a < 4294967296
    olds_small a e = omega (arith, B.olds.few_methods)

    pub news_small : (b : ℕ) → b ≡ length ns → b < 4294967296
    news_small b e = omega (arith, B.news.few_methods)

    module _ (U : PairedUp os ns (joined ns os) (part at (at + 128) w)) (count : ℕ) (c-is : count ≡ length (joined ns os)) where
      pub last_room : count < 64
      last_room = omega (arith, U.few)

      pub last_put : (a b : ℕ) (v : List ℕ) → a ≡ length os → b ≡ length ns → v ≡ put_pair at count a b w → MethodsWritten os ns at w v (count + 1)
      last_put a b v a-is b-is p =
          let P = all_paired os ns B.olds.few_methods B.news.few_methods a b a-is b-is (part at (at + 128) w) count U c-is in
          subst (λ (u : List ℕ). MethodsWritten os ns at w u (count + 1)) (sym p) (record {
            kept = pair_kept at count a b w w last_room (kept_all at (at + 128) w);
            pairs = rw (pair_part at count a b w last_room) P;
          })

  -- ---- one after the other
  module _ (w₀ : List ℕ) (B : BothLent old new at 128 w₀) (w₁ : List ℕ) (N : PairsWritten os ns ns at w₀ w₁) where
    pub new_lent : BothLent old new at 128 w₁
    new_lent = both_still old new at 128 at (at + 128) w₀ w₁ B N.kept

    module _ (w₂ : List ℕ) (O : PairsWritten os ns (joined ns os) at w₁ w₂) where
      pub old_lent : BothLent old new at 128 w₂
      old_lent = both_still old new at 128 at (at + 128) w₁ w₂ new_lent O.kept

      pub all_methods : (r : ℕ) (w : List ℕ) → MethodsWritten os ns at w₂ w r → MethodsWritten os ns at w₀ w r
      all_methods r w M =
          let K = kept_then at (at + 128) at (at + 128) at (at + 128) w₀ w₁ w₂ N.kept O.kept (omega arith) (omega arith) (omega arith) (omega arith) in
          record { kept = kept_then at (at + 128) at (at + 128) at (at + 128) w₀ w₂ w K M.kept (omega arith) (omega arith) (omega arith) (omega arith); pairs = M.pairs }
